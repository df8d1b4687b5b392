-- A number goes out, and the last number of each block before its own goes to the next.
use Rattle.std.proofs.Common.{◌≡◌, ◌∙◌, ℕ, zero, suc, ◌+◌, ◌<◌, List, [], ◌∷◌, ◌++◌, length, take, drop, get_or, set, refl, sym, ap, ap₂, append_assoc, append-nil, length-set, ⊎_elim, arith}
use Rattle.std.specs.List.{concat, remove}
use Rattle.std.proofs.lemmas.Bool.{cases_eq}
use Rattle.std.proofs.lemmas.List.{drop-drop, drop-set-lt, get_or-drop, get_or_read, get_or-set_other, get_or-set_same, length_push, take_more, take_more_set}
use Rattle.std.proofs.lemmas.List.Edits.{length-remove}
use Rattle.tiered_vec.specs.Tiers.{IsShifted, IsShorter, block_at, count_before}
use Rattle.tiered_vec.proofs.ConcatLemmas.{concat_push, concat_set, remove_at}

-- a block that was not reached is as before
same_block : (bs ws : List (List ℕ)) (j number : ℕ) → IsShifted bs ws j number → block_at ws j ≡ block_at bs j
same_block bs ws j number h =
    let e : j + 0 ≡ j = omega arith in
    ap (block_at ws) (sym e) ∙ sym (get_or-drop j ws 0 []) ∙ ap (λ t. block_at t 0) (h.rest) ∙ get_or-drop j bs 0 [] ∙ ap (block_at bs) e

rest_more : (bs ws : List (List ℕ)) (j number : ℕ) → IsShifted bs ws j number → drop (j + 1) ws ≡ drop (j + 1) bs
rest_more bs ws j number h = sym (drop-drop 1 j ws) ∙ ap (drop 1) (h.rest) ∙ drop-drop 1 j bs

pub shift_begin : (bs : List (List ℕ)) (b x : List ℕ) (number : ℕ) → 0 < length bs → b ≡ get_or bs 0 b → b ≡ x ++ number ∷ [] → IsShifted bs (set bs 0 x) 1 number
shift_begin [] b x number some read is = absurd (omega (arith, some))
shift_begin (c ∷ cs) b x number some read is =
    let e : x ++ number ∷ [] ≡ c = sym is ∙ read in
    let n = ap length e in
    record {
      shorter = record { size = refl; first = omega (arith, n, length_push x number); others = others };
      front = ap (λ t. t ++ number ∷ []) (append-nil x) ∙ e ∙ sym (append-nil c);
      rest = refl;
    } where
      others : (i : ℕ) → 0 < i → length (block_at (x ∷ cs) i) ≡ length (block_at (c ∷ cs) i)
      others zero behind = absurd (omega (arith, behind))
      others (suc i) behind = refl

-- one block is another of its length
shorter_set : (bs ws : List (List ℕ)) (j : ℕ) (x : List ℕ) → IsShorter bs ws → 0 < j → j < length ws → length x ≡ length (block_at bs j) → IsShorter bs (set ws j x)
shorter_set bs ws j x h behind inside is = record {
  size = length-set ws j x ∙ h.size;
  first = ap (λ t. suc (length t)) (get_or-set_other ws j 0 x [] (omega (arith, behind))) ∙ h.first;
  others = λ i after. ⊎_elim
      (λ e. rw e (ap length (get_or-set_same ws j x [] inside) ∙ is))
      (λ apart. ap length (get_or-set_other ws j i x [] apart) ∙ h.others i after)
      (cases_eq i j);
}

pub shift_step : (bs ws : List (List ℕ)) (j number next : ℕ) (b x : List ℕ) → IsShifted bs ws j number → 0 < j → j < length ws → b ≡ get_or ws j b → x ++ next ∷ [] ≡ number ∷ b → IsShifted bs (set ws j x) (j + 1) next
shift_step bs ws j number next b x h behind inside read is =
    let before : b ≡ block_at bs j = get_or_read ws j b inside read [] ∙ same_block bs ws j number h in
    let size : length ws ≡ length bs = h.shorter.size in
    let n = ap length is in
    let m = ap length before in
    let f : List ℕ = concat (take j ws) in
    let taken : concat (take (j + 1) (set ws j x)) ≡ f ++ x = ap concat (take_more_set ws j x inside) ∙ concat_push (take j ws) x in
    let old : concat (take (j + 1) bs) ≡ concat (take j bs) ++ block_at bs j = ap concat (take_more bs j [] (omega (arith, inside, size))) ∙ concat_push (take j bs) (block_at bs j) in
    record {
      shorter = shorter_set bs ws j x (h.shorter) behind inside (omega (arith, n, m, length_push x next));
      front = ap (λ t. t ++ next ∷ []) taken ∙ append_assoc f x (next ∷ []) ∙ ap (λ t. f ++ t) is
          ∙ sym (append_assoc f (number ∷ []) b) ∙ ap₂ (λ s t. s ++ t) (h.front) before ∙ sym old;
      rest = drop-set-lt (j + 1) ws j x (omega arith) ∙ rest_more bs ws j number h;
    }

-- the number that went out of the blocks before takes the room of one that goes out of this
pub record IsLeft (bs new : List (List ℕ)) (block within : ℕ) : Type 0 where
  pub left : concat new ≡ remove (concat bs) (count_before bs block + within)
  pub shorter : IsShorter bs new

pub shift_end : (bs ws : List (List ℕ)) (j number p : ℕ) (b x : List ℕ) → IsShifted bs ws j number → 0 < j → j < length ws → p < length (block_at bs j) → b ≡ get_or ws j b → x ≡ number ∷ remove b p → IsLeft bs (set ws j x) j p
shift_end bs ws j number p b x h behind inside within read is =
    let before : b ≡ block_at bs j = get_or_read ws j b inside read [] ∙ same_block bs ws j number h in
    let size : length ws ≡ length bs = h.shorter.size in
    let left : List ℕ = remove (block_at bs j) p in
    let made : x ≡ number ∷ left = is ∙ ap (λ t. number ∷ remove t p) before in
    let n = ap length made in
    let f : List ℕ = concat (take j ws) in
    let one : j + 1 ≡ suc j = omega arith in
    let rest : drop (suc j) ws ≡ drop (suc j) bs = ap (λ k. drop k ws) (sym one) ∙ rest_more bs ws j number h ∙ ap (λ k. drop k bs) one in
    let r : List ℕ = concat (drop (suc j) bs) in
    record {
      left = concat_set ws j x inside ∙ ap₂ (λ s t. f ++ (s ++ concat t)) made rest
          ∙ sym (append_assoc f (number ∷ []) (left ++ r)) ∙ ap (λ t. t ++ (left ++ r)) (h.front)
          ∙ sym (remove_at bs j p (omega (arith, inside, size)) within);
      shorter = shorter_set bs ws j x (h.shorter) behind inside (omega (arith, n, length-remove (block_at bs j) p within));
    }

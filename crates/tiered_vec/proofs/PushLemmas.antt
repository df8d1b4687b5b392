-- A number that is put behind the others.
use Rattle.std.proofs.Common.{◌≡◌, ◌∙◌, ℕ, zero, suc, ◌-◌, ◌≢◌, ◌<◌, ◌≤◌, List, [], ◌∷◌, ◌++◌, length, take, drop, get_or, set, sym, ap, append_assoc, append-nil, length-set, ⊎_elim, arith}
use Rattle.std.specs.List.{concat}
use Rattle.std.proofs.lemmas.Bool.{cases_eq}
use Rattle.std.proofs.lemmas.List.{drop_all, get_or_append_left, get_or_push, get_or_read, get_or-set_other, get_or-set_same, length_push}
use Rattle.tiered_vec.specs.Tiers.{IsBegun, IsPushed, IsTiered, block_at}
use Rattle.tiered_vec.proofs.ConcatLemmas.{concat_push, concat_set, concat_split}

-- ---- a new block

tiered_push : (bs : List (List ℕ)) (y : List ℕ) → IsTiered bs → 0 < length y → length y ≤ 2048 → ((i : ℕ) → 0 < i → suc i ≡ length bs → length (block_at bs i) ≡ 2048) → IsTiered (bs ++ y ∷ [])
tiered_push bs y h some few last = record {
  filled = λ i behind inside. ⊎_elim
      (λ e. rw (get_or_push bs y [] i (sym e)) some)
      (λ apart. rw (get_or_append_left bs (y ∷ []) [] i (omega (arith, inside, apart, length_push bs y))) (h.filled i behind (omega (arith, inside, apart, length_push bs y))))
      (cases_eq i (length bs));
  within = λ i inside. ⊎_elim
      (λ e. rw (get_or_push bs y [] i (sym e)) few)
      (λ apart. rw (get_or_append_left bs (y ∷ []) [] i (omega (arith, inside, apart, length_push bs y))) (h.within i (omega (arith, inside, apart, length_push bs y))))
      (cases_eq i (length bs));
  full = λ i behind inside. rw (get_or_append_left bs (y ∷ []) [] i (omega (arith, inside, length_push bs y))) (⊎_elim
      (λ e. last i behind e)
      (λ apart. h.full i behind (omega (arith, inside, apart, length_push bs y)))
      (cases_eq (suc i) (length bs)));
}

begun_push : (bs : List (List ℕ)) (y : List ℕ) → IsBegun bs → 0 < length y → IsBegun (bs ++ y ∷ [])
begun_push [] y h some inside = some
begun_push (b ∷ bs) y h some inside = h (omega arith)

pushed : (bs : List (List ℕ)) (number : ℕ) → IsTiered bs → IsBegun bs → ((i : ℕ) → 0 < i → suc i ≡ length bs → length (block_at bs i) ≡ 2048) → IsPushed bs (bs ++ (number ∷ []) ∷ []) number
pushed bs number h begun last = record {
  list = concat_push bs (number ∷ []);
  tiered = tiered_push bs (number ∷ []) h (omega arith) (omega arith) last;
  begun = begun_push bs (number ∷ []) begun (omega arith);
}

pub pushed_first : (bs new : List (List ℕ)) (count number : ℕ) → IsTiered bs → IsBegun bs → count ≡ length bs → count ≡ 0 → new ≡ bs ++ (number ∷ []) ∷ [] → IsPushed bs new number
pushed_first bs new count number h begun is none made = rw made (pushed bs number h begun (λ i behind last. absurd (omega (arith, is, none, last))))

pub pushed_behind : (bs new : List (List ℕ)) (b : List ℕ) (count len number : ℕ) → IsTiered bs → IsBegun bs → count ≡ length bs → count ≢ 0 → b ≡ get_or bs (count - 1) b → len ≡ length b → 2048 ≤ len → new ≡ bs ++ (number ∷ []) ∷ [] → IsPushed bs new number
pushed_behind bs new b count len number h begun is some read size full made =
    let e = ap length (get_or_read bs (count - 1) b (omega (arith, is, some)) read []) in
    rw made (pushed bs number h begun (λ i behind last.
    let same : count - 1 ≡ i = omega (arith, is, last) in
    let at = ap (λ k. length (block_at bs k)) same in
    omega (arith, e, at, size, full, h.within i (omega (arith, last)))))

-- ---- the last block

pub tiered_set : (bs : List (List ℕ)) (k : ℕ) (x : List ℕ) → IsTiered bs → suc k ≡ length bs → 0 < length x → length x ≤ 2048 → IsTiered (set bs k x)
tiered_set bs k x h last some few = record {
  filled = λ i behind inside. ⊎_elim
      (λ e. rw e (rw (get_or-set_same bs k x [] (omega (arith, last))) some))
      (λ apart. rw (get_or-set_other bs k i x [] apart) (h.filled i behind (omega (arith, inside, length-set bs k x))))
      (cases_eq i k);
  within = λ i inside. ⊎_elim
      (λ e. rw e (rw (get_or-set_same bs k x [] (omega (arith, last))) few))
      (λ apart. rw (get_or-set_other bs k i x [] apart) (h.within i (omega (arith, inside, length-set bs k x))))
      (cases_eq i k);
  full = λ i behind inside. rw (get_or-set_other bs k i x [] (λ e. absurd (omega (arith, e, inside, last, length-set bs k x)))) (h.full i behind (omega (arith, inside, length-set bs k x)));
}

pub begun_set : (bs : List (List ℕ)) (k : ℕ) (x : List ℕ) → IsBegun bs → 0 < length x → IsBegun (set bs k x)
begun_set [] k x h some inside = absurd (omega (arith, inside))
begun_set (b ∷ bs) zero x h some inside = some
begun_set (b ∷ bs) (suc k) x h some inside = h (omega arith)

concat_last : (bs : List (List ℕ)) (k : ℕ) (x : List ℕ) (number : ℕ) → suc k ≡ length bs → x ≡ block_at bs k ++ number ∷ [] → concat (set bs k x) ≡ concat bs ++ number ∷ []
concat_last bs k x number last is =
    let f : List ℕ = concat (take k bs) in
    let b : List ℕ = block_at bs k in
    let inside : k < length bs = omega (arith, last) in
    let none : drop (suc k) bs ≡ [] = drop_all (suc k) bs (omega (arith, last)) in
    let before : concat bs ≡ f ++ b = concat_split bs k inside ∙ ap (λ t. f ++ (b ++ concat t)) none ∙ ap (λ t. f ++ t) (append-nil b) in
    let after : concat (set bs k x) ≡ f ++ x = concat_set bs k x inside ∙ ap (λ t. f ++ (x ++ concat t)) none ∙ ap (λ t. f ++ t) (append-nil x) in
    after ∙ ap (λ t. f ++ t) is ∙ sym (append_assoc f b (number ∷ [])) ∙ ap (λ t. t ++ number ∷ []) (sym before)

pub pushed_last : (bs : List (List ℕ)) (b c x : List ℕ) (count len number : ℕ) → IsTiered bs → IsBegun bs → count ≡ length bs → count ≢ 0 → b ≡ get_or bs (count - 1) b → len ≡ length b → len < 2048 → c ≡ get_or bs (count - 1) c → x ≡ c ++ number ∷ [] → IsPushed bs (set bs (count - 1) x) number
pushed_last bs b c x count len number h begun is some read size room again made =
    let inside : count - 1 < length bs = omega (arith, is, some) in
    let last : suc (count - 1) ≡ length bs = omega (arith, is, some) in
    let e : b ≡ block_at bs (count - 1) = get_or_read bs (count - 1) b inside read [] in
    let f : c ≡ block_at bs (count - 1) = get_or_read bs (count - 1) c inside again [] in
    let g : x ≡ block_at bs (count - 1) ++ number ∷ [] = made ∙ ap (λ t. t ++ number ∷ []) f in
    let n = ap length g in
    let m = length_push (block_at bs (count - 1)) number in
    let l = ap length e in
    record {
      list = concat_last bs (count - 1) x number last g;
      tiered = tiered_set bs (count - 1) x h last (omega (arith, n, m)) (omega (arith, n, m, l, size, room));
      begun = begun_set bs (count - 1) x begun (omega (arith, n, m));
    }

-- A number goes out of the last block.
use Rattle.std.proofs.Common.{◌≡◌, ◌∙◌, ℕ, zero, suc, ◌+◌, ◌≢◌, ◌<◌, ◌≤◌, List, [], ◌∷◌, ◌++◌, length, take, drop, get_or, set, sym, ap, append-nil, length-take-le, arith}
use Rattle.std.specs.List.{concat, remove}
use Rattle.std.proofs.lemmas.List.{drop_all, get_or-take, get_or_read, nil_from_length}
use Rattle.std.proofs.lemmas.List.Edits.{length-remove}
use Rattle.tiered_vec.specs.Tiers.{IsBegun, IsTaken, IsTiered, block_at, count_before}
use Rattle.tiered_vec.proofs.ConcatLemmas.{concat_set, remove_at}
use Rattle.tiered_vec.proofs.PushLemmas.{begun_set, tiered_set}

tiered_take : (bs : List (List ℕ)) (k : ℕ) → IsTiered bs → k ≤ length bs → IsTiered (take k bs)
tiered_take bs k h fits =
    let n = length-take-le k bs fits in
    record {
      filled = λ i behind inside. rw (get_or-take k bs i [] (omega (arith, inside, n))) (h.filled i behind (omega (arith, inside, n, fits)));
      within = λ i inside. rw (get_or-take k bs i [] (omega (arith, inside, n))) (h.within i (omega (arith, inside, n, fits)));
      full = λ i behind inside. rw (get_or-take k bs i [] (omega (arith, inside, n))) (h.full i behind (omega (arith, inside, n, fits)));
    }

begun_take : (bs : List (List ℕ)) (k : ℕ) → IsBegun bs → IsBegun (take k bs)
begun_take [] zero h inside = absurd (omega (arith, inside))
begun_take [] (suc k) h inside = absurd (omega (arith, inside))
begun_take (b ∷ bs) zero h inside = absurd (omega (arith, inside))
begun_take (b ∷ bs) (suc k) h inside = h (omega arith)

-- what is left of the whole list
left_last : (bs : List (List ℕ)) (k p : ℕ) → suc k ≡ length bs → p < length (block_at bs k) → remove (concat bs) (count_before bs k + p) ≡ concat (take k bs) ++ remove (block_at bs k) p
left_last bs k p last inside =
    let none : drop (suc k) bs ≡ [] = drop_all (suc k) bs (omega (arith, last)) in
    remove_at bs k p (omega (arith, last)) inside ∙ ap (λ t. concat (take k bs) ++ (remove (block_at bs k) p ++ concat t)) none ∙ ap (λ t. concat (take k bs) ++ t) (append-nil (remove (block_at bs k) p))

-- it was the only one of its block
pub taken_block : (bs new : List (List ℕ)) (b : List ℕ) (k p len : ℕ) → IsTiered bs → IsBegun bs → suc k ≡ length bs → p < length (block_at bs k) → b ≡ get_or bs k b → len ≡ length b → len ≡ 1 → new ≡ take k bs → IsTaken bs new (count_before bs k + p)
taken_block bs new b k p len h begun last inside read size one made =
    let e = ap length (get_or_read bs k b (omega (arith, last)) read []) in
    let none : remove (block_at bs k) p ≡ [] = nil_from_length (remove (block_at bs k) p) (omega (arith, e, size, one, length-remove (block_at bs k) p inside)) in
    rw made (record {
      list = sym (left_last bs k p last inside ∙ ap (λ t. concat (take k bs) ++ t) none ∙ append-nil (concat (take k bs)));
      tiered = tiered_take bs k h (omega (arith, last));
      begun = begun_take bs k begun;
    })

-- its block has others
pub taken_one : (bs : List (List ℕ)) (b c x : List ℕ) (k p len : ℕ) → IsTiered bs → IsBegun bs → suc k ≡ length bs → p < length (block_at bs k) → b ≡ get_or bs k b → len ≡ length b → len ≢ 1 → c ≡ get_or bs k c → x ≡ remove c p → IsTaken bs (set bs k x) (count_before bs k + p)
taken_one bs b c x k p len h begun last inside read size more again made =
    let there : k < length bs = omega (arith, last) in
    let e = ap length (get_or_read bs k b there read []) in
    let f : x ≡ remove (block_at bs k) p = made ∙ ap (λ t. remove t p) (get_or_read bs k c there again []) in
    let n = ap length f in
    let m = length-remove (block_at bs k) p inside in
    let few = h.within k there in
    let none : drop (suc k) bs ≡ [] = drop_all (suc k) bs (omega (arith, last)) in
    record {
      list = concat_set bs k x there ∙ ap (λ t. concat (take k bs) ++ (x ++ concat t)) none ∙ ap (λ t. concat (take k bs) ++ t) (append-nil x ∙ f) ∙ sym (left_last bs k p last inside);
      tiered = tiered_set bs k x h last (omega (arith, e, size, more, n, m, inside)) (omega (arith, n, m, few));
      begun = begun_set bs k x begun (omega (arith, e, size, more, n, m, inside));
    }

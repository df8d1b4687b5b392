-- Passes that are made one after the other.
use Rattle.std.proofs.Common.{◌≡◌, ℕ, ◌+◌, ◌<◌, List, ◌∷◌, ◌++◌, ◌∙◌, sym, ap, subst, arith}
use Rattle.std.proofs.Common.{length, map, set, get_or, take, drop, add-one, below_more}
use Rattle.std.proofs.Math.Seq.{drop-cons}
use Rattle.std.proofs.lemmas.List.{take-map, drop-map, get_or-set_same, get_or-set_other}
use Rattle.steal_pool.specs.declared.pass.StealPass.{StealPass}
use Rattle.steal_pool.specs.Passes.{DequeId, own_deque, deques_in}
use Rattle.steal_pool.specs.Making.{SeesAll, others_from}

module _ {P : Type 0} where
  -- the own deque, and then those behind it and those before it
  pub sees_all : (passes : List (StealPass P)) (all : List DequeId) (k : ℕ) (d p : StealPass P) → k < length passes
      → map own_deque passes ≡ all → own_deque p ≡ own_deque (get_or passes k d)
      → deques_in p.others.items ≡ others_from k passes → SeesAll all k p
  sees_all passes all k d p lt same own others =
      let here = get_or passes k d in
      let front = own_deque here ∷ map own_deque (drop (k + 1) passes) in
      let behind : drop k (map own_deque passes) ≡ front =
      drop-map own_deque k passes ∙ ap (map own_deque) (drop-cons passes k d lt)
      ∙ ap (λ n. own_deque here ∷ map own_deque (drop n passes)) (sym (add-one k)) in
      let parts : drop k all ++ take k all ≡ front ++ map own_deque (take k passes) =
      ap (λ l. drop k l ++ take k l) (sym same) ∙ ap (λ l. l ++ take k (map own_deque passes)) behind
      ∙ ap (λ l. front ++ l) (take-map own_deque k passes) in
      ap (λ x. x ∷ deques_in p.others.items) own ∙ ap (λ l. own_deque here ∷ l) others ∙ sym parts

  -- the pass of the next number, with what it takes to steal from the others
  pub linked_more : (passes : List (StealPass P)) (all : List DequeId) (own : ℕ) (d p : StealPass P)
      → own < length passes → map own_deque passes ≡ all
      → ((k : ℕ) (e : StealPass P) → k < own → k < length passes → SeesAll all k (get_or passes k e))
      → own_deque p ≡ own_deque (get_or passes own d) → deques_in p.others.items ≡ others_from own passes
      → (k : ℕ) (e : StealPass P) → k < own + 1 → k < length (set passes own p)
      → SeesAll all k (get_or (set passes own p) k e)
  linked_more passes all own d p lt same before own_same others k e below within =
      let Sees : ℕ → Type 0 = λ j. (x : StealPass P) → SeesAll all j (get_or (set passes own p) j x) in
      let here = sees_all passes all own d p lt same own_same others in
      below_more Sees own
      (λ j under x.
      let apart = get_or-set_other passes own j p x (λ is. omega arith) in
      subst (SeesAll all j) (sym apart) (before j x under (omega arith)))
      (λ x. subst (SeesAll all own) (sym (get_or-set_same passes own p x lt)) here)
      k below e

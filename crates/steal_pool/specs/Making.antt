-- Passes as they are made.
use Rattle.std.specs.Prelude.{◌≡◌, ℕ, ◌+◌, ◌<◌, List, ◌++◌, All, drop, get_or, length, map, take}
use Rattle.steal_pool.specs.declared.view.DequeView.{DequeView}
use Rattle.steal_pool.specs.declared.pass.StealPass.{StealPass}
use Rattle.steal_pool.specs.Passes.{DequeId, own_deque, deques_of, own_view, other_views}

module _ {P : Type 0} where
  -- the pass has done nothing: it knows of its own deque what the owner knows at first, and of the others what a guest
  -- does
  pub record IsNewPass (first guest : DequeView) (p : StealPass P) : Type 0 where
    pub own : own_view p ≡ first
    pub others : All (λ v. v ≡ guest) (other_views p)

  -- the own deques of all passes but that of this number: of those behind it, and then of those before it
  abbrev pub others_from : ℕ → List (StealPass P) → List DequeId
  others_from number passes = map own_deque (drop (number + 1) passes) ++ map own_deque (take number passes)

  -- the pass is for all these deques, its own first: the one of this number, those behind it, and those before it
  abbrev pub SeesAll : List DequeId → ℕ → StealPass P → Type 0
  SeesAll all number p = deques_of p ≡ drop number all ++ take number all

  -- each pass is for the own deques of all passes
  abbrev pub AreLinked : List (StealPass P) → Type 0
  AreLinked passes =
      (k : ℕ) (d : StealPass P) → k < length passes → SeesAll (map own_deque passes) k (get_or passes k d)

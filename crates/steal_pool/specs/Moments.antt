-- What a pass shows of a rule on its deques before a call, and what a call tells of the rule at one of its moments.
-- `holds waiting views` is the rule: of the tickets that wait in a deque, the oldest first, and of the views of its
-- passes.
use Rattle.std.specs.Prelude.{◌≡◌, ℕ, List, [], ◌∷◌, ◌++◌}
use mathlib.Core.Option.{some}
use lib.ListN.{get_elem?}
use Rattle.crossbeam_deque.specs.Tasks.{Pushes, Takes, Forks}
use Rattle.steal_pool.specs.declared.view.DequeView.{DequeView}
use Rattle.steal_pool.specs.View.{new_view, with_put, with_taken, with_none}

-- one of the passes has the view v
abbrev pub IsAmong : DequeView → List DequeView → Type 0
IsAmong v views = (pass : ℕ) × (get_elem? views pass ≡ some v)

module _ (holds : List ℕ → List DequeView → Type 0) where
  -- whatever waits and the others know, the rule is kept when the pass of this number and view puts the ticket x,
  abbrev pub MayPut : ℕ → ℕ → DequeView → Type 0
  MayPut x pass v = Pushes holds pass v (x ∷ []) (λ w. w ≡ with_put (x ∷ []) v)

  -- when it takes the ticket in front,
  abbrev pub MayTake : ℕ → DequeView → Type 0
  MayTake pass v = Takes holds pass v 1 (λ xs w. w ≡ with_taken xs v)

  -- and when it counts an answer None
  abbrev pub MayCount : ℕ → DequeView → Type 0
  MayCount pass v = Forks holds pass v (with_none v) new_view

  -- at a moment tickets waited, these in front, and the rule held with one of the passes having the view v
  abbrev pub WasAt : DequeView → List ℕ → Type 0
  WasAt v xs = (rest : List ℕ) × (views : List DequeView) × holds (xs ++ rest) views × IsAmong v views

  -- at a moment no ticket waited
  abbrev pub WasEmpty : DequeView → Type 0
  WasEmpty v = (views : List DequeView) × holds [] views × IsAmong v views

-- What a take asks of a rule on the deques of a pass, and what it does to what the pass knows of each.
use Rattle.std.specs.Prelude.{◌≡◌, ℕ, List, [], ◌∷◌, Some, All, slice_get, slice_set, take}
use Rattle.steal_pool.specs.declared.view.DequeView.{DequeView}
use Rattle.steal_pool.specs.declared.thief.Thief.{Thief}
use Rattle.steal_pool.specs.declared.pass.StealPass.{StealPass}
use Rattle.steal_pool.specs.View.{with_taken}
use Rattle.steal_pool.specs.Moments.{MayTake, MayCount, WasAt, WasEmpty}
use Rattle.steal_pool.specs.Passes.{thief_number, thief_view, own_number, own_view}

module _ (holds : List ℕ → List DequeView → Type 0) where
  -- the rule is kept when a ticket is stolen
  abbrev pub MaySteal : {P : Type 0} → Thief P → Type 0
  MaySteal t = MayTake holds (thief_number t) (thief_view t)

  -- and when the pass takes one, wherever it is, or counts an answer None
  pub record MayTakeAny {P : Type 0} (p : StealPass P) : Type 0 where
    pub own : MayTake holds (own_number p) (own_view p)
    pub others : All MaySteal p.others.items
    pub none : MayCount holds (own_number p) (own_view p)

  -- the ticket x was in front of one deque, at a moment, and left it; those before it in turn were empty
  pub record TakesOne (x : ℕ) (old now : List DequeView) : Type 0 where
    pub place : ℕ
    pub known : DequeView
    pub known_there : slice_get old place ≡ Some known
    pub front : WasAt holds known (x ∷ [])
    pub earlier : All (WasEmpty holds) (take place old)
    pub taken : now ≡ slice_set old place (with_taken (x ∷ []) known)

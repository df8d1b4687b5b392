-- What steps ask and tell, whatever the rule.
use Rattle.std.proofs.Common.{◌≡◌, ℕ, ◌<◌, List, ◌∷◌, sym, subst}
use Rattle.crossbeam_queue.specs.Fifo.{Pops, Forks, Learns, Held}
use Rattle.ready_queue.specs.declared.view.PassView.{PassView}
use Rattle.ready_queue.specs.View.{IsSole, ManyWait, WaitsFirst, spent_view, with_taken}
use Rattle.ready_queue.specs.Moments.{AreOwn, MayTake, Told, WasAt, WasFirst}

module _ (holds : List ℕ → List PassView → Type 0) where
  -- a refused step tells that the rule holds, with this pass among the others
  pub refusal_tells : (pass : ℕ) (v : PassView) → Learns holds pass v (AreOwn v) → Learns holds pass v (Told holds v)
  refusal_tells pass v tells waiting views rule at = ((views, rule, (pass, at)), tells waiting views rule at)

  -- a take tells what stood in front
  pub take_tells : (pass : ℕ) (v : PassView) → MayTake holds pass v → Pops holds pass v (λ x w. (w ≡ with_taken x v) × (x < 32) × WasFirst holds x v × (IsSole v → WaitsFirst x v))
  take_tells pass v may x waiting views rule at =
      let step = may.takes x waiting views rule at in
      (step.0, step.1, (step.2.0, step.2.1, (waiting, (views, rule, (pass, at))), λ sole. (waiting, may.tells (x ∷ waiting) views rule at sole)))

  -- the same pass with the same view may count
  pub may_count : (pass other : ℕ) (v w : PassView) (counted : PassView → PassView) → other ≡ pass → w ≡ v → Forks holds pass v (counted v) spent_view → Forks holds other w (counted w) spent_view
  may_count pass other v w counted number same may = subst (λ (n : ℕ). Forks holds n w (counted w) spent_view) (sym number) (subst (λ (u : PassView). Forks holds pass u (counted u) spent_view) (sym same) may)

  pub was_at : (n : ℕ) (v : PassView) → Held n (Told holds v) → WasAt holds n v
  was_at n v told = (told.0, told.1, told.2.0)

  pub many_wait : (n : ℕ) (v : PassView) → Held n (Told holds v) → IsSole v → ManyWait n v
  many_wait n v told sole = (told.0, told.2.1 sole, told.1)

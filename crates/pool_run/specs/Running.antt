-- What a run is given beside a plan, and what comes back of it.
use Rattle.std.specs.Prelude.{◌≡◌, ℕ, List, Some, slice_get}
use Rattle.join_base.specs.declared.message.Message.{Message}
use Rattle.script_types.specs.declared.plan.Plan.{Plan}
use Rattle.fair_semantics.specs.declared.run.ActorRun.{ActorRun}
use Rattle.fair_semantics.specs.declared.run.Limits.{Limits}
use Rattle.fair_semantics.specs.declared.run.Run.{Run}
use Rattle.fair_semantics.specs.Fair.{setting_of}
use Rattle.actor_cells.specs.History.{history_shown}
use Rattle.actor_pool.specs.Beside.{Fitting, FitsOpening}

module _ {S B : Type 0} where
  -- a source of tickets that is of use with a pool of so many actors, and what stands beside, which has seen nothing
  pub record IsReady (belongs : S → ℕ → Type 0) (fits : Fitting B) (actors : ℕ) (worker : S × B) : Type 0 where
    pub source : belongs (worker.0) actors
    pub opening : FitsOpening fits (worker.1)

-- what is kept of each actor fits its history in the run over these feeds, by what the plan tells it
abbrev pub FitsRun : {B : Type 0} → Fitting B → Plan → Limits → List (List (ℕ × Message)) → Run → B → Type 0
FitsRun {B} fits plan limits feeds run kept = (actor : ℕ) (own : ActorRun) → slice_get run.actors actor ≡ Some own → fits kept actor (setting_of plan actor limits) (history_shown feeds run actor own)

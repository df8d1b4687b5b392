-- What a new system keeps.
use Rattle.std.specs.Prelude.{ℕ, ◌<◌, List, map, replicate}
use Rattle.script_types.specs.declared.plan.Plan.{Plan}
use Rattle.fair_semantics.specs.declared.run.Limits.{Limits}
use Rattle.fair_semantics.specs.Linked.{numbers_from}
use Rattle.run_fit_law.specs.FitsLaw.{RulesFit}
use Rattle.actor_turn.specs.Held.{Held, new_actor}

-- the first of the actors
abbrev pub new_actors : Plan → Limits → ℕ → ℕ → List Held
new_actors plan limits feeds count = map (λ index. new_actor plan index limits feeds) (numbers_from 0 count)

-- the rules of the first of the actors are in range
abbrev pub RulesInRange : Plan → Limits → ℕ → Type 0
RulesInRange plan limits count = (actor : ℕ) → actor < count → RulesFit plan limits actor

abbrev pub rows_of : ℕ → ℕ → List (List ℕ)
rows_of rows width = replicate rows (replicate width 0)

use Rattle.std.proofs.Common.{◌∙◌, ap}
use Rattle.script_names.specs.Scope.{spelt_rows}
use Rattle.script_plan.proofs.OutlineLemmas.{rows_same}
use Rattle.script_plan.proofs.names.Script.new.Goals as goal

pub invariant_of-result-clause-actors_named : goal.invariant_of-result-clause-actors_named
invariant_of-result-clause-actors_named c = c.in_ok-actor_names.ensures ∙ ap spelt_rows c.as_slice-2.ensures.same ∙ rows_same c.args.outline.now.actors

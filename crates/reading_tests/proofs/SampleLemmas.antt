-- The plan of the logs is well typed.
use Rattle.std.proofs.Common.{List, ℕ, refl, rules, sym, subst, ◌≡◌}
use Rattle.std.specs.Prelude.{codes}
use Rattle.reading_tests.specs.Samples.{one_field, sample_plan}
use Rattle.join_base.specs.declared.message.Sort.{Sort}
use Rattle.join_base.specs.declared.message.Sort.TheVariants.{Int, Words}
use Rattle.script_types.specs.declared.plan.Plan.{Plan}
use Rattle.script_types.specs.Names.{AreOwnNames, field_names}
use Rattle.script_types.specs.Typed.{IsTyped}

one_field_named : (name : List ℕ) (sort : Sort) → AreOwnNames (field_names (one_field name sort))
one_field_named name sort = record { each = (refl, tt); apart = (tt, tt) }

sample_typed : IsTyped sample_plan
sample_typed = record {
  few_kinds = search rules;
  some_actors = search rules;
  few_actors = search rules;
  kind_names = record { each = (refl, (refl, (refl, (refl, tt)))); apart = ((refl, (refl, (refl, tt))), ((refl, (refl, tt)), ((refl, tt), (tt, tt)))) };
  actor_names = record { each = (refl, (refl, tt)); apart = ((refl, tt), (tt, tt)) };
  field_names = (one_field_named (codes "a") Int, (one_field_named (codes "b") Int, (one_field_named (codes "say") Words, (record { each = tt; apart = tt }, tt))));
  kinds = search rules;
  actors = (record { few = search rules; few_comparisons = tt; each = tt }, (record { few = search rules; few_comparisons = tt; each = tt }, tt));
}

pub typed_of : (plan : Plan) → plan ≡ sample_plan → IsTyped plan
typed_of plan is = subst IsTyped (sym is) sample_typed

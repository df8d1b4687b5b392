-- The plan of the tests is well typed.
use Rattle.std.proofs.Common.{◌≡◌, List, [], ◌∷◌, length, true, ap, arith}
use Rattle.join_base.specs.Text.{is_name}
use Rattle.script_types.specs.declared.plan.ActorPlan.{ActorPlan}
use Rattle.script_types.specs.declared.plan.Kind.{Kind}
use Rattle.script_types.specs.Names.{AreOwnNames, field_names}
use Rattle.script_types.specs.Typed.{IsTyped}

-- no field has no name that is wrong
no_names : (kind : Kind) → kind.fields ≡ [] → AreOwnNames (field_names kind)
no_names kind no_fields = rw no_fields (record { each = tt; apart = tt })

-- one kind without fields, and one actor without rules
pub plan_typed : (kinds : List Kind) (actors : List ActorPlan) (kind : Kind) (actor : ActorPlan) → kinds ≡ kind ∷ [] → is_name kind.name ≡ true → kind.fields ≡ [] → actors ≡ actor ∷ [] → is_name actor.name ≡ true → actor.rules ≡ [] → IsTyped (record { kinds = kinds; actors = actors })
plan_typed kinds actors kind actor kinds_are kind_named no_fields actors_are actor_named no_rules =
    let few_fields = ap length no_fields in
    let few_rules = ap length no_rules in
    rw (kinds_are, actors_are) (record {
      few_kinds = omega arith;
      some_actors = omega arith;
      few_actors = omega arith;
      kind_names = record { each = (kind_named, tt); apart = (tt, tt) };
      actor_names = record { each = (actor_named, tt); apart = (tt, tt) };
      field_names = (no_names kind no_fields, tt);
      kinds = (omega arith, tt);
      actors = (record { few = omega arith; few_comparisons = rw no_rules tt; each = rw no_rules tt }, tt);
    })

-- The plan of the building is well typed.
use Rattle.std.proofs.Common.{◌≡◌, ℕ, ◌∷◌, [], List, refl, subst, sym, arith}
use Rattle.std.specs.Prelude.{codes}
use Rattle.std.specs.List.{IsDistinct}
use Rattle.join_base.specs.declared.message.Relation.{Relation}
use Rattle.join_base.specs.declared.message.Sort.TheVariants as sort
use Rattle.guard_eval.specs.declared.term.Place.{Place}
use Rattle.guard_eval.specs.declared.term.Signed.{Signed}
use Rattle.script_types.specs.declared.plan.Kind.{Kind}
use Rattle.script_types.specs.declared.plan.ActorPlan.{ActorPlan}
use Rattle.script_types.specs.Typed.{HasType, IsTyped, IsTypedActor, IsTypedCondition, IsTypedLeaf, IsTypedRule, IsTypedTerm, Sorts, kind_types}
use Rattle.building_load.specs.Building.{alarm, compared, contact_rule, desk, hall, kinds, light_rule, load_plan, minus, number, on, place_at, plus, print_rule, within_a_minute}

abbrev sorts : Sorts
sorts = kind_types kinds

one_leaf : (patterns : List ℕ) (leaf : Signed) → IsTypedLeaf sorts patterns leaf.leaf → IsTypedTerm sorts patterns (leaf ∷ [])
one_leaf patterns leaf typed = record { some = omega arith; few = omega arith; each = (typed, tt) }

two_leaves : (patterns : List ℕ) (one other : Signed) → IsTypedLeaf sorts patterns one.leaf → IsTypedLeaf sorts patterns other.leaf → IsTypedTerm sorts patterns (one ∷ other ∷ [])
two_leaves patterns one other typed too = record { some = omega arith; few = omega arith; each = (typed, (too, tt)) }

compares : (patterns : List ℕ) (left right : List Signed) (relation : Relation) → IsTypedTerm sorts patterns left → IsTypedTerm sorts patterns right → IsTypedCondition sorts patterns (compared left relation right)
compares patterns left right relation typed too = (record { left_typed = typed; right_typed = too; one_type = refl; may_compare = tt }, tt)

-- a field against a number
bounds : (patterns : List ℕ) (field : Place) (n : ℕ) (relation : Relation) → HasType sorts patterns sort.Int field → IsTypedCondition sorts patterns (compared (plus field ∷ []) relation (number n ∷ []))
bounds patterns field n relation typed = compares patterns (plus field ∷ []) (number n ∷ []) relation (one_leaf patterns (plus field) typed) (one_leaf patterns (number n) tt)

-- a field against a field
equates : (patterns : List ℕ) (one other : Place) (relation : Relation) → HasType sorts patterns sort.Int one → HasType sorts patterns sort.Int other → IsTypedCondition sorts patterns (compared (plus one ∷ []) relation (plus other ∷ []))
equates patterns one other relation typed too = compares patterns (plus one ∷ []) (plus other ∷ []) relation (one_leaf patterns (plus one) typed) (one_leaf patterns (plus other) too)

minute : (patterns : List ℕ) (one other : Place) → HasType sorts patterns sort.Int one → HasType sorts patterns sort.Int other → IsTypedCondition sorts patterns (within_a_minute one other)
minute patterns one other typed too =
    (record { left_typed = two_leaves patterns (plus one) (minus other) typed too; right_typed = one_leaf patterns (number 60) tt; one_type = refl; may_compare = tt }, tt)

light_typed : IsTypedRule 5 sorts light_rule
unfolding IsDistinct
light_typed = record {
  some_patterns = omega arith;
  few_patterns = omega arith;
  variables = (refl, (refl, tt));
  window = tt;
  guard = (
    equates (0 ∷ 1 ∷ []) (place_at 0 0) (place_at 1 0) _ refl refl,
    (
      bounds (0 ∷ 1 ∷ []) (place_at 1 1) 40 _ refl,
      (minute (0 ∷ 1 ∷ []) (place_at 1 2) (place_at 0 1) refl refl, (minute (0 ∷ 1 ∷ []) (place_at 0 1) (place_at 1 2) refl refl, tt)),
    ),
  );
  few_statements = omega arith;
  body = (record { to_actor = omega arith; of_kind = refl; each = (one_leaf (0 ∷ 1 ∷ []) (plus (place_at 0 0)) refl, tt) }, tt);
  stop_last = tt;
  reply_once = tt;
}

contact_typed : IsTypedRule 5 sorts contact_rule
unfolding IsDistinct
contact_typed = record {
  some_patterns = omega arith;
  few_patterns = omega arith;
  variables = (refl, (refl, tt));
  window = tt;
  guard = (
    equates (0 ∷ 2 ∷ []) (place_at 0 0) (place_at 1 0) _ refl refl,
    (minute (0 ∷ 2 ∷ []) (place_at 1 1) (place_at 0 1) refl refl, (minute (0 ∷ 2 ∷ []) (place_at 0 1) (place_at 1 1) refl refl, tt)),
  );
  few_statements = omega arith;
  body = (record { to_actor = omega arith; of_kind = refl; each = (one_leaf (0 ∷ 2 ∷ []) (plus (place_at 0 0)) refl, tt) }, tt);
  stop_last = tt;
  reply_once = tt;
}

hall_typed : (name : List ℕ) → IsTypedActor 5 sorts (hall name)
hall_typed name = record { few = omega arith; few_comparisons = (omega arith, (omega arith, tt)); each = (light_typed, (contact_typed, tt)) }

on_typed : IsTypedRule 5 sorts (print_rule on (codes "light on in "))
unfolding IsDistinct
on_typed = record {
  some_patterns = omega arith;
  few_patterns = omega arith;
  variables = (refl, tt);
  window = tt;
  guard = tt;
  few_statements = omega arith;
  body = (record { some = omega arith; few = omega arith; each = (tt, (refl, tt)) }, tt);
  stop_last = tt;
  reply_once = tt;
}

alarm_typed : IsTypedRule 5 sorts (print_rule alarm (codes "alarm in "))
unfolding IsDistinct
alarm_typed = record {
  some_patterns = omega arith;
  few_patterns = omega arith;
  variables = (refl, tt);
  window = tt;
  guard = tt;
  few_statements = omega arith;
  body = (record { some = omega arith; few = omega arith; each = (tt, (refl, tt)) }, tt);
  stop_last = tt;
  reply_once = tt;
}

desk_typed : IsTypedActor 5 sorts desk
desk_typed = record { few = omega arith; few_comparisons = (omega arith, (omega arith, tt)); each = (on_typed, (alarm_typed, tt)) }

pub load_plan_typed : IsTyped load_plan
load_plan_typed = record {
  few_kinds = omega arith;
  some_actors = omega arith;
  few_actors = omega arith;
  kind_names = record {
    each = (refl, (refl, (refl, (refl, (refl, tt)))));
    apart = ((refl, (refl, (refl, (refl, tt)))), ((refl, (refl, (refl, tt))), ((refl, (refl, tt)), ((refl, tt), (tt, tt)))));
  };
  actor_names = record {
    each = (refl, (refl, (refl, (refl, (refl, tt)))));
    apart = ((refl, (refl, (refl, (refl, tt)))), ((refl, (refl, (refl, tt))), ((refl, (refl, tt)), ((refl, tt), (tt, tt)))));
  };
  field_names = (
    record { each = (refl, (refl, tt)); apart = ((refl, tt), (tt, tt)) },
    (
      record { each = (refl, (refl, (refl, tt))); apart = ((refl, (refl, tt)), ((refl, tt), (tt, tt))) },
      (record { each = (refl, (refl, tt)); apart = ((refl, tt), (tt, tt)) }, (record { each = (refl, tt); apart = (tt, tt) }, (record { each = (refl, tt); apart = (tt, tt) }, tt))),
    ),
  );
  kinds = (omega arith, (omega arith, (omega arith, (omega arith, (omega arith, tt)))));
  actors = (hall_typed (codes "hall1"), (hall_typed (codes "hall2"), (hall_typed (codes "hall3"), (hall_typed (codes "hall4"), (desk_typed, tt)))));
}

pub typed_parts : (some : List Kind) (all : List ActorPlan) → some ≡ kinds → all ≡ load_plan.actors → IsTyped (record { kinds = some; actors = all })
typed_parts some all same_kinds same_actors =
    let K : List Kind → Type 0 = λ ks. IsTyped (record { kinds = ks; actors = load_plan.actors }) in
    let A : List ActorPlan → Type 0 = λ as'. IsTyped (record { kinds = some; actors = as' }) in
    subst A (sym same_actors) (subst K (sym same_kinds) load_plan_typed)

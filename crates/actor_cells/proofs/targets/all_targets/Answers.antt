use Rattle.std.proofs.Common.{Vec, Global, arith, ◌∷◌, [], ap, map, sym, subst, take, ◌∙◌, List, ℕ, length, get_or}
use Rattle.std.proofs.lemmas.List.{length-append, map-append, take_more, take_all}
use Rattle.script_types.specs.declared.plan.ActorPlan.{ActorPlan}
use Rattle.actor_cells.specs.Targets.{AreTargets, AreTargetsOf}
use Rattle.actor_cells.proofs.PrepareLemmas.{numbers_of}
use Rattle.actor_cells.proofs.TargetLemmas.{targets_of-more}
use Rattle.actor_cells.proofs.targets.all_targets.Goals as goal

pub loop-actor-init : goal.loop-actor-init
loop-actor-init c = record {
  count = ap length c.new-targets.ensures.items;
  targets = subst (λ (ts : List (Vec ℕ Global)). AreTargetsOf c.len-count.result [] (map numbers_of ts)) (sym c.new-targets.ensures.items) tt;
}

pub loop-actor-preserved : goal.loop-actor-preserved
loop-actor-preserved c =
    let before = c.loop-actor.invariant in
    let xs = c.as_slice-actor-items.result.now in
    let i = c.loop-actor.actor-index in
    let d = c.actor-item.result in
    let own = c.in_ok-own.own in
    let old = c.loop-actor.targets.items in
    let items = c.in_ok-push.ensures.items in
    let one = subst (λ (a : ActorPlan). AreTargets c.len-count.result a.rules own.items) c.actor-item.is c.in_ok-own.ensures in
    let whole = take_more xs i d c.loop-actor-test.true in
    let lists = ap (map numbers_of) items ∙ map-append numbers_of old (own ∷ []) in
    record {
      count = omega (arith, before.count, ap length items, length-append old (own ∷ []));
      targets = subst (λ (x : List ActorPlan × List (List ℕ)). AreTargetsOf c.len-count.result x.0 x.1) (λ t. (sym whole t, sym lists t))
          (targets_of-more c.len-count.result (take i xs) (map numbers_of old) (get_or xs i d) own.items before.targets one);
    }

pub returns-clause-count : goal.returns-clause-count
returns-clause-count c = omega (arith, c.loop-actor.invariant.count, c.loop-actor-test.false, c.loop-actor.auto.actor-index-end, ap length c.as_slice-actor-items.ensures.same)

pub returns-clause-targets : goal.returns-clause-targets
returns-clause-targets c =
    let whole = take_all c.loop-actor.actor-index c.as_slice-actor-items.result.now c.loop-actor-test.false ∙ c.as_slice-actor-items.ensures.same in
    subst (λ (x : ℕ × List ActorPlan). AreTargetsOf x.0 x.1 (map numbers_of c.loop-actor.targets.items)) (λ t. (c.len-count.ensures.count t, whole t)) c.loop-actor.invariant.targets

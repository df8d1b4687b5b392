use Rattle.std.proofs.Common.{◌∙◌, ◌<◌, arith, length, map}
use Rattle.std.proofs.Math.Seq.{map-set_same}
use Rattle.std.proofs.lemmas.List.{length-map}
use Rattle.steal_pool.specs.Passes.{thief_deque, thief_number, thief_view}
use Rattle.steal_pool.proofs.MomentLemmas.{may_steal_all, takes_one, empty_more, empty_all}
use Rattle.steal_pool.proofs.taking.steal_first.Goals as goal

pub steal-requires : goal.steal-requires
steal-requires g c =
    let before = c.loop-thief.invariant in
    let lt : c.loop-thief.thief-index < length c.loop-thief.thieves =
    (let same = c.loop-thief.auto.thieves in let here = c.loop-thief-test.true in omega arith) in
    let holds = g.P.Protocol.holds in
    let item = c.thief-item.result in
    record { kept = may_steal_all holds _ _ before.numbers before.views c.requires.kept _ item lt }

pub returns-in-Some-clause-deques : goal.returns-in-Some-clause-deques
returns-in-Some-clause-deques g c =
    map-set_same thief_deque _ _ _ c.thief-item.result c.in-Some.ensures.deque ∙ c.loop-thief.invariant.deques

pub returns-in-Some-clause-numbers : goal.returns-in-Some-clause-numbers
returns-in-Some-clause-numbers g c =
    map-set_same thief_number _ _ _ c.thief-item.result c.in-Some.ensures.number ∙ c.loop-thief.invariant.numbers

pub returns-in-Some-clause-taken : goal.returns-in-Some-clause-taken
returns-in-Some-clause-taken g c =
    let before = c.loop-thief.invariant in
    let step = c.in-Some.ensures in
    let lt : c.loop-thief.thief-index < length c.loop-thief.thieves =
    (let same = c.loop-thief.auto.thieves in let here = c.loop-thief-test.true in omega arith) in
    let item = c.thief-item.result in
    takes_one g.P.Protocol.holds _ _ _ _ item _ lt before.views before.empty step.taken step.front

pub loop-thief-preserved : goal.loop-thief-preserved
loop-thief-preserved g c =
    let before = c.loop-thief.invariant in
    let step = c.in_default.ensures in
    let thieves = c.loop-thief.thieves in
    let item = c.thief-item.result in
    let lt : c.loop-thief.thief-index < length c.loop-thief.thieves =
    (let same = c.loop-thief.auto.thieves in let here = c.loop-thief-test.true in omega arith) in
    record {
      deques = map-set_same thief_deque _ _ _ item step.deque ∙ before.deques;
      numbers = map-set_same thief_number _ _ _ item step.number ∙ before.numbers;
      views = map-set_same thief_view _ _ _ item step.none ∙ before.views;
      empty = empty_more g.P.Protocol.holds _ thieves _ item lt before.views before.empty step.empty;
    }

pub returns-clause-empty : goal.returns-clause-empty
returns-clause-empty g c =
    let long = length-map c.args.thieves.now thief_view in
    let done = c.loop-thief-test.false in
    let all = c.loop-thief.invariant.empty in
    empty_all g.P.Protocol.holds (map thief_view c.args.thieves.now) c.loop-thief.thief-index (omega arith) all

use Rattle.std.proofs.Common.{◌∙◌, ◌<◌, ◌≡◌, arith, ap, length, subst, sym}
use Rattle.std.proofs.Math.Seq.{map-set_same}
use Rattle.std.proofs.lemmas.List.{length-set}
use Rattle.std.proofs.lemmas.List.Elements.{All-map, All-set}
use Rattle.steal_pool.specs.declared.pass.StealPass.{StealPass}
use Rattle.steal_pool.specs.Passes.{own_deque, made_for, thief_view}
use Rattle.steal_pool.specs.Making.{IsNewPass, others_from}
use Rattle.steal_pool.proofs.MakingLemmas.{linked_more}
use Rattle.steal_pool.proofs.making.deques.Goals as goal

pub loop-own-preserved : goal.loop-own-preserved
loop-own-preserved g c =
    let before = c.loop-own.invariant in
    let items = c.loop-own.passes.items in
    let own = c.loop-own.own in
    let p = c.index_mut.result.now in
    let here = c.index_mut.ensures.value in
    let IsNew : StealPass g.row.P.Denot → Type 0 = IsNewPass g.P.Protocol.first g.P.Protocol.guest in
    let lt : own < length items =
    (let count = before.count in
    let test = c.loop-own-test.true in
    let end = c.len-own-end.ensures in
    let long = c.in_ok-passes.passes.ok.0 in
    omega arith) in
    let made = c.in_ok-thieves.ensures in
    let others = made.deques ∙ ap (others_from own) c.as_slice.ensures.value in
    let was_new = subst IsNew (sym here) (before.new own p lt) in
    let guests = All-map (λ v. v ≡ g.P.Protocol.guest) thief_view c.in_ok-thieves.thieves.items made.new in
    let same_count = ap made_for here ∙ before.actors own p lt in
    record {
      count = length-set items own _ ∙ before.count;
      same = map-set_same own_deque items own _ p (ap own_deque here) ∙ before.same;
      actors = All-set (λ q. made_for q ≡ c.args.actors) items own _ same_count before.actors;
      new = All-set IsNew items own _ (record { own = was_new.own; others = guests }) before.new;
      linked = linked_more items _ own p _ lt before.same before.linked (ap own_deque here) others;
    }

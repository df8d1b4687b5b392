use Rattle.std.proofs.Common.{ap, sym, subst, ◌∙◌, ◌∷◌, [], ◌++◌, List, map, All, take, length, ◌≤◌, arith}
use Rattle.std.proofs.lemmas.List.{map-append, take_more, take_all}
use Rattle.std.proofs.lemmas.List.Elements.{All-push}
use Rattle.cell_links.specs.declared.ends.Outward.{Outward}
use Rattle.cell_links.specs.Making.{Connects, IsNewOut}
use Rattle.cell_links.proofs.MakingLemmas.{connects-more}
use Rattle.cell_links.proofs.making.connect_source.Goals as goal

pub loop-i-preserved : goal.loop-i-preserved
loop-i-preserved c =
    let before = c.loop-i.invariant in
    let step = c.in_ok-one.ensures in
    let items = c.in_ok-push.ensures.items in
    let made = c.loop-i.outward.items in
    let one = c.in_ok-one.one in
    let i = c.loop-i.i in
    let ts = c.args.targets.now in
    record {
      count = step.count ∙ before.count;
      targets = ap (map (λ (o : Outward). o.target)) items ∙ map-append (λ (o : Outward). o.target) made (one ∷ [])
          ∙ (λ t. before.targets t ++ step.target t ∷ []) ∙ sym (take_more ts i 0 c.loop-i-test.true);
      sends = subst (λ (l : List Outward). All (IsNewOut c.args.ring) l) (sym items) (All-push (IsNewOut c.args.ring) made one before.sends step.sends);
      fresh = λ all. step.fresh (before.fresh all);
      linked = subst (λ (l : List Outward). Connects c.args.source l c.args.inwards.now.items c.link_to.new.inwards.items) (sym items)
          (connects-more c.args.source made one ts i c.args.inwards.now.items c.loop-i.inwards.items c.link_to.new.inwards.items before.linked step.linked before.targets step.target c.requires.apart c.loop-i-test.true);
    }

pub returns-clause-targets : goal.returns-clause-targets
returns-clause-targets c = c.loop-i.invariant.targets ∙ take_all c.loop-i.i c.args.targets.now (omega (arith, c.loop-i-test.false))

pub returns-clause-linked : goal.returns-clause-linked
returns-clause-linked c = c.loop-i.invariant.linked

pub returns-clause-fresh : goal.returns-clause-fresh
returns-clause-fresh c = c.loop-i.invariant.fresh

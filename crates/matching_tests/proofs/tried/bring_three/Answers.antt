use Rattle.std.proofs.Common.{◌∙◌, ap}
use Rattle.match_tree.specs.Tree.{Tree}
use Rattle.matching_tests.proofs.TriedLemmas.{among_next, first_among, first_can}
use Rattle.matching_tests.proofs.tried.bring_three.Goals as goal

pub loop-number-init : goal.loop-number-init
loop-number-init g c = record {
  settled = ap (λ (u : Tree). u.reserve) c.requires.opening;
  definition = ap (λ (u : Tree). u.definition) c.requires.opening;
  can = first_can c.args.tree.now c.args.messages.now c.requires.messages c.requires.opening;
  among = first_among c.args.tree.now c.requires.opening;
}

pub loop-number-preserved : goal.loop-number-preserved
loop-number-preserved g c = record {
  settled = c.in_ok-arrive.ensures.settled;
  definition = c.in_ok-arrive.ensures.definition ∙ c.loop-number.invariant.definition;
  can = c.in_ok-arrive.ensures.can;
  among = among_next c.loop-number.tree c.arrive.new.tree c.args.messages.now c.loop-number.number c.requires.messages c.loop-number.invariant.definition c.loop-number.auto.number c.loop-number-test.true c.loop-number.invariant.among c.in_ok-arrive.ensures.grows;
}

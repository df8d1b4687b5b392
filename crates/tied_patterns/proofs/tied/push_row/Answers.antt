use Rattle.std.proofs.Common.{◌≡◌, ◌<◌, ℕ, length, subst, arith}
use Rattle.tied_patterns.specs.Rows.{AreFound}
use Rattle.tied_patterns.proofs.RowLemmas.{next_pair}
use Rattle.tied_patterns.proofs.tied.push_row.Goals as goal

pub loop-second-preserved : goal.loop-second-preserved
loop-second-preserved c =
    next_pair c.args.equalities.now (length c.args.kinds.now) c.args.first c.loop-second.second c.loop-second.pairs c.push_some.new.pairs c.in_ok-found.found c.loop-second.invariant (omega (arith, c.loop-second.auto.second))
    c.loop-second-test.true c.in_ok-found.ensures.found c.in_ok-push_some.ensures

pub returns : goal.returns
returns c =
    let all : c.loop-second.second ≡ length c.args.kinds.now = omega (arith, c.loop-second.auto.second, c.loop-second.auto.second-end, c.loop-second-test.false, c.requires.within) in
    record { found = subst (λ (n : ℕ). AreFound c.args.equalities.now (length c.args.kinds.now) c.args.first n c.loop-second.pairs) all c.loop-second.invariant }

use Rattle.std.proofs.Common.{◌∙◌, arith}
use Rattle.std.proofs.lemmas.List.{length-set}
use Rattle.std.proofs.lemmas.Option.{slice_get_within}
use Rattle.row_screens.proofs.TieLemmas.{tied_more}
use Rattle.row_screens.proofs.ties.Ties.new.Goals as goal

pub loop-pattern-preserved : goal.loop-pattern-preserved
loop-pattern-preserved c =
    let inv = c.loop-pattern.invariant in
    record {
      long = length-set c.loop-pattern.cells c.loop-pattern.pattern c.naming_of.result ∙ inv.long;
      told = tied_more c.args.conjuncts.now c.loop-pattern.cells c.loop-pattern.pattern c.naming_of.result c.naming_of.ensures inv.told;
    }

pub returns : goal.returns
returns c =
    let inv = c.loop-pattern.invariant in
    λ p places at. inv.told p places (omega (arith, slice_get_within c.loop-pattern.cells p places at, inv.long, c.loop-pattern-test.false)) at

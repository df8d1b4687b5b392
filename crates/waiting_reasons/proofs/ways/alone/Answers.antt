use Rattle.std.proofs.Common.{subst, sym}
use Rattle.pattern_core.specs.Suits.{SlotsSuit}
use Rattle.pattern_core.proofs.SuitsLemmas.{suits_empty}
use Rattle.waiting_reasons.proofs.ways.alone.Goals as goal

pub push_longer-requires-clause-suits : goal.push_longer-requires-clause-suits
push_longer-requires-clause-suits c =
    let kinds = c.args.definition.now.patterns in
    subst (SlotsSuit c.args.messages.now kinds) (sym c.requires.none) (suits_empty c.args.messages.now kinds)

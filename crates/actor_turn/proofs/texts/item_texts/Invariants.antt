use Rattle.std.proofs.Common.{take}
use Rattle.std.specs.List.{AllByRecursion}
use Rattle.fair_semantics.specs.Fits.{ItemFits}
use Rattle.actor_turn.proofs.texts.item_texts.Given as goal

abbrev pub invariant-loop-item : goal.invariant-loop-item
invariant-loop-item l = AllByRecursion ItemFits (take l.item-index l.item-items)

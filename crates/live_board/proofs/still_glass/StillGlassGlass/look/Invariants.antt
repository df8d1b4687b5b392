use Rattle.std.proofs.Common.{◌≡◌, fold, drop}
use Rattle.live_board.specs.Folding.{board_of, with_record}
use Rattle.live_board.proofs.still_glass.StillGlassGlass.look.Given as goal

abbrev pub invariant-loop-item : goal.invariant-loop-item
invariant-loop-item l = fold with_record l.into (drop l.item-index l.item-items) ≡ board_of l.fn.self.rows l.item-items

use Rattle.std.proofs.Common.{rules, ◌≡◌}
use Rattle.std.specs.Prelude.{Some}
use Rattle.std.proofs.lemmas.List.Elements.{All-pop}
use denote.Param.Send.{sendable}
use Rattle.live_board.specs.declared.left_glass.LeftGlass.{LeftGlass}
use Rattle.live_board.specs.declared.monitor.Monitor.{Monitor}
use Rattle.live_board.specs.Glasses.{left_rows}
use Rattle.live_board.specs.Monitors.{glass_of}
use Rattle.watch_run.proofs.reading.+monitors.Goals as goal

pub join-requires-after_bounds : goal.join-requires-after_bounds
join-requires-after_bounds g t c κs within =
    let HasRows : Monitor LeftGlass → Type 0 = λ monitor. left_rows (glass_of monitor) ≡ c.args.actors in
    let parts = All-pop HasRows _ _ (Some c.in-Some.monitor) c.in-Some.ensures.items c.requires.rows in
    (search (rules, sendable), search (rules, sendable))

use Rattle.std.proofs.Common.{rules, ◌≡◌, ◌≤◌, length, ap, arith}
use Rattle.std.proofs.lemmas.List.Elements.{All-same}
use denote.Param.Send.{sendable}
use Rattle.live_board.specs.declared.left_glass.LeftGlass.{LeftGlass}
use Rattle.live_board.specs.declared.monitor.Monitor.{Monitor}
use Rattle.live_board.specs.Glasses.{left_rows}
use Rattle.live_board.specs.Monitors.{glass_of}
use Rattle.watch_run.proofs.ReadLemmas.{new_rows}
use Rattle.watch_run.proofs.watching.run_watched.Goals as goal

pub join-watched-requires-after_bounds : goal.join-watched-requires-after_bounds
join-watched-requires-after_bounds g c κs within =
    let same = c.into_vec-monitors.ensures.same in
    let few : length c.into_vec-monitors.result.items ≤ 8 = omega (arith, ap length same, c.in_ok-writer.ensures.count, c.requires.monitors.1) in
    let HasRows : Monitor LeftGlass → Type 0 = λ m. left_rows (glass_of m) ≡ c.len-actors.result in
    let rows = All-same HasRows c.into_vec-monitors.result.items c.in_ok-writer.monitors same (new_rows _ _ _ c.in_ok-writer.ensures.monitors) in
    ((search (rules, sendable), (few, (rows, search (rules, sendable)))), search (rules, sendable))

use Rattle.std.proofs.Common.{◌<◌, ◌≤◌}
use Rattle.actor_cells.specs.Lawful.{tally_of}
use Rattle.actor_cells.specs.Served.{StaysLawful}
use Rattle.actor_cells.specs.Steps.{TakesMany}
use Rattle.actor_cells.proofs.cell.Cell.take_all.Given as goal

abbrev pub invariant-loop : goal.invariant-loop
invariant-loop g l = record {
  kept : StaysLawful l.fn.self l.self;
  few : l.taken < 256;
  rounds : l.counter ≤ l.taken;
  takes : TakesMany (tally_of l.fn.self) (tally_of l.self) l.taken;
}

use Rattle.std.proofs.Common.{◌≡◌, length}
use Rattle.actor_cells.specs.Lawful.{held_in, state_in}
use Rattle.actor_cells.specs.Served.{StaysLawful}
use Rattle.actor_cells.specs.Steps.{FirstSent}
use Rattle.actor_cells.proofs.cell.Cell.send.Given as goal

abbrev pub invariant-loop-place : goal.invariant-loop-place
invariant-loop-place l = record {
  kept : StaysLawful l.initial.self l.self;
  inward : l.self.inward ≡ l.initial.self.inward;
  state : state_in l.self ≡ state_in l.initial.self;
  sent : FirstSent l.place (held_in l.self) l.self.outward.items;
  count : length l.self.outward.items ≡ length l.initial.self.outward.items;
}

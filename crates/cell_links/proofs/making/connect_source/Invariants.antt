use Rattle.std.proofs.Common.{◌≡◌, length, take, map, All}
use Rattle.cell_links.specs.declared.ends.Outward.{Outward}
use Rattle.cell_links.specs.Making.{AllNew, Connects, IsNewOut}
use Rattle.cell_links.proofs.making.connect_source.Given as goal

abbrev pub invariant-loop-i : goal.invariant-loop-i
invariant-loop-i l = record {
  count : length l.inwards.items ≡ length l.initial.inwards.items;
  targets : map (λ (o : Outward). o.target) l.outward.items ≡ take l.i l.targets;
  sends : All (IsNewOut l.ring) l.outward.items;
  fresh : AllNew l.initial.inwards.items → AllNew l.inwards.items;
  linked : Connects l.source l.outward.items l.initial.inwards.items l.inwards.items;
}

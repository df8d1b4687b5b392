use Rattle.std.proofs.Common.{◌≡◌, ◌++◌, map, reverse}
use Rattle.cell_links.specs.declared.ends.ActorLinks.{ActorLinks}
use Rattle.cell_links.proofs.connecting.into_links.Given as goal

abbrev pub invariant-loop-inward : goal.invariant-loop-inward
invariant-loop-inward l = record {
  inward : map (λ (k : ActorLinks). k.inward.items) l.links.items ≡ l.yielded;
  outward : map (λ (k : ActorLinks). k.outward.items) l.links.items ++ reverse l.outwards.items ≡ l.fn.outwards.items;
}

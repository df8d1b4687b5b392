use Rattle.std.proofs.Common.{◌≡◌, []}
use Rattle.std.specs.Prelude.{replicate}
use Rattle.cell_links.proofs.connecting.no_links.Given as goal

abbrev pub invariant-loop : goal.invariant-loop
invariant-loop l = l.inwards.items ≡ replicate l.counter []

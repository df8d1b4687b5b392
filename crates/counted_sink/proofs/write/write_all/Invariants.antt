use Rattle.std.proofs.Common.{◌≡◌, ◌+◌, ◌-◌, ◌≤◌, length, take}
use Rattle.counted_sink.proofs.WriteLemmas.{Took}
use Rattle.counted_sink.proofs.write.write_all.Given as goal

abbrev pub invariant-pieces : goal.invariant-pieces
invariant-pieces g l = record {
  within : l.done ≤ length l.bytes;
  told : Took (g.S.CountingSink.taken l.initial.out) (g.S.CountingSink.taken l.out) (take l.done l.bytes);
  quiet : g.S.CountingSink.faults l.out ≡ g.S.CountingSink.faults l.initial.out;
  few : (g.S.CountingSink.writes l.out).made ≤ (g.S.CountingSink.writes l.initial.out).made + l.done;
  whole : (g.S.CountingSink.writes l.out).failed ≡ (g.S.CountingSink.writes l.initial.out).failed;
}

abbrev pub decreases-pieces : goal.decreases-pieces
decreases-pieces g l = length l.bytes - l.done

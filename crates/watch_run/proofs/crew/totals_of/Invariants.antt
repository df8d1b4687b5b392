use Rattle.std.proofs.Common.{◌≡◌, ◌++◌, drop, map}
use Rattle.watch_run.specs.BoardText.{run_totals}
use Rattle.watch_run.proofs.crew.totals_of.Given as goal

abbrev pub invariant-loop-own : goal.invariant-loop-own
invariant-loop-own l = l.totals ++ map run_totals (drop l.own-index l.actors) ≡ map run_totals l.actors

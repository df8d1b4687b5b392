use Rattle.std.proofs.Common.{◌≡◌, ◌++◌, drop}
use Rattle.log_replay.specs.Shared.{settlements_shown, shown_all}
use Rattle.log_replay.proofs.settling.settlements_of.Given as goal

abbrev pub invariant-loop-to : goal.invariant-loop-to
invariant-loop-to l = l.settlements ++ settlements_shown (shown_all l.run.actors l.made) l.run l.to (drop l.to l.made) (drop l.to l.run.actors) ≡ settlements_shown (shown_all l.run.actors l.made) l.run 0 l.made l.run.actors

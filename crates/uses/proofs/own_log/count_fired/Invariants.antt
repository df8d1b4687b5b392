use Rattle.std.proofs.Common.{◌≡◌, ◌≤◌, take}
use Rattle.std.specs.Prelude.{count_by}
use Rattle.uses.specs.OwnLog.{has_fired}
use Rattle.uses.proofs.own_log.count_fired.Given as goal

abbrev pub invariant-loop-entry : goal.invariant-loop-entry
invariant-loop-entry l = record {
  counted : l.count ≡ count_by has_fired (take l.entry-index l.entries);
  within : l.count ≤ l.entry-index;
}

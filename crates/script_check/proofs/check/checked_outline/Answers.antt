use Rattle.std.proofs.Common.{subst}
use Rattle.script_check.specs.Script.{IsFirstFault}
use Rattle.script_check.proofs.CheckLemmas.{faulty}
use Rattle.script_check.proofs.check.checked_outline.Goals as goal

pub returns-in-Some : goal.returns-in-Some
returns-in-Some c =
    faulty c.args.bytes.now c.in_ok-outline.outline c.in_ok-outline.ensures c.in-Some.fault (subst (IsFirstFault c.args.bytes.now) c.in-Some.is c.in_ok-found.ensures)

pub returns-in-None : goal.returns-in-None
returns-in-None c = record { spelt = c.in_ok-outline.ensures; no_fault = subst (IsFirstFault c.args.bytes.now) c.in-None.is c.in_ok-found.ensures }

use Rattle.row_screens.specs.Offering.{offered}
use Rattle.row_screens.specs.Trial.{AreDecided}
use Rattle.row_screens.proofs.TrialLemmas.{HaveStood}
use Rattle.row_screens.proofs.trial.all_hold.Given as goal

-- those that are left are decided, and the others were true
abbrev pub invariant-loop-place : goal.invariant-loop-place
invariant-loop-place l = record {
  decided : AreDecided (offered l.offer) l.slots l.left;
  stood : HaveStood (offered l.offer) l.slots l.fn.those l.left;
}

abbrev pub decreases-loop-place : goal.decreases-loop-place
decreases-loop-place l = l.left.bits

use Rattle.std.proofs.Common.{◌≡◌}
use Rattle.row_screens.specs.Offering.{offered}
use Rattle.row_screens.specs.Screen.{AreTests}
use Rattle.row_screens.specs.Trial.{AreDecided}
use Rattle.row_screens.proofs.AskLemmas.{HaveAsked}
use Rattle.row_screens.proofs.screen.tests_of.Given as goal

abbrev pub invariant-loop-place : goal.invariant-loop-place
invariant-loop-place l = record {
  other : l.screen.other ≡ l.other;
  tests : AreTests (offered l.offer) l.whole l.pattern l.screen;
  decided : AreDecided (offered l.offer) l.whole l.left;
  asked : HaveAsked (offered l.offer) l.pattern l.screen l.initial.left l.left;
}

abbrev pub decreases-loop-place : goal.decreases-loop-place
decreases-loop-place l = l.left.bits

use Rattle.std.proofs.Common.{◌≡◌, length}
use Rattle.std.specs.Prelude.{IfSome}
use Rattle.std.specs.List.{AllByRecursion}
use Rattle.waiting_reasons.specs.Inside.{HasPatterns}
use Rattle.waiting_reasons.specs.Ways.{fullest, fullest_before}
use Rattle.waiting_reasons.proofs.finding.fullest.Given as goal

-- the best behind those that are left
abbrev pub invariant-loop-slots : goal.invariant-loop-slots
invariant-loop-slots l = record {
  told : fullest_before l.best l.rest ≡ fullest l.initial.rest;
  all : AllByRecursion (HasPatterns l.definition) l.rest;
  best : IfSome l.best (HasPatterns l.definition);
}

abbrev pub decreases-loop-slots : goal.decreases-loop-slots
decreases-loop-slots l = length l.rest

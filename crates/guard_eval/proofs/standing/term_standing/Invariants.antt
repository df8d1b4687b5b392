use Rattle.std.proofs.Common.{◌≡◌, drop}
use Rattle.guard_eval.specs.Meaning.{term_needs}
use Rattle.guard_eval.specs.Ready.{HavePlaces}
use Rattle.guard_eval.specs.Standing.{standing_beside}
use Rattle.guard_eval.proofs.standing.term_standing.Given as goal

-- the leaves that are left have places, and decide
abbrev pub invariant-loop-signed : goal.invariant-loop-signed
invariant-loop-signed l = record {
  ready : HavePlaces l.slots (term_needs (drop l.signed-index l.signed-items));
  told : standing_beside l.slots l.standing (term_needs (drop l.signed-index l.signed-items)) ≡ standing_beside l.slots l.fn.before (term_needs l.signed-items);
}

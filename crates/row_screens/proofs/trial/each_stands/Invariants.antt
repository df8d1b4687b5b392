use Rattle.std.proofs.Common.{◌≡◌, drop, map}
use Rattle.std.specs.List.{AllByRecursion}
use Rattle.guard_eval.specs.Meaning.{needs_of}
use Rattle.guard_eval.specs.Shape.{conjunct_condition}
use Rattle.pattern_core.specs.Matches.{is_agreeable}
use Rattle.pattern_core.specs.Suits.{NeedSuits}
use Rattle.row_screens.proofs.trial.each_stands.Given as goal

-- the conjuncts that are left suit, and decide
abbrev pub invariant-loop-conjunct : goal.invariant-loop-conjunct
invariant-loop-conjunct l = record {
  needs : AllByRecursion (λ c. AllByRecursion (NeedSuits l.offer.messages.now l.offer.definition.now.patterns) (needs_of c)) (map conjunct_condition (drop l.conjunct-index l.conjunct-items));
  told : is_agreeable l.offer.messages.now (map conjunct_condition (drop l.conjunct-index l.conjunct-items)) l.slots ≡ is_agreeable l.offer.messages.now l.offer.definition.now.conjuncts l.slots;
}

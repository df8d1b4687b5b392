use Rattle.std.proofs.Common.{List, subst}
use Rattle.std.specs.List.{AllByRecursion}
use Rattle.guard_eval.specs.Condition.{Condition}
use Rattle.guard_eval.specs.Meaning.{needs_of}
use Rattle.guard_eval.specs.Shape.{conjunct_condition}
use Rattle.pattern_core.specs.Suits.{NeedSuits}
use Rattle.pattern_core.proofs.GuardLemmas.{left_of, ready_where_full}
use Rattle.waiting_reasons.proofs.guards.first_untrue.Goals as goal

pub holds-requires : goal.holds-requires
holds-requires c =
    let a = c.args in
    let kinds = a.definition.now.patterns in
    let Suit : List Condition → Type 0 = λ cs. AllByRecursion (λ x. AllByRecursion (NeedSuits a.messages.now kinds) (needs_of x)) cs in
    let left = left_of conjunct_condition c.as_slice-conjunct-items.result.now c.loop-conjunct.conjunct-index c.conjunct-item.result c.loop-conjunct-test.true c.conjunct-item.is in
    record { ready = ready_where_full a.messages.now kinds a.slots.now (needs_of (conjunct_condition c.conjunct-item.result)) c.requires.suits (subst Suit left c.loop-conjunct.invariant.needs).0 c.requires.full }

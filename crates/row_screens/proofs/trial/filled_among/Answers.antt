use Rattle.std.proofs.Common.{◌≡◌, ◌∙◌, ◌<◌, ℕ, List, length, sym, subst, arith}
use Rattle.std.specs.Prelude.{◌&&◌, ◌||◌, not}
use Rattle.std.specs.List.{list_all, AllByRecursion}
use Rattle.guard_eval.specs.Meaning.{Need, is_slot_filled, number_at}
use Rattle.pattern_core.specs.Suits.{NeedSuits}
use Rattle.pattern_core.proofs.GuardLemmas.{have_places}
use Rattle.row_screens.specs.PlaceSet.{has}
use Rattle.row_screens.specs.Ties.{names, needs_at}
use Rattle.row_screens.proofs.TieLemmas.{all_before_last, all_before_more, all_before_none, and_assoc, and_true, is_filled_before, needs_there}
use Rattle.row_screens.proofs.trial.filled_among.Goals as goal

pub unless_free-left-requires : goal.unless_free-left-requires
unless_free-left-requires c = record {
  few = omega (arith, c.loop-pattern-test.true, c.len-pattern-end.ensures.count, c.requires.definition.few);
  within = omega (arith, c.loop-pattern-test.true, c.len-pattern-end.ensures.count, c.requires.long);
}

pub loop-pattern-init : goal.loop-pattern-init
loop-pattern-init c =
    let a = c.args in
    let conjuncts = a.offer.now.definition.now.conjuncts in
    λ k small. and_true (has a.among k) ∙ sym (λ i. has a.among k && all_before_none a.slots.now (needs_at conjuncts k) i)

pub loop-pattern-preserved : goal.loop-pattern-preserved
loop-pattern-preserved c =
    let a = c.args in
    let conjuncts = a.offer.now.definition.now.conjuncts in
    let q : ℕ = c.loop-pattern.pattern in
    λ k small.
    c.unless_free-left.ensures k small
    ∙ (λ i. c.loop-pattern.invariant k small i && (is_slot_filled (number_at a.slots.now q) || not (names q (needs_at conjuncts k))))
    ∙ and_assoc (has a.among k) (list_all (is_filled_before a.slots.now q) (needs_at conjuncts k)) (is_slot_filled (number_at a.slots.now q) || not (names q (needs_at conjuncts k)))
    ∙ sym (λ i. has a.among k && all_before_more a.slots.now q (needs_at conjuncts k) i)

pub returns : goal.returns
returns c =
    let a = c.args in
    let conjuncts = a.offer.now.definition.now.conjuncts in
    let q : ℕ = c.loop-pattern.pattern in
    let Suit : List Need → Type 0 = λ needs. AllByRecursion (NeedSuits a.offer.now.messages.now a.offer.now.definition.now.patterns) needs in
    let last : length a.slots.now ≡ q = omega (arith, c.loop-pattern-test.false, c.len-pattern-end.ensures.count, c.requires.long) in
    let within : (k : ℕ) → AllByRecursion (λ n. n.0.pattern < q) (needs_at conjuncts k) = λ k.
    subst (λ (n : ℕ). AllByRecursion (λ (need : Need). need.0.pattern < n) (needs_at conjuncts k)) last
    (have_places a.offer.now.messages.now a.offer.now.definition.now.patterns a.slots.now (needs_at conjuncts k) c.requires.long (needs_there Suit tt conjuncts k c.requires.definition.needs))
    in
    λ k small. c.loop-pattern.invariant k small ∙ (λ i. has a.among k && all_before_last a.slots.now q (needs_at conjuncts k) (within k) i)

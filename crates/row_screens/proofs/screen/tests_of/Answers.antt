use Rattle.std.proofs.Common.{◌≡◌, ◌∙◌, ◌<◌, ℕ, List, refl, sym, subst, not, true, arith}
use Rattle.std.specs.Prelude.{◌==◌, ◌&&◌}
use Rattle.std.specs.List.{list_all, AllByRecursion}
use Rattle.guard_eval.specs.Meaning.{is_filled}
use Rattle.guard_bound.specs.declared.bound.Bound.{Bound}
use Rattle.row_screens.specs.Offering.{offered}
use Rattle.row_screens.specs.Screen.{IsBound}
use Rattle.row_screens.specs.PlaceSet.{has}
use Rattle.row_screens.specs.Ties.{names, needs_at}
use Rattle.row_screens.proofs.TrialLemmas.{named_decided_all, some_decided}
use Rattle.row_screens.proofs.AskLemmas.{asked_more, none_asked}
use Rattle.row_screens.proofs.screen.tests_of.Goals.{After-filled_among-left}
use Rattle.row_screens.proofs.screen.tests_of.Goals as goal

pub naming-requires : goal.naming-requires
naming-requires c = omega (arith, c.requires.within, c.requires.long, c.requires.definition.few)

pub naming-requires-2 : goal.naming-requires-2
naming-requires-2 c = omega (arith, c.requires.other_within, c.requires.long, c.requires.definition.few)

-- the conjuncts that tie the two patterns and are decided
told : (c : After-filled_among-left) (k : ℕ) → k < 64 → has c.filled_among-left.result k ≡ ((names c.args.pattern (needs_at c.args.offer.now.definition.now.conjuncts k) && names c.args.other (needs_at c.args.offer.now.definition.now.conjuncts k)) && list_all (is_filled c.args.whole.now) (needs_at c.args.offer.now.definition.now.conjuncts k))
told c k small =
    let a = c.args in
    let needs = needs_at a.offer.now.definition.now.conjuncts k in
    let tied = a.offer.now.tied in
    c.filled_among-left.ensures k small
    ∙ (λ i. (c.both-tied.ensures k ∙ (λ j. tied a.pattern c.naming.result c.naming.ensures k small j && tied a.other c.naming-2.result c.naming-2.ensures k small j)) i && list_all (is_filled a.whole.now) needs)

pub loop-place-init : goal.loop-place-init
loop-place-init c =
    let a = c.args in
    let o = offered a.offer.now in
    record {
      other = refl;
      tests = record { key = tt; bounds = subst (λ (bs : List Bound). AllByRecursion (IsBound o a.whole.now a.pattern a.other) bs) (sym c.new.ensures.empty) tt; same = tt; tests = λ k small member. absurd (let bad = sym (c.new-2.ensures.empty k) ∙ member in cc) };
      decided = named_decided_all o a.whole.now a.pattern (λ k. names a.other (needs_at o.definition.conjuncts k)) c.filled_among-left.result (told c);
      asked = none_asked o a.pattern _ c.filled_among-left.result;
    }

pub add_test-requires : goal.add_test-requires
add_test-requires c = record {
  small = c.in-Some.ensures.0;
  decided = c.loop-place.invariant.decided c.in-Some.place c.in-Some.ensures.0 c.in-Some.ensures.1;
  before = c.loop-place.invariant.tests;
}

pub loop-place-preserved : goal.loop-place-preserved
loop-place-preserved c =
    let a = c.args in
    let o = offered a.offer.now in
    let inv = c.loop-place.invariant in
    let place : ℕ = c.in-Some.place in
    record {
      other = c.add_test.ensures.other ∙ inv.other;
      tests = c.add_test.ensures.after;
      decided = some_decided o a.whole.now c.loop-place.left c.but-left.result (λ k. not (k == place)) c.but-left.ensures.others inv.decided;
      asked = asked_more o a.pattern c.loop-place.screen c.add_test.new.screen c.filled_among-left.result c.loop-place.left c.but-left.result place c.but-left.ensures.others c.add_test.ensures.keeps inv.asked c.add_test.ensures.asked;
    }

pub returns-clause-asks : goal.returns-clause-asks
returns-clause-asks c =
    let a = c.args in
    let inv = c.loop-place.invariant in
    let conjuncts = a.offer.now.definition.now.conjuncts in
    let all = told (goal.at.returns-clause-asks c).After-filled_among-left in
    record {
      at = λ k small here there filled.
          let named = subst (λ (n : ℕ). names n (needs_at conjuncts k) ≡ true) inv.other there in
          inv.asked k small (all k small ∙ (λ i. (here i && named i) && filled i)) (c.in_default.ensures k);
    }

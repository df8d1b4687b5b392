use Rattle.std.proofs.Common.{◌≡◌, ◌∙◌, sym, ap, subst, true}
use Rattle.std.specs.Prelude.{slice_get}
use Rattle.guard_eval.specs.Condition.{Condition}
use Rattle.guard_eval.specs.Meaning.{is_decided}
use Rattle.guard_eval.specs.Shape.{conjunct_condition}
use Rattle.row_screens.specs.Offering.{offered}
use Rattle.row_screens.specs.Screen.{AreTests, IsAsked}
use Rattle.row_screens.specs.declared.screen.Screen.{Screen}
use Rattle.row_screens.proofs.AskLemmas.{bound_asked, bound_keeps, place_asked, place_keeps, same_asked, same_keeps}
use Rattle.row_screens.proofs.ScreenLemmas.{bound_more, in_at, same_more, same_some}
use Rattle.row_screens.proofs.TrialLemmas.{place_more}
use Rattle.row_screens.proofs.screen.add_test.Goals as goal

pub returns-in-Some-clause-after : goal.returns-in-Some-clause-after
returns-in-Some-clause-after c =
    let a = c.args in
    let o = offered a.offer.now in
    let d = c.requires.decided in
    let conjunct : Condition = conjunct_condition c.at-conjunct.result.now in
    let same = same_some (slice_get o.definition.conjuncts a.place) d.conjunct conjunct d.at c.at-conjunct.ensures in
    let decided : is_decided a.whole.now conjunct ≡ true = sym (ap (is_decided a.whole.now) same) ∙ d.decided in
    let e = c.add_bound.ensures in
    bound_more o a.whole.now a.pattern a.screen.now c.add_bound.new.screen c.in-Some.bound c.requires.before (record { conjunct = conjunct; is_in = in_at o.definition.conjuncts a.place conjunct c.at-conjunct.ensures; decided = decided; says = c.in-Some.ensures }) e.other e.same e.tests e.added

pub returns-in-Some-clause-asked : goal.returns-in-Some-clause-asked
returns-in-Some-clause-asked c =
    let a = c.args in
    let conjunct : Condition = conjunct_condition c.at-conjunct.result.now in
    let e = c.add_bound.ensures in
    bound_asked (offered a.offer.now) a.pattern a.screen.now c.add_bound.new.screen c.in-Some.bound a.place conjunct e.other e.same e.added c.at-conjunct.ensures c.in-Some.ensures

pub returns-in-Some-clause-keeps : goal.returns-in-Some-clause-keeps
returns-in-Some-clause-keeps c =
    let a = c.args in
    let e = c.add_bound.ensures in
    bound_keeps (offered a.offer.now) a.pattern a.screen.now c.add_bound.new.screen c.in-Some.bound e.other e.same e.tests e.added

pub returns-then-add_same-clause-after : goal.returns-then-add_same-clause-after
returns-then-add_same-clause-after c =
    let a = c.args in
    let o = offered a.offer.now in
    let d = c.requires.decided in
    let conjunct : Condition = conjunct_condition c.at-conjunct.result.now in
    let same = same_some (slice_get o.definition.conjuncts a.place) d.conjunct conjunct d.at c.at-conjunct.ensures in
    let decided : is_decided a.whole.now conjunct ≡ true = sym (ap (is_decided a.whole.now) same) ∙ d.decided in
    let e = c.add_same.ensures in
    same_more o a.whole.now a.pattern a.screen.now c.add_same.new.screen conjunct c.requires.before (in_at o.definition.conjuncts a.place conjunct c.at-conjunct.ensures) decided e.other e.key e.bounds e.tests (e.said c.if-add_same.true)

pub returns-then-add_same-clause-asked : goal.returns-then-add_same-clause-asked
returns-then-add_same-clause-asked c =
    let a = c.args in
    let conjunct : Condition = conjunct_condition c.at-conjunct.result.now in
    let e = c.add_same.ensures in
    same_asked (offered a.offer.now) a.pattern a.screen.now c.add_same.new.screen a.place conjunct e.other c.at-conjunct.ensures (e.said c.if-add_same.true)

pub returns-then-add_same-clause-keeps : goal.returns-then-add_same-clause-keeps
returns-then-add_same-clause-keeps c =
    let a = c.args in
    let e = c.add_same.ensures in
    same_keeps (offered a.offer.now) a.pattern a.screen.now c.add_same.new.screen e.other e.key e.bounds e.tests (e.first c.if-add_same.true)

pub returns-clause-after : goal.returns-clause-after
returns-clause-after c =
    let a = c.args in
    let o = offered a.offer.now in
    let e = c.add_place.ensures in
    let before = subst (AreTests o a.whole.now a.pattern) (sym (c.add_same.ensures.kept c.if-add_same.false)) c.requires.before in
    place_more o a.whole.now a.pattern c.add_same.new.screen c.add_place.new.screen a.place before c.requires.decided e.other e.key e.bounds e.same e.tests

pub returns-clause-asked : goal.returns-clause-asked
returns-clause-asked c =
    let a = c.args in
    place_asked (offered a.offer.now) a.pattern c.add_same.new.screen c.add_place.new.screen a.place c.add_place.ensures.tests

pub returns-clause-keeps : goal.returns-clause-keeps
returns-clause-keeps c =
    let a = c.args in
    let o = offered a.offer.now in
    let e = c.add_place.ensures in
    let same = sym (c.add_same.ensures.kept c.if-add_same.false) in
    λ k asked.
    place_keeps o a.pattern c.add_same.new.screen c.add_place.new.screen a.place e.other e.key e.bounds e.same e.tests k (subst (λ (s : Screen). IsAsked o a.pattern s k) same asked)

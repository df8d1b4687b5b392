use Rattle.std.proofs.Common.{◌≡◌, ◌∙◌, ap, sym, refl, true}
use Rattle.std.specs.Prelude.{slice_get}
use Rattle.guard_eval.specs.Meaning.{is_decided}
use Rattle.guard_eval.specs.Shape.{conjunct_condition}
use Rattle.row_screens.specs.Offering.{offered}
use Rattle.row_screens.proofs.ScreenLemmas.{in_at, not_agreeable, ready_at, same_some}
use Rattle.row_screens.proofs.TrialLemmas.{true_stands}
use Rattle.row_screens.proofs.trial.holds_at.Goals as goal

pub holds-requires : goal.holds-requires
holds-requires c =
    let a = c.args in
    let o = offered a.offer.now in
    let d = c.requires.decided in
    let conjunct = conjunct_condition c.at.result.now in
    let same = same_some (slice_get o.definition.conjuncts a.place) d.conjunct conjunct d.at c.at.ensures in
    let decided : is_decided a.slots.now conjunct ≡ true = sym (ap (is_decided a.slots.now) same) ∙ d.decided in
    record { ready = ready_at o a.slots.now a.place conjunct c.at.ensures c.requires.definition c.requires.suits decided }

pub returns : goal.returns
returns c =
    let a = c.args in
    let o = offered a.offer.now in
    let d = c.requires.decided in
    let conjunct = conjunct_condition c.at.result.now in
    let same = same_some (slice_get o.definition.conjuncts a.place) d.conjunct conjunct d.at c.at.ensures in
    let decided : is_decided a.slots.now conjunct ≡ true = sym (ap (is_decided a.slots.now) same) ∙ d.decided in
    record {
      stands = λ yes. true_stands o.messages a.slots.now (slice_get o.definition.conjuncts a.place) conjunct c.at.ensures (sym c.holds.ensures ∙ yes);
      fails = λ no. not_agreeable o a.slots.now conjunct _ refl (in_at o.definition.conjuncts a.place conjunct c.at.ensures) decided (sym c.holds.ensures ∙ no);
    }

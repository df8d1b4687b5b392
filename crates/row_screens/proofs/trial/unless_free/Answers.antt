use Rattle.std.proofs.Common.{◌≡◌, ◌∙◌, ap, true, false, not}
use Rattle.guard_eval.specs.Meaning.{is_slot_filled, number_at}
use Rattle.guard_eval.proofs.ReadyLemmas.{number_at-place}
use Rattle.row_screens.specs.PlaceSet.{has}
use Rattle.row_screens.specs.Ties.{names, needs_at}
use Rattle.row_screens.proofs.TieLemmas.{stays, without_named}
use Rattle.row_screens.proofs.trial.unless_free.Goals as goal

pub returns-in-Some : goal.returns-in-Some
returns-in-Some c =
    let a = c.args in
    let filled : is_slot_filled (number_at a.slots.now a.pattern) ≡ true = ap is_slot_filled (number_at-place a.slots.now a.pattern _ c.in-Some.ensures.place) in
    λ k small. stays (has a.among k) (is_slot_filled (number_at a.slots.now a.pattern)) (not (names a.pattern (needs_at a.offer.now.definition.now.conjuncts k))) filled

pub returns-in-None : goal.returns-in-None
returns-in-None c =
    let a = c.args in
    let conjuncts = a.offer.now.definition.now.conjuncts in
    let empty : is_slot_filled (number_at a.slots.now a.pattern) ≡ false = ap is_slot_filled (number_at-place a.slots.now a.pattern _ c.in-None.ensures.place) in
    λ k small.
    c.without.ensures k small
    ∙ without_named (has a.among k) (has c.naming.result k) (is_slot_filled (number_at a.slots.now a.pattern)) (names a.pattern (needs_at conjuncts k)) (a.offer.now.tied a.pattern c.naming.result c.naming.ensures k small) empty

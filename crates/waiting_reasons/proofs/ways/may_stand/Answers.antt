use Rattle.std.proofs.Common.{◌≡◌, ◌∙◌, true, arith, ap, sym, subst, slice_index}
use Rattle.std.proofs.lemmas.Option.{get_or_from_slice_get}
use Rattle.guard_eval.specs.Meaning.{recorded_message}
use Rattle.pattern_core.specs.Matches.{is_of_kind}
use Rattle.pattern_core.specs.Suits.{SlotsSuit}
use Rattle.pattern_core.proofs.SuitsLemmas.{length-SlotsSuit, suits_further}
use Rattle.waiting_reasons.proofs.WaysLemmas.{recorded_kind}
use Rattle.waiting_reasons.proofs.ways.may_stand.Goals as goal

pub is_filled-requires : goal.is_filled-requires
is_filled-requires c = omega (arith, c.requires.within, length-SlotsSuit c.args.messages.now c.args.definition.now.patterns c.args.slots.now c.requires.suits)

pub has_number-requires : goal.has_number-requires
has_number-requires c = length-SlotsSuit c.args.messages.now c.args.definition.now.patterns c.args.slots.now c.requires.suits ∙ sym c.len.ensures.count

pub agrees-requires-clause-suits : goal.agrees-requires-clause-suits
agrees-requires-clause-suits c =
    let a = c.args in
    let kinds = a.definition.now.patterns in
    let kind = get_or_from_slice_get kinds a.place c.at.result.now 0 c.at.ensures.item in
    let of_kind : is_of_kind (recorded_message a.messages.now a.number) (slice_index kinds a.place) ≡ true =
    ap (is_of_kind (recorded_message a.messages.now a.number)) kind ∙ sym c.is_of_kind.ensures ∙ c.if-not-is_of_kind.false
    in
    subst (SlotsSuit a.messages.now kinds) (sym c.with.ensures)
    (suits_further a.messages.now kinds a.slots.now a.place a.number c.requires.suits (c.is_filled.ensures.empty c.if-is_filled.false) (recorded_kind a.messages.now a.number (slice_index kinds a.place) of_kind) of_kind (sym c.has_number.ensures ∙ c.if-has_number.false))

use Rattle.std.proofs.Common.{None, arith, ap, sym, subst, slice_index, ◌≡◌, ◌∙◌, true}
use Rattle.std.proofs.lemmas.Option.{slice_get_within, get_or_from_slice_get}
use Rattle.guard_eval.specs.Meaning.{recorded_message}
use Rattle.pattern_core.specs.Matches.{is_of_kind}
use Rattle.pattern_core.specs.Suits.{SlotsSuit}
use Rattle.pattern_core.proofs.SuitsLemmas.{length-SlotsSuit, suits_further}
use Rattle.pattern_core.proofs.extend.try_extend.Goals as goal

pub at-requires : goal.at-requires
at-requires g c = record {
  within = omega (arith, slice_get_within c.args.slots.now c.args.pattern None c.requires.empty, length-SlotsSuit c.args.messages.now c.args.definition.now.patterns c.args.slots.now c.requires.suits);
}

pub agrees-requires-clause-suits : goal.agrees-requires-clause-suits
agrees-requires-clause-suits g c =
    let a = c.args in
    let kinds = a.definition.now.patterns in
    let kind = get_or_from_slice_get kinds a.pattern c.at.result.now 0 c.at.ensures.item in
    let of_kind : is_of_kind (recorded_message a.messages.now a.number) (slice_index kinds a.pattern) ≡ true =
    ap (is_of_kind (recorded_message a.messages.now a.number)) kind ∙ sym c.has_kind.ensures ∙ c.if-not-has_kind.false
    in
    subst (SlotsSuit a.messages.now kinds) (sym c.with.ensures)
    (suits_further a.messages.now kinds a.slots.now a.pattern a.number c.requires.suits c.requires.empty c.requires.recorded of_kind c.requires.apart)

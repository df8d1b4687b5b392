use Rattle.std.proofs.Common.{None, arith, ap, sym, subst, slice_index, ◌≡◌, ◌∙◌, ◌&&◌, true}
use Rattle.std.proofs.lemmas.Option.{slice_get_within, get_or_from_slice_get}
use Rattle.guard_eval.specs.Meaning.{recorded_message}
use Rattle.pattern_core.specs.Matches.{is_of_kind}
use Rattle.pattern_core.specs.Suits.{SlotsSuit}
use Rattle.pattern_core.proofs.SuitsLemmas.{length-SlotsSuit, suits_further}
use Rattle.row_screens.specs.Offering.{offered}
use Rattle.row_screens.specs.Trial.{StandOutside}
use Rattle.row_screens.proofs.SlotsLemmas.{below_apart, none_is_free}
use Rattle.row_screens.proofs.TrialLemmas.{free_small, none_stands}
use Rattle.row_screens.proofs.trial.try_at.Goals as goal

pub at-kind-requires : goal.at-kind-requires
at-kind-requires g c = record {
  within = omega (arith, slice_get_within c.args.slots.now c.args.pattern None c.requires.free, length-SlotsSuit c.args.offer.now.messages.now c.args.offer.now.definition.now.patterns c.args.slots.now c.requires.can.suits);
}

pub all_stand-requires-clause-suits : goal.all_stand-requires-clause-suits
all_stand-requires-clause-suits g c =
    let a = c.args in
    let messages = a.offer.now.messages.now in
    let kinds = a.offer.now.definition.now.patterns in
    let kind = get_or_from_slice_get kinds a.pattern c.at-kind.result.now 0 c.at-kind.ensures.item in
    let of_kind : is_of_kind (recorded_message messages a.offer.now.number) (slice_index kinds a.pattern) ≡ true =
    ap (is_of_kind (recorded_message messages a.offer.now.number)) kind ∙ sym c.has_kind.ensures ∙ c.if-not-has_kind.false
    in
    subst (SlotsSuit messages kinds) (sym c.with-longer.ensures)
    (suits_further messages kinds a.slots.now a.pattern a.offer.now.number c.requires.can.suits c.requires.free c.requires.can.recorded of_kind (below_apart a.slots.now a.offer.now.number c.requires.can.below))

pub all_stand-requires-clause-outside : goal.all_stand-requires-clause-outside
all_stand-requires-clause-outside g c = subst (StandOutside (offered c.args.offer.now) c.args.asked) (sym c.with-longer.ensures) c.requires.outside

pub asks_none-requires : goal.asks_none-requires
asks_none-requires g c = free_small (offered c.args.offer.now) c.args.slots.now c.args.pattern c.requires.can (none_is_free c.args.slots.now c.args.pattern c.requires.free)

pub returns-then-asks_none-clause-answer : goal.returns-then-asks_none-clause-answer
returns-then-asks_none-clause-answer g c =
    let a = c.args in
    let o = offered a.offer.now in
    let kind = get_or_from_slice_get o.definition.patterns a.pattern c.at-kind.result.now 0 c.at-kind.ensures.item in
    let of_kind : is_of_kind (recorded_message o.messages o.number) (slice_index o.definition.patterns a.pattern) ≡ true =
    ap (is_of_kind (recorded_message o.messages o.number)) kind ∙ sym c.has_kind.ensures ∙ c.if-not-has_kind.false
    in
    let agrees = none_stands o a.slots.now a.pattern a.asked (none_is_free a.slots.now a.pattern c.requires.free) c.requires.can.agreeable (c.asks_none.ensures c.if-asks_none.true) c.requires.outside in
    sym (λ i. of_kind i && agrees i)

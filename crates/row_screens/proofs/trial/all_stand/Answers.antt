use Rattle.std.proofs.Common.{◌≡◌, ◌∙◌, ◌<◌, ℕ, length, None, Some, true, ap, subst, arith}
use Rattle.std.specs.Prelude.{◌&&◌}
use Rattle.std.specs.List.{list_all}
use Rattle.std.proofs.lemmas.Option.{slice_get_within}
use Rattle.std.proofs.lemmas.List.{length-set}
use Rattle.guard_eval.specs.Meaning.{Assignment, is_filled}
use Rattle.pattern_core.specs.Matches.{is_agreeable}
use Rattle.pattern_core.proofs.SuitsLemmas.{length-SlotsSuit}
use Rattle.row_screens.specs.Offering.{offered}
use Rattle.row_screens.specs.PlaceSet.{has}
use Rattle.row_screens.specs.Ties.{names, needs_at}
use Rattle.row_screens.specs.Trial.{AllStand, StandOutside}
use Rattle.row_screens.proofs.SlotsLemmas.{none_is_free}
use Rattle.row_screens.proofs.TrialLemmas.{named_decided_all, same_answer, set_stands}
use Rattle.row_screens.proofs.trial.all_stand.Goals as goal

pub decided_at-those-requires : goal.decided_at-those-requires
decided_at-those-requires c =
    let a = c.args in
    let o = offered a.offer.now in
    record {
      definition = c.requires.definition;
      long = length-SlotsSuit o.messages o.definition.patterns a.longer.now c.requires.suits;
      within = omega (arith, slice_get_within a.slots.now a.pattern None c.requires.free, ap (λ (s : Assignment). length s) c.requires.longer, length-set a.slots.now a.pattern (Some a.offer.now.number));
    }

pub all_hold-requires : goal.all_hold-requires
all_hold-requires c =
    let a = c.args in
    record {
      definition = c.requires.definition;
      suits = c.requires.suits;
      decided = named_decided_all (offered a.offer.now) a.longer.now a.pattern (has a.asked) c.decided_at-those.result c.decided_at-those.ensures;
    }

pub returns : goal.returns
returns c =
    let a = c.args in
    let o = offered a.offer.now in
    let those = c.decided_at-those.result in
    let longer = c.requires.longer in
    let Told : Assignment → Type 0 = λ s. (k : ℕ) → k < 64 → has those k ≡ ((names a.pattern (needs_at o.definition.conjuncts k) && has a.asked k) && list_all (is_filled s) (needs_at o.definition.conjuncts k)) in
    let stand : c.all_hold.result ≡ true → is_agreeable o.messages o.definition.conjuncts a.longer.now ≡ true = λ yes.
    ap (is_agreeable o.messages o.definition.conjuncts) longer
    ∙ set_stands o a.slots.now a.pattern o.number a.asked those (none_is_free a.slots.now a.pattern c.requires.free) c.requires.before (omega (arith, c.if-len-gt64.false, c.len.ensures))
    (subst Told longer c.decided_at-those.ensures)
    (subst (StandOutside o a.asked) longer c.requires.outside)
    (subst (λ (s : Assignment). AllStand o s those) longer (c.all_hold.ensures.stand yes))
    in
    same_answer c.all_hold.result (is_agreeable o.messages o.definition.conjuncts a.longer.now) stand c.all_hold.ensures.fails

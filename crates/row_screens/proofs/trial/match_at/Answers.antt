use Rattle.std.proofs.Common.{◌∙◌, Some, subst, sym, ap}
use Rattle.pattern_core.specs.Choice.{candidate_of}
use Rattle.pattern_core.specs.Matches.{is_complete_match}
use Rattle.pattern_core.specs.Suits.{SlotsSuit}
use Rattle.row_screens.specs.Offering.{offered}
use Rattle.row_screens.proofs.MatchLemmas.{suits_with, match_yes, match_no}
use Rattle.row_screens.proofs.trial.match_at.Goals as goal

pub complete-requires-clause-suits : goal.complete-requires-clause-suits
complete-requires-clause-suits c =
    let a = c.args in
    let o = offered a.offer.now in
    subst (SlotsSuit o.messages o.definition.patterns) (sym c.with-longer.ensures) (suits_with o a.slots.now a.pattern c.requires.can c.requires.may)

pub candidate-requires-clause-suits : goal.candidate-requires-clause-suits
candidate-requires-clause-suits c =
    let a = c.args in
    let o = offered a.offer.now in
    subst (SlotsSuit o.messages o.definition.patterns) (sym c.with-longer.ensures) (suits_with o a.slots.now a.pattern c.requires.can c.requires.may)

pub returns-then-not-complete : goal.returns-then-not-complete
returns-then-not-complete c =
    let o = offered c.args.offer.now in
    let answer = c.complete.ensures ∙ ap (is_complete_match o.messages o.definition) c.with-longer.ensures in
    match_no o c.args.slots.now c.args.pattern (sym answer ∙ c.if-not-complete.true)

pub returns : goal.returns
returns c =
    let o = offered c.args.offer.now in
    let answer = c.complete.ensures ∙ ap (is_complete_match o.messages o.definition) c.with-longer.ensures in
    ap Some (c.candidate.ensures ∙ ap (candidate_of o.rule) c.with-longer.ensures) ∙ match_yes o c.args.slots.now c.args.pattern (sym answer ∙ c.if-not-complete.false)

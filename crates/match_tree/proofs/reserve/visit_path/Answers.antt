use Rattle.std.proofs.Common.{◌∙◌, ℕ, List, ap, sym, subst}
use Rattle.std.specs.List.{AllByRecursion}
use Rattle.pattern_core.specs.Choice.{least}
use Rattle.row_screens.specs.Offers.{matches_of, places}
use Rattle.row_screens.specs.Offering.{offered, MayTake}
use Rattle.row_screens.proofs.TrialLemmas.{none_outside}
use Rattle.row_screens.proofs.MemberLemmas.{all_take}
use Rattle.match_tree.proofs.reserve.visit_path.Goals as goal

pub takers-able-requires-clause-outside : goal.takers-able-requires-clause-outside
takers-able-requires-clause-outside g c = none_outside (offered c.args.offer.now) c.args.slots.now c.all.result c.all.ensures.full c.args.wanted.now

pub best_match-requires-clause-may : goal.best_match-requires-clause-may
best_match-requires-clause-may g c =
    let a = c.args in
    let o = offered a.offer.now in
    subst (λ (ps : List ℕ). AllByRecursion (MayTake o a.slots.now) ps) (sym (c.takers-able.ensures.answer ∙ c.requires.wanted)) (all_take o a.slots.now (places 0 o.definition.patterns))

pub returns-clause-best : goal.returns-clause-best
returns-clause-best g c =
    let a = c.args in
    let o = offered a.offer.now in
    c.best_match.ensures ∙ ap (λ (ps : List ℕ). least (matches_of o a.slots.now ps)) (c.takers-able.ensures.answer ∙ c.requires.wanted)

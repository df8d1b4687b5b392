use Rattle.std.proofs.Common.{◌≡◌, ◌∙◌, not, ap, arith}
use Rattle.std.specs.Prelude.{◌&&◌}
use Rattle.std.specs.List.{list_all}
use Rattle.guard_eval.specs.Meaning.{is_filled}
use Rattle.row_screens.specs.PlaceSet.{has}
use Rattle.row_screens.specs.Ties.{names, needs_at}
use Rattle.row_screens.proofs.TrialLemmas.{none_there, nothing_first}
use Rattle.row_screens.proofs.trial.decided_at.Goals as goal

pub naming-requires : goal.naming-requires
naming-requires c = omega (arith, c.requires.within, c.requires.long, c.requires.definition.few)

pub returns-then-is_none : goal.returns-then-is_none
returns-then-is_none c =
    let a = c.args in
    let conjuncts = a.offer.now.definition.now.conjuncts in
    let those = c.both-among.result in
    let none = nothing_first those c.first.result c.first.ensures (c.is_none.ensures ∙ ap not c.if-is_none.true) in
    λ k small.
    let named : has those k ≡ (names a.pattern (needs_at conjuncts k) && has a.asked k) = c.both-among.ensures k ∙ (λ i. a.offer.now.tied a.pattern c.naming.result c.naming.ensures k small i && has a.asked k) in
    none k ∙ none_there (has those k) (names a.pattern (needs_at conjuncts k) && has a.asked k) (list_all (is_filled a.longer.now) (needs_at conjuncts k)) named (none k)

pub returns : goal.returns
returns c =
    let a = c.args in
    let conjuncts = a.offer.now.definition.now.conjuncts in
    λ k small.
    let named : has c.both-among.result k ≡ (names a.pattern (needs_at conjuncts k) && has a.asked k) = c.both-among.ensures k ∙ (λ i. a.offer.now.tied a.pattern c.naming.result c.naming.ensures k small i && has a.asked k) in
    c.filled_among.ensures k small ∙ (λ i. named i && list_all (is_filled a.longer.now) (needs_at conjuncts k))

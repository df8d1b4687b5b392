use Rattle.std.proofs.Common.{◌≡◌, ◌∙◌, ap, sym, true, false}
use Rattle.std.specs.Prelude.{◌==◌, Option}
use Rattle.guard_eval.specs.Condition.{Condition}
use Rattle.row_screens.specs.PlaceSet.{has}
use Rattle.row_screens.specs.Ties.{names, needs_in, needs_at}
use Rattle.row_screens.proofs.TieLemmas.{added_named, added_unnamed}
use Rattle.row_screens.proofs.ties.add_naming.Goals as goal

pub returns-then-conjunct_names : goal.returns-then-conjunct_names
returns-then-conjunct_names c =
    let a = c.args in
    let named : names a.pattern (needs_at a.conjuncts.now a.place) ≡ true = ap (λ (x : Option Condition). names a.pattern (needs_in x)) c.at.ensures ∙ sym c.conjunct_names.ensures ∙ c.if-conjunct_names.true in
    λ k. c.with.ensures k ∙ added_named (k == a.place) (names a.pattern (needs_at a.conjuncts.now a.place)) (has a.found k) named

pub returns : goal.returns
returns c =
    let a = c.args in
    let unnamed : names a.pattern (needs_at a.conjuncts.now a.place) ≡ false = ap (λ (x : Option Condition). names a.pattern (needs_in x)) c.at.ensures ∙ sym c.conjunct_names.ensures ∙ c.if-conjunct_names.false in
    λ k. added_unnamed (k == a.place) (names a.pattern (needs_at a.conjuncts.now a.place)) (has a.found k) unnamed

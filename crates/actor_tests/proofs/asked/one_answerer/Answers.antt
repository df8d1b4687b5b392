use Rattle.std.proofs.Common.{◌∙◌, ◌∷◌, ◌++◌, [], All, List, ap, subst, sym}
use Rattle.std.proofs.lemmas.List.Elements.{All-nil, All-push}
use Rattle.actor_pool.specs.Beside.{FitsOpening}
use Rattle.answerer.specs.declared.reading.Answerer.{Answerer}
use Rattle.answerer.specs.Beside.{FitsHistory}
use Rattle.answerer.proofs.BesideLemmas.{nothing_fits}
use Rattle.actor_tests.proofs.asked.one_answerer.Goals as goal

pub returns-clause-opening : goal.returns-clause-opening
returns-clause-opening c =
    let Opens : Answerer → Type 0 = FitsOpening FitsHistory in
    let one = c.in_ok-new.field-0 in
    let items = c.in_ok-push.ensures.items ∙ ap (λ (xs : List Answerer). xs ++ one ∷ []) c.new-besides.ensures.items in
    subst (All Opens) (sym items) (All-push Opens [] one (All-nil Opens) (λ actor setting. nothing_fits one actor setting [] c.in_ok-new.ensures.fits))

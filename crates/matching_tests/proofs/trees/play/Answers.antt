use Rattle.std.proofs.Common.{◌∙◌, ap, sym, subst, arith}
use Rattle.match_tree.specs.Tree.{Tree}
use Rattle.pattern_core.specs.Window.{SeesLatest}
use Rattle.matching_tests.proofs.SampleLemmas.{samples_suit, opening_can}
use Rattle.matching_tests.proofs.trees.play.Goals as goal

pub offer_each-requires-clause-sees : goal.offer_each-requires-clause-sees
offer_each-requires-clause-sees g c =
    let window = ap (λ (u : Tree). u.definition.window) c.in_ok-tree.ensures.opening ∙ c.in_ok-definition.ensures.window in
    subst SeesLatest (sym window) c.requires.sees

pub offer_each-requires-clause-settled : goal.offer_each-requires-clause-settled
offer_each-requires-clause-settled g c = ap (λ (u : Tree). u.reserve) c.in_ok-tree.ensures.opening

pub offer_each-requires-clause-can : goal.offer_each-requires-clause-can
offer_each-requires-clause-can g c =
    let d = c.in_ok-definition.definition in
    let messages = c.in_ok-messages.messages in
    let suits = samples_suit messages d (omega (arith, c.in_ok-definition.ensures.count, c.requires.some)) (omega (arith, c.in_ok-definition.ensures.count, c.requires.most)) c.in_ok-messages.ensures.ints c.in_ok-definition.ensures.samples in
    opening_can messages _ _ d c.as_slice-shown.ensures.same c.in_ok-tree.ensures.opening suits (omega (arith, c.in_ok-messages.ensures.count))

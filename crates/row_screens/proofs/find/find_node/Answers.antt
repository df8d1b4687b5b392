use Rattle.std.proofs.Common.{◌≡◌, ◌∙◌, inl, inr, ◌<◌, ℕ, List, length, map, false, Some, refl, sym, ap, subst, arith}
use Rattle.std.specs.Prelude.{slice_index}
use Rattle.std.proofs.lemmas.Bool.{cases_lt}
use Rattle.std.proofs.lemmas.List.{get_or_default}
use Rattle.tree_rows.specs.Routes.{Branch}
use Rattle.tree_rows.specs.Rows.{leaf, node_at}
use Rattle.row_screens.specs.Screen.{passes}
use Rattle.row_screens.proofs.KeyLemmas.{number_there}
use Rattle.row_screens.proofs.find.find_node.Goals as goal

pub loop-place-preserved : goal.loop-place-preserved
loop-place-preserved g c =
    let a = c.args in
    let nodes = a.nodes.now.items in
    let numbers : List ℕ = map (λ (node : Branch). node.number) nodes in
    let place : ℕ = c.loop-place.place in
    let within : place < length nodes = omega (arith, c.loop-place-test.true, c.len-place-end.ensures, a.nodes.now.ok.0) in
    let node : c.index.result.now ≡ node_at nodes place = c.index.ensures ∙ get_or_default nodes place c.index.result.now (leaf 0) within in
    let number : c.number.result ≡ slice_index numbers place = c.number.ensures ∙ ap (λ (n : Branch). n.number) node ∙ sym (number_there nodes numbers place refl) in
    let here : passes a.messages.now (Some a.key) (slice_index numbers place) ≡ false = subst (λ (n : ℕ). passes a.messages.now (Some a.key) n ≡ false) number (sym c.has_value.ensures ∙ c.if-has_value.false) in
    let before = c.loop-place.invariant in
    record {
      lacking = λ i l m. elim (cases_lt i place) [
        | inl below ↦ before.lacking i l below
        | inr above ↦
            let at : place ≡ i = omega (arith, m, above) in
            subst (λ (k : ℕ). passes a.messages.now (Some a.key) (slice_index numbers k) ≡ false) at here
      ];
      counted = omega (arith, before.counted, c.tick.ensures);
    }

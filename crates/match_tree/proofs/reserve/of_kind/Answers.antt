use Rattle.std.proofs.Common.{◌≡◌, ◌∙◌, ◌++◌, ◌∷◌, [], ◌<◌, ℕ, List, Bool, cond, length, ap, sym, arith, slice_index, take}
use Rattle.std.specs.List.{filter}
use Rattle.row_screens.specs.Offers.{places}
use Rattle.std.proofs.lemmas.List.{length_push, append-nil}
use Rattle.std.proofs.lemmas.Option.{get_or_from_slice_get}
use Rattle.guard_eval.specs.Meaning.{recorded_message}
use Rattle.pattern_core.specs.Matches.{is_of_kind}
use Rattle.match_tree.proofs.RootLemmas.{kinds_more}
use Rattle.match_tree.proofs.reserve.of_kind.Goals as goal
use Rattle.match_tree.proofs.reserve.of_kind.Goals.{then-has_kind, else-has_kind}

pub loop-pattern-preserved : goal.loop-pattern-preserved
loop-pattern-preserved c =
    let a = c.args in
    let kinds = a.definition.now.patterns in
    let f : ℕ → Bool = λ p. is_of_kind (recorded_message a.messages.now a.number) (slice_index kinds p) in
    let i : ℕ = c.loop-pattern.pattern in
    let within : i < length kinds = omega (arith, c.loop-pattern-test.true, c.len-pattern-end.ensures.count) in
    let kind = get_or_from_slice_get kinds i c.at.result.now 0 c.at.ensures.item in
    let answer : f i ≡ c.has_kind.result = ap (is_of_kind (recorded_message a.messages.now a.number)) kind ∙ sym c.has_kind.ensures in
    let more = kinds_more f kinds i within in
    let front : List ℕ = filter f (places 0 (take i kinds)) in
    let by : Bool → List ℕ = λ b. front ++ cond b (i ∷ []) [] in
    elim c.if-has_kind.branch [
      | then-has_kind w ↦
          let grown = w.found-is ∙ w.push.ensures.appended in
          record {
            found = grown ∙ ap (λ (ns : List ℕ). ns ++ i ∷ []) c.loop-pattern.invariant.found ∙ sym (more ∙ ap by (answer ∙ w.if-has_kind.true));
            few = omega (arith, c.loop-pattern.invariant.few, ap (λ (ns : List ℕ). length ns) grown, length_push c.loop-pattern.found i);
          }
      | else-has_kind w ↦ record {
        found = w.found-is ∙ c.loop-pattern.invariant.found ∙ sym (more ∙ ap by (answer ∙ w.if-has_kind.false) ∙ append-nil front);
        few = omega (arith, c.loop-pattern.invariant.few, ap (λ (ns : List ℕ). length ns) w.found-is);
      }
    ]

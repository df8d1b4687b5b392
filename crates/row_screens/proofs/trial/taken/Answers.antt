use Rattle.std.proofs.Common.{◌∙◌, ◌++◌, ◌∷◌, [], ℕ, List, Some, length, ap, sym, arith}
use Rattle.std.proofs.lemmas.List.{length_push}
use Rattle.row_screens.proofs.TakenLemmas.{taken_more_some, taken_more_none}
use Rattle.row_screens.proofs.trial.taken.Goals as goal
use Rattle.row_screens.proofs.trial.taken.Goals.{in-Some, in_default}

pub loop-pattern-preserved : goal.loop-pattern-preserved
loop-pattern-preserved c =
    let a = c.args in
    elim c.match-get.branch [
      | in-Some w ↦
          let grown = w.numbers-is ∙ w.push.ensures.appended in
          record {
            found = grown ∙ ap (λ (ns : List ℕ). ns ++ w.in-Some.number ∷ []) c.loop-pattern.invariant.found ∙ sym (taken_more_some a.slots.now c.loop-pattern.pattern w.in-Some.number (c.get.ensures.place ∙ ap Some w.in-Some.is));
            few = omega (arith, c.loop-pattern.invariant.few, ap length grown, length_push c.loop-pattern.numbers w.in-Some.number);
          }
      | in_default w ↦ record {
        found = w.numbers-is ∙ c.loop-pattern.invariant.found ∙ sym (taken_more_none a.slots.now c.loop-pattern.pattern (c.get.ensures.place ∙ ap Some w.in_default.is));
        few = omega (arith, c.loop-pattern.invariant.few, ap length w.numbers-is);
      }
    ]

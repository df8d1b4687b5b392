use Rattle.std.proofs.Common.{ℕ, List, ap, refl, subst, take, ◌∙◌}
use mathlib.Core.List.{IsPrefix}
use Rattle.live_board.specs.declared.totals.Totals.{Totals}
use Rattle.live_board.specs.declared.front.Front.{Front}
use Rattle.live_board.specs.History.{front_records}
use Rattle.live_board.proofs.FoldLemmas.{first-rows}
use Rattle.live_board.proofs.left_looking.LeftGlassGlass.look.Goals as goal

pub returns-clause-shown : goal.returns-clause-shown
returns-clause-shown c =
    let snapshot = c.in-Some.snapshot in
    let rows = c.args.self.now.rows in record {
      goes_on = subst (λ (f : Front). IsPrefix (front_records f) (front_records snapshot.front)) c.see.ensures.front c.if-not-begins.ensures.begins;
      folded = c.copy_from.ensures.first ∙ ap (λ (n : ℕ). take n snapshot.totals) c.requires.rows ∙ ap (λ (l : List Totals). take rows l) snapshot.folded
          ∙ first-rows rows 32 (front_records snapshot.front) c.args.self.now.few;
    }

pub returns-clause-looks : goal.returns-clause-looks
returns-clause-looks c = (c.in-Some.snapshot, c.in-Some.ensures.taken, refl)

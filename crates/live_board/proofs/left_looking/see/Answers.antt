use Rattle.std.proofs.Common.{◌∷◌, ap, subst, sym, ◌∙◌}
use Rattle.left_right.specs.Sides.{view}
use Rattle.live_board.specs.declared.snapshot.Snapshot.{Snapshot}
use Rattle.live_board.specs.History.{front_book}
use Rattle.live_board.specs.BoardRule.{HasSeenOf}
use Rattle.live_board.proofs.RuleLemmas.{begins-self, sees, sees-of}
use Rattle.live_board.proofs.left_looking.see.Goals as goal

pub enter_as-requires : goal.enter_as-requires
enter_as-requires c x = sees _ _ x x (begins-self x)

pub returns-in-Ok : goal.returns-in-Ok
returns-in-Ok c = record {
  tied = λ b seen.
      let both = sees-of b (view c.args.reader.place) (view c.in-Ok.reading.place) c.in-Ok.reading.part.value c.in-Ok.ensures.1 seen in
      (subst (HasSeenOf b) (sym c.leave.ensures.1) both.0, ap (λ (p : Snapshot). front_book p.front) (c.again-snapshot.ensures.same ∙ c.get.ensures) ∙ both.1);
  taken = c.leave.ensures.1 ∙ c.in-Ok.ensures.1.1 ∙ ap (λ (p : Snapshot). p ∷ view c.args.reader.place) (sym (c.again-snapshot.ensures.same ∙ c.get.ensures));
}

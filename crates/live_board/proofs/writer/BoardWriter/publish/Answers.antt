use Rattle.std.proofs.Common.{◌≡◌, ◌∷◌, ◌++◌, [], List, sym, ap, ◌∙◌, subst}
use Rattle.live_board.specs.declared.snapshot.Snapshot.{Snapshot}
use Rattle.live_board.specs.BoardRule.{Begins}
use Rattle.live_board.proofs.writer.BoardWriter.publish.Goals as goal

pub replace_with-requires : goal.replace_with-requires
replace_with-requires g c =
    let next = c.in-Some.next in
    let shown : c.append.new.self.desk.shown.value ≡ c.published.result.now = ap (λ d. d.shown.value) c.append.ensures.desk ∙ sym c.published.ensures in (
      next,
      c.in-Ok.ensures.pending ∙ ap (λ (l : List Snapshot). l ++ next ∷ []) c.args.self.now.idle,
      subst (λ (p : Snapshot). Begins p next) (sym shown) (sym c.in-Some.ensures.book, (c.args.item ∷ [], sym c.in-Some.ensures.next)),
    )

use Rattle.std.proofs.Common.{◌≡◌, ◌∷◌, ◌++◌, [], List, sym, ap, ◌∙◌, subst}
use Rattle.live_board.specs.declared.snapshot.Snapshot.{Snapshot}
use Rattle.live_board.specs.BoardRule.{Begins}
use Rattle.live_board.proofs.RuleLemmas.{begins-self}
use Rattle.live_board.proofs.opening.show_first.Goals as goal

pub show-writer-requires : goal.show-writer-requires
show-writer-requires g c =
    let first = c.args.first in
    let shown : c.append.new.self.desk.shown.value ≡ first = ap (λ d. d.shown.value) c.in-Ok.ensures.desk ∙ c.requires.shown in record {
      next = (
        first,
        c.in-Ok.ensures.pending ∙ ap (λ (l : List Snapshot). l ++ first ∷ []) c.requires.idle,
        subst (λ (p : Snapshot). Begins p first) (sym shown) (begins-self first),
      );
    }

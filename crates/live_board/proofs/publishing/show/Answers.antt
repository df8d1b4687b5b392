use Rattle.std.proofs.Common.{◌≡◌, List, fold, sym, ap, ◌∙◌, subst}
use Rattle.live_board.specs.declared.snapshot.Snapshot.{Snapshot}
use Rattle.live_board.specs.BoardRule.{Begins}
use Rattle.live_board.proofs.RuleLemmas.{sees}
use Rattle.live_board.proofs.publishing.show.Goals as goal

pub publish_as-requires : goal.publish_as-requires
publish_as-requires g c next is =
    let shown = c.args.writer.desk.shown.value in
    let one = c.requires.next in
    let last : next ≡ one.0 = is ∙ ap (λ (l : List Snapshot). fold (λ (before : Snapshot) (after : Snapshot). after) shown l) one.1 in
    sees _ _ shown next (subst (Begins shown) (sym last) one.2)

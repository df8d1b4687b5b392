use Rattle.std.proofs.Common.{rules, ◌≡◌, List, length, take, ap, ◌∙◌}
use Rattle.live_board.specs.declared.totals.Totals.{Totals}
use Rattle.live_board.specs.Writers.{published}
use Rattle.live_board.proofs.FoldLemmas.{first-rows}
use Rattle.live_board.proofs.writer.BoardWriter.close_into.Goals as goal

pub returns : goal.returns
returns g c =
    let w = c.args.self in
    let same : c.deref.result.now ≡ w.writer.desk.shown.value = search rules in
    let totals = ap (λ p. p.totals) same ∙ w.writer.desk.shown.value.folded in
    let rows = length c.args.into.now in
    record { folded = c.copy_from.ensures.first ∙ ap (λ (l : List Totals). take rows l) totals ∙ first-rows rows 32 (published w) c.requires.few }

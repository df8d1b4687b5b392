use Rattle.std.proofs.Common.{refl, subst}
use Rattle.live_board.specs.declared.totals.Totals.{Totals}
use Rattle.live_board.specs.Writers.{EndsWith}
use Rattle.live_board.proofs.beside.PublisherBeside.seen.Goals as goal

pub returns-clause-noted : goal.returns-clause-noted
returns-clause-noted g c =
    let note = c.in_ok-note.note in (
      note,
      subst (λ (t : Totals). EndsWith (record { actor = c.args.actor; totals = t }) note) c.actor_totals.ensures.totals c.in_ok-note.ensures.told,
      refl,
    )

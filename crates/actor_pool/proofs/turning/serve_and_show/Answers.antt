use Rattle.std.proofs.Common.{subst, sym}
use Rattle.actor_turn.specs.Held.{Held}
use Rattle.actor_pool.specs.Beside.{IsReached, ShowsHistory}
use Rattle.actor_pool.proofs.BesideLemmas.{lawful-reached, lawful-shows}
use Rattle.actor_pool.proofs.turning.serve_and_show.Goals as goal

pub seen-shown-requires-clause-reached : goal.seen-shown-requires-clause-reached
seen-shown-requires-clause-reached g c =
    subst (λ (h : Held). IsReached h.setting h.state) (sym c.deref.ensures) (lawful-reached c.serve_noted-served.new.cell c.serve_noted-served.ensures.kept.lawful)

pub seen-shown-requires-clause-shows : goal.seen-shown-requires-clause-shows
seen-shown-requires-clause-shows g c =
    subst (λ (h : Held). ShowsHistory h.setting h.state h.history) (sym c.deref.ensures) (lawful-shows c.serve_noted-served.new.cell c.serve_noted-served.ensures.kept.lawful)

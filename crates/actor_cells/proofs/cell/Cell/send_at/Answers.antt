use Rattle.std.proofs.Common.{refl, ap, length, sym, subst, ◌<◌, ◌∙◌}
use Rattle.actor_turn.specs.Held.{Held, posts_for}
use Rattle.actor_cells.specs.Steps.{AreSmall, Moves}
use Rattle.actor_cells.proofs.CellLemmas.{sent-kept, target-exists, waiting-small}
use Rattle.actor_cells.proofs.SentLemmas.{sent-more}
use Rattle.actor_cells.proofs.cell.Cell.send_at.Goals as goal

pub send_over-requires-clause-exists : goal.send_over-requires-clause-exists
send_over-requires-clause-exists c =
    let lawful = c.requires.lawful in
    let exists = target-exists c.args.self.now lawful c.args.place c.index_mut-one.result.now c.requires.within (sym c.index_mut-one.ensures.value) in
    subst (λ n. c.index_mut-one.result.now.target < n) (sym (ap (λ (h : Held). length h.outbox) c.deref_mut.ensures.value ∙ lawful.outboxes)) exists

pub send_over-requires-clause-small : goal.send_over-requires-clause-small
send_over-requires-clause-small c =
    let lawful = c.requires.lawful in
    let exists = target-exists c.args.self.now lawful c.args.place c.index_mut-one.result.now c.requires.within (sym c.index_mut-one.ensures.value) in
    subst (λ (h : Held). AreSmall (posts_for h.outbox c.index_mut-one.result.now.target)) (sym c.deref_mut.ensures.value) (waiting-small c.args.self.now lawful c.index_mut-one.result.now.target exists)

pub returns-clause-kept : goal.returns-clause-kept
returns-clause-kept c =
    sent-kept c.args.self.now _ c.args.place c.index_mut-one.result.now c.send_over.new.link c.requires.lawful c.requires.within (sym c.index_mut-one.ensures.value) refl refl
    (subst (λ (h : Held). Moves c.index_mut-one.result.now.target h c.send_over.new.actor c.index_mut-one.result.now.link c.send_over.new.link) c.deref_mut.ensures.value c.send_over.ensures.moves)

pub returns-clause-sent : goal.returns-clause-sent
returns-clause-sent c =
    sent-more c.args.self.now c.send_over.new.actor c.args.place c.index_mut-one.result.now c.send_over.new.link c.requires.lawful c.requires.within (sym c.index_mut-one.ensures.value)
    (subst (λ (h : Held). Moves c.index_mut-one.result.now.target h c.send_over.new.actor c.index_mut-one.result.now.link c.send_over.new.link) c.deref_mut.ensures.value c.send_over.ensures.moves) c.send_over.ensures.sent

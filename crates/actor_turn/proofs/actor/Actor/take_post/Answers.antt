use Rattle.std.proofs.Common.{◌∙◌, ap, arith, length}
use Rattle.std.proofs.lemmas.List.{length-map}
use Rattle.actor_turn.specs.Outbox.{Queue}
use Rattle.actor_turn.specs.Held.{Held, posts_for, without_first}
use Rattle.actor_turn.specs.Parts.{history_in, state_of}
use Rattle.actor_turn.specs.Inside.{setting_in}
use Rattle.actor_turn.proofs.PostsLemmas.{taken_is, taken_lent}
use Rattle.actor_turn.proofs.actor.Actor.take_post.Goals as goal

pub returns-clause-taken : goal.returns-clause-taken
returns-clause-taken c =
    let a = c.self.inside in
    taken_is (setting_in a) (state_of a.mail.mail a.firings.items a.ending) (history_in a.mail.mail.arrivals) a.trees.items a.outboxes.items c.args.target c.index_mut.result.now c.take.new.self (omega (arith, c.requires.exists, ap (λ (h : Held). length h.outbox) c.self.view_is, length-map a.outboxes.items (λ (o : Queue). o.posts))) c.index_mut.ensures.value c.take.ensures.posts c.take.ensures.lent
    ∙ ap (λ (h : Held). without_first h c.args.target (posts_for h.outbox c.args.target)) c.self.view_is

pub returns-clause-lent : goal.returns-clause-lent
returns-clause-lent c =
    let a = c.self.inside in
    taken_lent a.outboxes.items c.args.target c.index_mut.result.now c.take.new.self c.take.result (omega (arith, c.requires.exists, ap (λ (h : Held). length h.outbox) c.self.view_is, length-map a.outboxes.items (λ (o : Queue). o.posts))) c.take.ensures.first c.take.ensures.lent

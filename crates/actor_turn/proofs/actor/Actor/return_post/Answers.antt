use Rattle.std.proofs.Common.{◌∙◌, ap, arith, length}
use Rattle.std.proofs.lemmas.List.{length-map}
use Rattle.actor_turn.specs.Outbox.{Queue}
use Rattle.actor_turn.specs.Held.{Held, with_first}
use Rattle.actor_turn.specs.Parts.{history_in, state_of}
use Rattle.actor_turn.specs.Inside.{setting_in}
use Rattle.actor_turn.proofs.PostsLemmas.{returned_is}
use Rattle.actor_turn.proofs.actor.Actor.return_post.Goals as goal

pub returns : goal.returns
returns c =
    let a = c.self.inside in
    record {
      returned =
          returned_is (setting_in a) (state_of a.mail.mail a.firings.items a.ending) (history_in a.mail.mail.arrivals) a.trees.items a.outboxes.items c.args.target c.index_mut.result.now c.give_back.new.self (omega (arith, c.requires.exists, ap (λ (h : Held). length h.outbox) c.self.view_is, length-map a.outboxes.items (λ (o : Queue). o.posts))) c.index_mut.ensures.value c.args.post c.give_back.ensures.posts c.give_back.ensures.lent
          ∙ ap (λ (h : Held). with_first h c.args.target c.args.post) c.self.view_is;
    }

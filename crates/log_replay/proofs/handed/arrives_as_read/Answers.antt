use Rattle.std.proofs.Common.{◌∙◌, length, ap, sym}
use Rattle.fair_semantics.specs.Step.{State, Stepped}
use Rattle.actor_turn.specs.Held.{new_entries}
use Rattle.actor_turn.proofs.PostsLemmas.{length-posts_behind}
use Rattle.log_replay.proofs.HandedLemmas.{as_read}
use Rattle.log_replay.proofs.handed.arrives_as_read.Goals as goal

pub forget_fired-requires : goal.forget_fired-requires
forget_fired-requires g c = record {
  many = ap length c.in-Ok.ensures.outbox ∙ length-posts_behind 0 (new_entries c.args.actor.now.state c.receive.new.self.state) c.args.actor.now.outbox ∙ c.requires.many;
}

pub returns-in-Ok-clause-as_read : goal.returns-in-Ok-clause-as_read
returns-in-Ok-clause-as_read g c =
    λ same.
    ap (λ (s : State). s.entries) c.forget_fired.ensures.state
    ∙ as_read c.args.actor.now.setting c.args.actor.now.state c.receive.new.self.state c.args.entry c.arrivals-before.result c.is_recorded-same.result (sym (ap (λ (s : Stepped). s.0) c.in-Ok.ensures.step)) c.arrivals-before.ensures.count c.is_recorded-same.ensures same

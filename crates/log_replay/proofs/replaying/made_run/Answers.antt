use Rattle.std.proofs.Common.{◌∙◌, ◌+◌, [], length, ap, sym}
use Rattle.std.proofs.lemmas.List.{length-replicate}
use Rattle.actor_turn.specs.Held.{Held, new_entries}
use Rattle.actor_turn.proofs.PostsLemmas.{length-posts_behind}
use Rattle.log_replay.proofs.ReplayLemmas.{goes_first, goes_on, goes_still}
use Rattle.log_replay.proofs.replaying.made_run.Goals as goal

pub loop-entry-init : goal.loop-entry-init
loop-entry-init g c =
    let first =
    goes_first c.args.plan.now c.args.run.now c.args.index c.in_ok-actor.actor c.as_slice.result.now c.entries_at-entry-items.result.now c.requires.typed c.requires.fits c.in_ok-actor.ensures.opening c.as_slice.ensures.same
    c.entries_at-entry-items.ensures
    in record { left = first.left; setting = first.setting; counted = first.counted; boxes = ap (λ (a : Held). length a.outbox) c.in_ok-actor.ensures.opening ∙ length-replicate (length c.args.plan.now.actors) [] }

pub loop-entry-preserved : goal.loop-entry-preserved
loop-entry-preserved g c =
    let i = c.loop-entry.invariant in
    let next =
    goes_on c.args.plan.now c.args.run.now c.args.index c.loop-entry.actor c.arrive.new.self c.entries_at-entry-items.result.now c.loop-entry.entry-index c.entry-item.result c.in_ok-outcome.outcome
    (record { left = i.left; setting = i.setting; counted = i.counted }) c.loop-entry-test.true c.entry-item.is c.in_ok-outcome.ensures.step c.in_ok-outcome.ensures.setting c.in_ok-outcome.ensures.sources
    in
    let still =
    goes_still c.args.plan.now c.args.run.now c.args.index c.arrive.new.self c.forget_fired.new.actor c.entries_at-entry-items.result.now (c.loop-entry.entry-index + 1) next c.forget_fired.ensures.state c.forget_fired.ensures.setting
    in record { left = still.left; setting = still.setting; counted = still.counted; boxes = c.forget_fired.ensures.many ∙ c.len.ensures.count }

pub forget_fired-requires : goal.forget_fired-requires
forget_fired-requires g c = record {
  many = ap length c.in_ok-outcome.ensures.outbox ∙ length-posts_behind 0 (new_entries c.loop-entry.actor.state c.arrive.new.self.state) c.loop-entry.actor.outbox ∙ c.loop-entry.invariant.boxes ∙ sym c.len.ensures.count;
}

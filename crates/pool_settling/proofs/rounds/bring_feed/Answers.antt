use Rattle.std.proofs.Common.{◌+◌, List, ap, sym, subst, rules, arith}
use Rattle.actor_turn.specs.Held.{Held}
use Rattle.pool_settling.proofs.EndLemmas.{get_here}
use Rattle.pool_settling.proofs.StandLemmas.{steps_by}
use Rattle.pool_settling.proofs.FeedLemmas.{Feeds, feeds_one, feeds_skip}
use Rattle.pool_settling.proofs.rounds.bring_feed.Goals as goal
use Rattle.pool_settling.proofs.rounds.bring_feed.Goals.{then-target-len+in_ok-arrive, else-target-len}

pub loop-place-preserved : goal.loop-place-preserved
loop-place-preserved g c =
    let helds : List Held = c.loop-place.actors.items in
    let x = c.index-posts-place.result in
    let i = c.loop-place.invariant in
    let before : Feeds c.args.feed c.loop-place.place c.args.posts.now c.args.actors.now.items helds = record { members = i.members; have = i.have; fed = i.fed; on = i.on; weight = i.weight } in
    let at = get_here c.args.posts.now c.loop-place.place x (search rules) (sym c.index-posts-place.is) in
    let after : Feeds c.args.feed (c.loop-place.place + 1) c.args.posts.now c.args.actors.now.items c.if-target-len.actors.items =
    elim c.if-target-len.branch [
      | then-target-len+in_ok-arrive w ↦
          let step = w.in_ok-arrive.ensures in
          let here = get_here helds x.0 w.index_mut.result.now (search rules) (sym w.index_mut.ensures.value) in
          subst (λ (nows : List Held). Feeds c.args.feed (c.loop-place.place + 1) c.args.posts.now c.args.actors.now.items nows) (sym (ap (λ v. v.items) w.actors-is))
          (feeds_one c.args.feed c.loop-place.place c.args.posts.now x at c.args.actors.now.items helds before w.index_mut.result.now w.arrive.new.self here (steps_by _ _ _ _ _ step.setting step.step step.history step.outbox) c.requires.exists.0)
      | else-target-len w ↦
          subst (λ (nows : List Held). Feeds c.args.feed (c.loop-place.place + 1) c.args.posts.now c.args.actors.now.items nows) (sym (ap (λ v. v.items) w.actors-is))
          (feeds_skip c.args.feed c.loop-place.place c.args.posts.now x at c.args.actors.now.items helds before (omega (arith, w.if-target-len.false, c.len.ensures, c.loop-place.actors.ok.0)))
    ] in
    record { members = after.members; have = after.have; fed = after.fed; on = after.on; weight = after.weight }

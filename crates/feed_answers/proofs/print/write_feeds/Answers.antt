use Rattle.std.proofs.Common.{◌≡◌, ◌∙◌, ◌+◌, ◌++◌, map, ap}
use Rattle.feed_answers.specs.Queues.{answers_in, lines_by}
use Rattle.feed_answers.proofs.LineLemmas.{feeds_step}
use Rattle.feed_answers.proofs.print.write_feeds.Goals as goal

pub loop-place-preserved : goal.loop-place-preserved
loop-place-preserved c =
    let queues : c.as_mut_slice.result.now ≡ map (answers_in (c.loop-place.place + 1)) c.args.run.now.actors =
    c.as_mut_slice.ensures.value ∙ c.in_ok-queues.ensures.queues ∙ ap (map (answers_in (c.loop-place.place + 1))) c.as_slice-runs.ensures.same in
    let written : c.write_feed.new.text ≡ c.loop-place.text ++ lines_by (c.loop-place.place + 1) c.as_mut_slice.result.now 1 c.index-feeds-place.result =
    c.in_ok-write_feed.ensures ∙ ap (λ targets. c.loop-place.text ++ lines_by (c.loop-place.place + 1) c.as_mut_slice.result.now 1 targets) c.as_slice-in-loop-place.ensures.same in
    feeds_step c.args.run.now.actors c.args.feeds.now c.loop-place.place c.index-feeds-place.result c.as_mut_slice.result.now c.loop-place.text c.write_feed.new.text _ c.loop-place-test.true c.index-feeds-place.is queues written c.loop-place.invariant

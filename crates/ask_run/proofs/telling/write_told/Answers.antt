use Rattle.std.proofs.Common.{◌≡◌, ◌∙◌, ◌+◌, ◌++◌, map, refl, ap}
use Rattle.feed_answers.specs.Queues.{answers_in, lines_by}
use Rattle.feed_answers.proofs.LineLemmas.{feeds_step}
use Rattle.ask_run.proofs.ToldLemmas.{answers_right, same_on, still_known, still_knows, told_itself}
use Rattle.ask_run.proofs.telling.write_told.Goals as goal

pub loop-place-init : goal.loop-place-init
loop-place-init c = record { told = told_itself c.args.answerer.answers c.requires.of_board; written = refl }

pub put_told-requires : goal.put_told-requires
put_told-requires c =
    let before = c.loop-place.invariant.told in
    let queues : c.as_mut_slice-slots.result.now ≡ map (answers_in (c.loop-place.place + 1)) c.args.run.now.actors =
    c.as_mut_slice-slots.ensures.value ∙ c.in_ok-queues.ensures.queues ∙ ap (map (answers_in (c.loop-place.place + 1))) c.as_slice-runs.ensures.same in
    record {
      of_board = before.of_board;
      known = still_known c.args.answerer.answers c.loop-place.answerer.answers before c.requires.known;
      right = answers_right c.args.run.now (c.loop-place.place + 1) c.as_mut_slice-slots.result.now c.loop-place.answerer queues (still_knows c.args.run.now c.args.answerer c.loop-place.answerer before c.requires.answers);
    }

pub loop-place-preserved : goal.loop-place-preserved
loop-place-preserved c =
    let queues : c.put_told.new.queues ≡ map (answers_in (c.loop-place.place + 1)) c.args.run.now.actors =
    c.put_told.ensures.same ∙ c.as_mut_slice-slots.ensures.value ∙ c.in_ok-queues.ensures.queues ∙ ap (map (answers_in (c.loop-place.place + 1))) c.as_slice-runs.ensures.same in
    let written : c.write_feed.new.text ≡ c.loop-place.text ++ lines_by (c.loop-place.place + 1) c.put_told.new.queues 1 c.index-feeds-place.result =
    c.in_ok-write_feed.ensures ∙ ap (λ targets. c.loop-place.text ++ lines_by (c.loop-place.place + 1) c.put_told.new.queues 1 targets) c.as_slice-in-loop-place.ensures.same in
    record {
      told = same_on c.args.answerer.answers c.loop-place.answerer.answers c.put_told.new.answerer.answers c.loop-place.invariant.told c.put_told.ensures.told;
      written = feeds_step c.args.run.now.actors c.args.feeds.now c.loop-place.place c.index-feeds-place.result c.put_told.new.queues c.loop-place.text c.write_feed.new.text _ c.loop-place-test.true c.index-feeds-place.is queues written c.loop-place.invariant.written;
    }

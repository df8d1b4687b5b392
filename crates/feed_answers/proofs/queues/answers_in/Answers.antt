use Rattle.std.proofs.Common.{◌≡◌, ◌∙◌, ◌<◌, length, get_or, sym, ap}
use Rattle.feed_answers.specs.Queues.{seen}
use Rattle.feed_answers.proofs.QueueLemmas.{answer_more, answer_passed, as_many, seen_more}
use Rattle.feed_answers.proofs.queues.answers_in.Goals as goal
use Rattle.feed_answers.proofs.queues.answers_in.Goals.{then-is_from+in_ok-push, else-is_from}

pub loop-place-preserved : goal.loop-place-preserved
loop-place-preserved c =
    let l : c.loop-place.place < length c.args.own.now.entries = rw c.as_slice-entry-items.ensures.same at c.loop-place-test.true in
    let e : c.entry-item.result ≡ get_or c.args.own.now.entries c.loop-place.place c.entry-item.result = rw c.as_slice-entry-items.ensures.same at c.entry-item.is in
    elim c.if-is_from.branch [
      | then-is_from+in_ok-push w ↦
          answer_more c.args.own.now.entries c.args.feed c.loop-place.place c.entry-item.result (seen c.loop-place.answers.items) _ l e c.requires.numbered c.args.replies.now w.index-replies-place.result (seen c.if-is_from.answers.items) c.requires.replies (as_many c.args.own.now.entries c.args.replies.now c.loop-place.place c.requires.replies l) w.index-replies-place.is
          (sym c.is_from.ensures ∙ w.if-is_from.true)
          (ap (λ v. seen v.items) w.answers-is ∙ seen_more c.loop-place.answers.items w.push.new.self.items w.index-replies-place.result w.in_ok-push.ensures.items)
          c.loop-place.invariant
      | else-is_from w ↦
          answer_passed c.args.own.now.entries c.args.feed c.loop-place.place c.entry-item.result (seen c.loop-place.answers.items) _ l e (seen c.if-is_from.answers.items)
          (sym c.is_from.ensures ∙ w.if-is_from.false)
          (ap (λ v. seen v.items) w.answers-is)
          c.loop-place.invariant
    ]

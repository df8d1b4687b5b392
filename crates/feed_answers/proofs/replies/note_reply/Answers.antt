use Rattle.std.proofs.Common.{◌≡◌, ◌∙◌, ◌-◌, Some, None, sym, arith}
use Rattle.std.proofs.lemmas.List.{length-map, map-set}
use Rattle.std.specs.Option.{option_copied}
use Rattle.feed_answers.specs.Queues.{seen}
use Rattle.feed_answers.proofs.ReplyLemmas.{none_missing, past_end, missing_by, there_by, replied_now}
use Rattle.feed_answers.proofs.replies.note_reply.Goals as goal
use Rattle.feed_answers.proofs.replies.note_reply.Goals.{else-place-replies-via-then-place-replies+else-is_none, else-place-replies-via-else-place-replies}

pub returns-then-number-eq0 : goal.returns-then-number-eq0
returns-then-number-eq0 c = sym (none_missing c.args.number c.args.value.now (seen c.args.replies.now) (λ place e at. absurd (omega arith)))

pub returns-then-is_none : goal.returns-then-is_none
returns-then-is_none c =
    let missing = missing_by c.args.replies.now (c.args.number - 1) c.index-replies-place.result c.is_none.result c.if-place-replies.true c.index-replies-place.is c.is_none.ensures c.if-is_none.true in
    map-set option_copied c.args.replies.now (c.args.number - 1) (Some c.args.value)
    ∙ sym (replied_now c.args.number c.args.value.now 1 (c.args.number - 1) (seen c.args.replies.now) (omega arith) missing)

pub returns-else-place-replies : goal.returns-else-place-replies
returns-else-place-replies c =
    elim c.else-place-replies.branch [
      | else-place-replies-via-then-place-replies+else-is_none w ↦ sym (none_missing c.args.number c.args.value.now (seen c.args.replies.now) (λ place e at.
          let here : place ≡ c.args.number - 1 = omega arith in
          there_by c.args.replies.now (c.args.number - 1) w.index-replies-place.result w.is_none.result w.if-place-replies.true w.index-replies-place.is w.is_none.ensures w.if-is_none.false (rw here at at)))
      | else-place-replies-via-else-place-replies w ↦ sym (none_missing c.args.number c.args.value.now (seen c.args.replies.now) (λ place e at.
          past_end (seen c.args.replies.now) place None (simp length-map (omega arith)) at))
    ]

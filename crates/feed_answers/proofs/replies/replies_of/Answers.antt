use Rattle.std.proofs.Common.{◌≡◌, ◌∙◌, [], drop, length, replicate, None, refl, ap}
use Rattle.std.proofs.lemmas.List.{drop_all, with_items_is}
use Rattle.fair_semantics.specs.Linked.{firing_effects}
use Rattle.feed_answers.specs.Answers.{effects_in}
use Rattle.feed_answers.specs.Queues.{seen, with_effects}
use Rattle.feed_answers.proofs.ReplyLemmas.{all_replies, entry_step}
use Rattle.feed_answers.proofs.replies.replies_of.Goals as goal
use Rattle.feed_answers.proofs.replies.replies_of.Goals.{in-Some, in_default}

pub loop-entry-preserved : goal.loop-entry-preserved
loop-entry-preserved c =
    elim c.match-get.branch [
      | in-Some w ↦
          let effects : firing_effects c.entry-item.result.firing ≡ w.in-Some.firing.now.effects = ap firing_effects w.in-Some.ensures.same in
          let noted : seen w.note_effects.new.replies ≡ with_effects (seen c.loop-entry.replies.items) (firing_effects c.entry-item.result.firing) =
          w.note_effects.ensures ∙ rw (effects, w.as_mut_slice.ensures.value, w.as_slice.ensures.same) refl in
          let items : c.match-get.replies.items ≡ w.note_effects.new.replies = ap (λ v. v.items) w.replies-is ∙ with_items_is c.loop-entry.replies w.note_effects.new.replies (w.note_effects.auto.replies ∙ w.as_mut_slice.ensures.len) in
          entry_step c.args.entries.now c.loop-entry.entry-index c.entry-item.result (seen c.loop-entry.replies.items) (seen c.match-get.replies.items) _ c.loop-entry-test.true c.entry-item.is (ap seen items ∙ noted) c.loop-entry.invariant
      | in_default w ↦
          let items : seen c.match-get.replies.items ≡ seen c.loop-entry.replies.items = ap (λ v. seen v.items) w.replies-is in
          let none : firing_effects c.entry-item.result.firing ≡ [] = ap firing_effects w.in_default.ensures.same in
          entry_step c.args.entries.now c.loop-entry.entry-index c.entry-item.result (seen c.loop-entry.replies.items) (seen c.match-get.replies.items) _ c.loop-entry-test.true c.entry-item.is (items ∙ rw none refl) c.loop-entry.invariant
    ]

pub returns : goal.returns
returns c =
    let none : effects_in (drop c.loop-entry.entry-index c.args.entries.now) ≡ [] = ap effects_in (drop_all c.loop-entry.entry-index c.args.entries.now c.loop-entry-test.false) in
    let end : seen c.loop-entry.replies.items ≡ with_effects (replicate (length c.args.entries.now) None) (effects_in c.args.entries.now) = rw none at c.loop-entry.invariant in
    record { each = end ∙ all_replies c.args.entries.now }

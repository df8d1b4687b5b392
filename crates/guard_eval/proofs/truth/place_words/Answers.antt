use Rattle.std.proofs.Common.{◌≡◌, ◌∙◌, ◌≤◌, ap, sym, arith}
use Rattle.join_base.specs.Fields.{value_seen}
use Rattle.guard_eval.specs.Meaning.{words_of}
use Rattle.guard_eval.proofs.ReadyLemmas.{value_at_parts}
use Rattle.guard_eval.proofs.truth.place_words.Goals as goal

pub returns-in-Some-clause-value : goal.returns-in-Some-clause-value
returns-in-Some-clause-value c =
    let here = c.in-Some.ensures.place in
    let same : c.requires.number ≡ c.in-Some.number = cc in
    let above : 1 ≤ c.in-Some.number = omega (arith, same, c.requires.above_zero) in
    c.words_of.ensures.value
    ∙ ap words_of (sym (value_at_parts c.args.messages.now c.args.slots.now c.args.place c.in-Some.number c.recorded_message-message.result.now (value_seen c.at.result) here above c.recorded_message-message.ensures.item c.at.ensures.item))

use Rattle.std.proofs.Common.{◌≡◌, ◌∙◌, ◌≤◌, ap, sym, arith, rules}
use mir.Syntax.{w64}
use mir.Val.{to_z, of_z}
use Rattle.std.proofs.lemmas.Int.{to_z-of_z}
use Rattle.join_base.specs.Fields.{value_seen}
use Rattle.guard_eval.specs.Meaning.{int_of}
use Rattle.guard_eval.proofs.ReadyLemmas.{value_at_parts}
use Rattle.guard_eval.proofs.sums.integer.Goals as goal

pub returns-in-Some : goal.returns-in-Some
returns-in-Some c =
    let read : to_z w64 (of_z w64 c.int_value.result) ≡ c.int_value.result = search (rules, to_z-of_z) in
    let here = c.in-Some.ensures.place in
    let same : c.requires.number ≡ c.in-Some.number = cc in
    let above : 1 ≤ c.in-Some.number = omega (arith, same, c.requires.above_zero) in
    read ∙ c.int_value.ensures
    ∙ ap int_of (sym (value_at_parts c.args.messages.now c.args.slots.now c.args.place c.in-Some.number c.recorded_message-message.result.now (value_seen c.at.result) here above c.recorded_message-message.ensures.item c.at.ensures.item))

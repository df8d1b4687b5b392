use Rattle.std.proofs.Common.{◌∙◌, ap, sym, take}
use Rattle.pattern_core.proofs.SuitsLemmas.{length-SlotsSuit}
use Rattle.std.proofs.lemmas.Result.{on_ok_weaker}
use Rattle.pattern_core.specs.Matches.{usable}
use Rattle.waiting_reasons.proofs.SuitLemmas.{first_suit}
use Rattle.waiting_reasons.proofs.TextLemmas.{missing_written}
use Rattle.waiting_reasons.proofs.patterns.write_missing.Goals as goal

pub usable-requires : goal.usable-requires
usable-requires c = length-SlotsSuit c.args.messages.now c.args.rule.now.definition.patterns c.args.slots.now c.requires.suits ∙ sym c.len-patterns.ensures.count

pub write_candidates-requires-clause-all : goal.write_candidates-requires-clause-all
write_candidates-requires-clause-all c =
    let a = c.args in
    first_suit a.messages.now a.rule.now.definition.patterns a.slots.now a.place a.kind c.requires.kind c.requires.empty c.requires.suits a.left.now c.in_ok-waiting.waiting c.first_five-first.result.now
    c.in_ok-waiting.ensures.usable (c.first_five-first.ensures ∙ ap (take 5) c.as_slice.ensures.same)

pub returns : goal.returns
returns c =
    let a = c.args in
    let first = c.first_five-first.ensures ∙ ap (take 5) (c.as_slice.ensures.same ∙ c.in_ok-waiting.ensures.usable) in
    on_ok_weaker c.write_candidates.result
    (missing_written a.plan.now a.rule.now a.messages.now a.slots.now a.place a.kind c.len.result c.in_ok-waiting.waiting c.first_five-first.result.now (usable a.messages.now a.left.now a.kind a.slots.now) a.text.now
    c.write_front.new.text c.push_all.new.self c.write_waits.new.text c.push_all-2.new.self c.write_candidates.new.text
    c.in_ok-waiting.ensures.usable first c.len.ensures.count c.in_ok-write_front.ensures c.in_ok-push_all.ensures.ok c.in_ok-write_waits.ensures c.in_ok-push_all-2.ensures.ok)
    c.write_candidates.ensures

use Rattle.std.proofs.Common.{◌∙◌, ◌+◌, ◌<◌, Bool, arith, ap, drop, length, sym}
use Rattle.std.specs.Prelude.{◌&&◌}
use Rattle.join_base.specs.declared.message.Sort.TheVariants.{Int}
use Rattle.join_base.specs.Fields.{value_seen}
use Rattle.fair_semantics.specs.Step.{are_of_sorts}
use Rattle.actor_turn.proofs.FitLemmas.{sorts_at, unlike_count}
use Rattle.actor_turn.proofs.fit.are_of_sorts.Goals as goal

pub returns-then-sorts-len : goal.returns-then-sorts-len
returns-then-sorts-len c = unlike_count c.args.sorts.now c.args.values.now (λ e. c.if-sorts-len.true (e ∙ sym c.len.ensures.count))

pub returns-then-not-is_of_sort : goal.returns-then-not-is_of_sort
returns-then-not-is_of_sort c =
    let sorts = c.args.sorts.now in
    let values = c.args.values.now in
    let place = c.loop-place.place in
    let rest = are_of_sorts (drop (place + 1) sorts) (drop (place + 1) values) in
    let many : place < length values = omega (arith, c.loop-place-test.true, c.loop-place.invariant.count) in
    let at = sorts_at sorts values place Int (value_seen c.at.result) c.loop-place-test.true many c.at.ensures.item in
    let no = sym c.is_of_sort.ensures ∙ c.if-not-is_of_sort.true in
    sym (at ∙ ap (λ (is : Bool). is && rest) no) ∙ c.loop-place.invariant.left

pub loop-place-preserved : goal.loop-place-preserved
loop-place-preserved c =
    let sorts = c.args.sorts.now in
    let values = c.args.values.now in
    let place = c.loop-place.place in
    let rest = are_of_sorts (drop (place + 1) sorts) (drop (place + 1) values) in
    let many : place < length values = omega (arith, c.loop-place-test.true, c.loop-place.invariant.count) in
    let at = sorts_at sorts values place Int (value_seen c.at.result) c.loop-place-test.true many c.at.ensures.item in
    let yes = sym c.is_of_sort.ensures ∙ c.if-not-is_of_sort.false in
    record {
      count = c.loop-place.invariant.count;
      left = sym (at ∙ ap (λ (is : Bool). is && rest) yes) ∙ c.loop-place.invariant.left;
    }

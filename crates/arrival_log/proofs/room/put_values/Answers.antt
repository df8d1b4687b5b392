use Rattle.std.proofs.Common.{◌≡◌, ◌+◌, ◌-◌, arith, drop, length, sym}
use Rattle.std.proofs.lemmas.Option.{get_or_from_slice_get}
use Rattle.join_base.specs.Fields.{value_seen}
use Rattle.arrival_log.specs.LogText.{value_text}
use Rattle.arrival_log.proofs.PutLemmas.{last_put, value_put}
use Rattle.arrival_log.proofs.room.put_values.Goals as goal

pub values-init : goal.values-init
values-init c =
    let value = value_seen c.at.result in
    let values = c.args.values.now in
    let last : c.len-place.result - 1 + 1 ≡ length values = omega (arith, c.len.ensures.count, c.len-place.ensures.count, c.if-len-eq0.false) in
    let found = sym (get_or_from_slice_get values (c.len-place.result - 1) value value c.at.ensures.item) in
    record {
      within = c.in_ok-start.ensures.start;
      place = omega (arith, last);
      written = last_put value_text values (c.len-place.result - 1) value value (drop c.in_ok-start.start c.put_value.new.room) (drop c.args.end c.args.room.now) last found c.in_ok-start.ensures.written;
    }

pub values-preserved : goal.values-preserved
values-preserved c =
    let value = value_seen c.at-in-values.result in
    record {
      within = c.in_ok-start-2.ensures.start;
      place = omega (arith, c.values.invariant.place);
      written = value_put value_text c.args.values.now c.values.place value (drop c.values.start c.values.room) (drop c.put_words-behind.result c.put_words-behind.new.room) (drop c.in_ok-start-2.start c.put_value-in-values.new.room) (drop c.args.end c.args.room.now)
          c.values-test.true c.values.invariant.place c.at-in-values.ensures.item c.values.invariant.written c.put_words-behind.ensures.written c.in_ok-start-2.ensures.written;
    }

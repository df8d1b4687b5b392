use Rattle.std.proofs.Common.{◌≡◌, ◌∙◌, ◌+◌, ◌-◌, ℕ, false, drop, take, refl, sym, ap, arith}
use Rattle.std.specs.Prelude.{◌==◌}
use Rattle.std.proofs.lemmas.Bool.Decides.{nat_tests}
use Rattle.csv.specs.Machine.{next_record}
use Rattle.csv.specs.Reading.{default_config}
use Rattle.csv.specs.declared.parser.State.TheVariants as st
use Rattle.sensor_feed.specs.Feed.{Record}
use Rattle.sensor_feed.proofs.LineLemmas.{ends_at_last, ends_here, goes_on, next_field, nows, nows_more}
use Rattle.sensor_feed.proofs.line.cut_line.Goals as goal
use Rattle.sensor_feed.proofs.line.cut_line.Goals.{then-byte-eq44+in_ok-push, else-byte-eq44+else-ends_row}

not_equal : (a b : ℕ) → (a ≡ b → ⊥) → (a == b) ≡ false
not_equal a b other = grind (arith, nat_tests)

pub loop-place-preserved : goal.loop-place-preserved
loop-place-preserved c =
    let text = c.args.text.now in
    let place = c.loop-place.place in
    let old = c.loop-place.fields.items in
    let before = c.loop-place.invariant.start in
    let told = c.loop-place.invariant.told in
    let within = c.loop-place-test.true in
    elim c.if-byte-eq44.branch [
      | then-byte-eq44+in_ok-push w ↦
          rw (w.fields-is, w.start-is) (record {
            start = omega arith;
            told = ap (λ (fields : Record). next_record default_config st.InField fields (take (place + 1 - (place + 1)) (drop (place + 1) text)) (drop (place + 1) text))
                (nows_more w.push.new.self.items old _ (take (place - c.loop-place.start) (drop c.loop-place.start text)) w.in_ok-push.ensures.items refl)
                ∙ next_field text (nows old) c.loop-place.start place before within told w.if-byte-eq44.true c.requires.plain;
          })
      | else-byte-eq44+else-ends_row w ↦
          rw (w.fields-is, w.start-is) (record {
            start = omega (arith, before);
            told = goes_on text (nows old) c.loop-place.start place before within told (not_equal _ 44 w.if-byte-eq44.false) (sym w.if-ends_row.ensures);
          })
    ]

pub returns-then-ends_row : goal.returns-then-ends_row
returns-then-ends_row c =
    let text = c.args.text.now in
    let start = c.loop-place.start in
    let place = c.loop-place.place in
    let old = c.loop-place.fields.items in
    let fields = nows_more c.push-then-ends_row.new.self.items old _ (take (place - start) (drop start text)) c.in_ok-push-2.ensures.items refl in
    rw (fields, c.split_at.ensures.back) (
    ends_here text (nows old) start place c.loop-place.invariant.start c.loop-place-test.true c.loop-place.invariant.told (not_equal _ 44 c.if-byte-eq44.false) (sym c.if-ends_row.ensures) c.requires.plain)

pub returns : goal.returns
returns c =
    let text = c.args.text.now in
    let start = c.loop-place.start in
    let old = c.loop-place.fields.items in
    let fields = nows_more c.push-2.new.self.items old c.split_at-2.result.1 (drop start text) c.in_ok-push-3.ensures.items c.split_at-2.ensures.back in
    rw (fields, c.split_at-3.ensures.back) (ends_at_last text (nows old) start c.loop-place.place _ c.loop-place.invariant.start c.loop-place-test.false refl c.loop-place.invariant.told)

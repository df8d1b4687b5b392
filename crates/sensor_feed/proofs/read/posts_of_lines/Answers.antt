use Rattle.std.proofs.Common.{◌≡◌, ◌∙◌, ◌∷◌, List, ℕ, Bor, Option, sym, ap, subst}
use Rattle.csv.specs.Reading.{default_config, records}
use Rattle.sensor_feed.specs.Feed.{feed_of}
use Rattle.sensor_feed.specs.Line.{TakesLine}
use Rattle.sensor_feed.proofs.LineLemmas.{nows}
use Rattle.sensor_feed.proofs.ReadsLemmas.{feed_goes_on, feed_stops}
use Rattle.sensor_feed.proofs.read.posts_of_lines.Goals as goal

pub take_line-requires : goal.take_line-requires
take_line-requires c = record { plain = c.loop-row.invariant.plain }

pub returns-in-Err : goal.returns-in-Err
returns-in-Err c =
    let plan = c.args.names.now.plan.now in
    let rest = c.loop-row.rest.now in
    let others = c.in-Some.others.now in
    let taken = subst (λ (o : Option (Bor (List ℕ))). TakesLine rest (nows c.take_line.new.fields.items) o) c.in-Some.is c.in_ok-others.ensures in
    let is : records default_config rest ≡ nows c.as_slice.result.now ∷ records default_config others =
    taken.0 ∙ ap (λ (fields : List (Bor (List ℕ))). nows fields ∷ records default_config others) (sym c.as_slice.ensures.value) in
    rw c.fault_at.ensures (
    feed_stops plan c.loop-row.posts c.loop-row.row (records default_config rest) (nows c.as_slice.result.now) (records default_config others) c.in-Err.refusal
    (feed_of plan c.args.bytes.now) is c.in-Err.ensures c.loop-row.invariant.told)

pub loop-row-preserved : goal.loop-row-preserved
loop-row-preserved c =
    let plan = c.args.names.now.plan.now in
    let rest = c.loop-row.rest.now in
    let others = c.in-Some.others.now in
    let taken = subst (λ (o : Option (Bor (List ℕ))). TakesLine rest (nows c.take_line.new.fields.items) o) c.in-Some.is c.in_ok-others.ensures in
    let is : records default_config rest ≡ nows c.as_slice.result.now ∷ records default_config others =
    taken.0 ∙ ap (λ (fields : List (Bor (List ℕ))). nows fields ∷ records default_config others) (sym c.as_slice.ensures.value) in
    record {
      plain = taken.1;
      told = rw c.in_ok-push_post-in-Ok.ensures (
          feed_goes_on plan c.loop-row.posts c.loop-row.row (records default_config rest) (nows c.as_slice.result.now) (records default_config others) c.in-Ok.post
          (feed_of plan c.args.bytes.now) is c.in-Ok.ensures c.loop-row.invariant.told);
    }

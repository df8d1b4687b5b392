use Rattle.std.proofs.Common.{◌≡◌, [], List, ℕ, drop, map, take, ◌-◌, ◌≤◌, Bor}
use Rattle.csv.specs.Machine.{next_record}
use Rattle.csv.specs.Reading.{default_config}
use Rattle.csv.specs.declared.parser.State.TheVariants as st
use Rattle.sensor_feed.proofs.line.cut_line.Given as goal

abbrev pub invariant-loop-place : goal.invariant-loop-place
invariant-loop-place l = record {
  start : l.start ≤ l.place;
  told : next_record default_config st.InField (map (λ (field : Bor (List ℕ)). field.now) l.fields.items) (take (l.place - l.start) (drop l.start l.text)) (drop l.place l.text)
      ≡ next_record default_config st.InField [] [] l.text;
}

use Rattle.std.proofs.Common.{◌≡◌, drop, length, map, List, ℕ}
use Rattle.join_base.specs.declared.message.Sort.{Sort}
use Rattle.log_lines.specs.Messages.{values_at}
use Rattle.log_lines.proofs.ValueLemmas.{with_front}
use Rattle.log_lines.proofs.value.values_at.Given as goal

abbrev pub invariant-loop-place : goal.invariant-loop-place
invariant-loop-place l = record {
  count : length l.values ≡ l.place;
  told : with_front l.values (values_at (map (λ (field : List ℕ × Sort). field.1) (drop l.place l.fields)) l.rest)
      ≡ values_at (map (λ (field : List ℕ × Sort). field.1) l.fields) l.text;
}

use Rattle.std.proofs.Common.{◌≡◌, ◌+◌, ◌≤◌, ◌++◌, drop, vec_len, vec_capacity}
use Rattle.join_base.specs.declared.message.Source.TheVariants.{Actor}
use Rattle.join_base.specs.Late.{late_list}
use Rattle.mailbox_core.proofs.late.list_actors.Given as goal

abbrev pub invariant-loop-place : goal.invariant-loop-place
invariant-loop-place l = record {
  listed : l.listed.items ++ late_list (λ k. Actor k) (l.place + 0) (drop l.place l.counts) ≡ l.initial.listed.items ++ late_list (λ k. Actor k) 0 l.counts;
  room : vec_len l.listed ≤ vec_len l.initial.listed + l.place;
  capacity : vec_capacity l.initial.listed ≤ vec_capacity l.listed;
}

use Rattle.std.proofs.Common.{◌≡◌}
use Rattle.turn_lock.specs.declared.view.Turn.TheVariants.{Free}
use Rattle.thread_tests.proofs.turns.append_often.Given as goal

abbrev pub invariant-loop : goal.invariant-loop
invariant-loop l = record {
  own : l.seat.seat.table_id ≡ l.initial.seat.seat.table_id;
  free : l.seat.seat.me.0.turn ≡ Free;
  role : l.seat.seat.me.0.role ≡ l.initial.seat.seat.me.0.role;
}

use Rattle.std.proofs.Common.{◌≡◌}
use Rattle.steal_pool.specs.Passes.{thief_deque, thief_number, thief_view}
use Rattle.steal_pool.proofs.thief.Thief.steal.Given as goal

abbrev pub invariant-loop : goal.invariant-loop
invariant-loop g l = record {
  deque : thief_deque l.self ≡ thief_deque l.initial.self;
  number : thief_number l.self ≡ thief_number l.initial.self;
  view : thief_view l.self ≡ thief_view l.initial.self;
}

use Rattle.std.proofs.Common.{◌≡◌, ◌+◌, ◌≤◌}
use Rattle.actor_system.specs.Serving.{Served, in_steps, links_of}
use Rattle.actor_system.proofs.EndLemmas.{work_of}
use Rattle.actor_system.proofs.system.System.run_to_end.Given as goal

-- each turn is a step, which leaves less work
abbrev pub invariant-loop-turn : goal.invariant-loop-turn
invariant-loop-turn g l = record {
  plan : l.self.plan ≡ l.fn.self.plan;
  limits : l.self.limits ≡ l.fn.self.limits;
  feeds : l.self.feeds ≡ l.fn.self.feeds;
  served : Served l.fn.self (in_steps l.turn (links_of l.fn.self)) l.self;
  less : l.turn + work_of l.self ≤ work_of l.fn.self;
}

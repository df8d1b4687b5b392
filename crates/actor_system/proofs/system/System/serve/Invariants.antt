use Rattle.std.proofs.Common.{◌≡◌, ◌+◌, length, take}
use Rattle.actor_system.specs.Serving.{Served, links_to, some_taken, system_in}
use Rattle.actor_system.proofs.system.System.serve.Given as goal

-- the first links are served
abbrev pub invariant-loop-place : goal.invariant-loop-place
invariant-loop-place g l = record {
  feeds : l.feeds ≡ length l.fn.self.feeds;
  sources : l.sources ≡ length l.fn.self.feeds + length l.fn.self.plan.actors;
  served : Served l.fn.self (take l.place (links_to l.fn.self l.fn.target)) l.self;
  taken : l.taken ≡ some_taken l.fn.self.plan l.fn.self.limits (system_in l.fn.self) (take l.place (links_to l.fn.self l.fn.target));
}

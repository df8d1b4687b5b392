use Rattle.std.proofs.Common.{◌≡◌, length}
use Rattle.actor_system.specs.Serving.{Served, some_taken, system_in}
use Rattle.actor_system.proofs.LinkLemmas.{links_before}
use Rattle.actor_system.proofs.system.System.step.Given as goal

-- the links to the first actors are served
abbrev pub invariant-loop-target : goal.invariant-loop-target
invariant-loop-target g l = record {
  targets : l.targets ≡ length l.fn.self.plan.actors;
  served : Served l.fn.self (links_before l.fn.self l.target) l.self;
  taken : l.taken ≡ some_taken l.fn.self.plan l.fn.self.limits (system_in l.fn.self) (links_before l.fn.self l.target);
}

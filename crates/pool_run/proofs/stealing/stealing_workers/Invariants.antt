use Rattle.std.proofs.Common.{◌≡◌, ◌+◌, ◌≤◌, All, length}
use Rattle.steal_pool.specs.Passes.{made_for}
use Rattle.pool_run.specs.Stealing.{OwnsDeque}
use Rattle.pool_run.proofs.stealing.stealing_workers.Given as goal

abbrev pub invariant-loop-pass : goal.invariant-loop-pass
invariant-loop-pass l = record {
  few : length l.passes + length l.workers.items ≤ 64;
  made : All (λ pass. made_for pass ≡ l.fn.actors) l.passes;
  own : All (OwnsDeque l.fn.actors) l.workers.items;
}

abbrev pub decreases-loop-pass : goal.decreases-loop-pass
decreases-loop-pass l = length l.passes

use Rattle.std.proofs.Common.{◌≡◌}
use Rattle.actor_system.specs.Feeding.{fed_from}
use Rattle.actor_system.proofs.feed.next_for.Given as goal

-- those that were passed over are for others
abbrev pub invariant-loop-place : goal.invariant-loop-place
invariant-loop-place l = fed_from l.fn.posts l.fn.from l.fn.actor ≡ fed_from l.fn.posts l.place l.fn.actor

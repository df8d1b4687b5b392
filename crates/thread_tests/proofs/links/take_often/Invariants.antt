use Rattle.std.proofs.Common.{◌≡◌}
use Rattle.post_ring.specs.Links.{identity_out}
use Rattle.thread_tests.proofs.links.take_often.Given as goal

abbrev pub invariant-loop : goal.invariant-loop
invariant-loop l = identity_out l.second ≡ identity_out l.initial.second

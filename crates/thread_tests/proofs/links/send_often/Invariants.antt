use Rattle.std.proofs.Common.{◌≡◌}
use Rattle.post_ring.specs.Links.{identity_in}
use Rattle.thread_tests.proofs.links.send_often.Given as goal

abbrev pub invariant-loop-stamp : goal.invariant-loop-stamp
invariant-loop-stamp l = identity_in l.first ≡ identity_in l.initial.first

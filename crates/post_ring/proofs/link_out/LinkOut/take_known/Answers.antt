use Rattle.std.proofs.Common.{arith, refl}
use Rattle.post_ring.specs.Links.{has_place}
use Rattle.post_ring.proofs.LinkLemmas.{count-plain, free, last-plain, takes-known}
use Rattle.post_ring.proofs.link_out.LinkOut.take_known.Goals as goal

pub pop_known-stamped-requires : goal.pop_known-stamped-requires
unfolding has_place
pop_known-stamped-requires c = let known = c.requires.known in omega (arith, count-plain c.args.self.now (free _ c.requires.place))

pub returns-clause-taken : goal.returns-clause-taken
unfolding has_place
returns-clause-taken c =
    let popped = c.pop_known-stamped.ensures in
    takes-known _ _ _ popped.ring popped.received.0 popped.received.1 (free _ c.requires.place) refl refl refl

pub returns-clause-place : goal.returns-clause-place
unfolding has_place
returns-clause-place c = c.requires.place

pub invariant_of-self : goal.invariant_of-self
unfolding has_place
invariant_of-self c = record { last = last-plain _ _ (free _ c.requires.place) }

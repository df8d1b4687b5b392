use Rattle.std.proofs.Common.{refl}
use Rattle.post_ring.proofs.LinkLemmas.{last-given, returns-front}
use Rattle.post_ring.proofs.link_out.LinkOut.give_back.Goals as goal

pub invariant_of-self : goal.invariant_of-self
invariant_of-self c = record { last = last-given _ _ c.requires.place c.requires.last }

pub returns : goal.returns
returns c = record { returned = returns-front _ _ _ c.requires.place c.requires.last refl refl refl refl }

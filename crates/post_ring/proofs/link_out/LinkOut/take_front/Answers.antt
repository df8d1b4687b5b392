use Rattle.std.proofs.Common.{true≢false, ap, refl, sym, ◌∙◌}
use Rattle.std.specs.Prelude.{is_none}
use Rattle.post_ring.specs.Links.{has_place}
use Rattle.post_ring.proofs.LinkLemmas.{takes-front}
use Rattle.post_ring.proofs.link_out.LinkOut.take_front.Goals as goal

pub unreachable-requires : goal.unreachable-requires
unfolding has_place
unreachable-requires c = true≢false (sym (ap is_none (sym c.take.ensures.value ∙ c.in_default.is)) ∙ c.requires.returned)

pub returns-clause-taken : goal.returns-clause-taken
returns-clause-taken c = takes-front c.args.self.now _ c.in-Some.sealed (sym c.take.ensures.value ∙ c.in-Some.is) c.take.ensures.after refl refl refl

pub returns-clause-place : goal.returns-clause-place
unfolding has_place
returns-clause-place c = ap is_none c.take.ensures.after

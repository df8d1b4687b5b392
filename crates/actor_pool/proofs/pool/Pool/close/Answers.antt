use Rattle.std.proofs.Common.{ap, sym, subst, map, ◌∙◌}
use Rattle.turn_lock.specs.Seats.{view_of}
use Rattle.actor_cells.specs.Lawful.{cell_tag}
use Rattle.actor_cells.specs.AllLawful.{AreLawful}
use Rattle.actor_pool.specs.Helpers.{seat_of}
use Rattle.actor_pool.specs.Whole.{HoldSeen}
use Rattle.actor_pool.proofs.EndLemmas.{tags-back, lawful-back, seen-back, posters-out, all-seated}
use Rattle.actor_pool.proofs.pool.Pool.close.Goals as goal

pub join_all-requires-clause-first : goal.join_all-requires-clause-first
join_all-requires-clause-first c = posters-out (seat_of c.args.helper) _ _ c.requires.count c.requires.first

pub join_all-requires-clause-seated : goal.join_all-requires-clause-seated
join_all-requires-clause-seated c = all-seated c.args.self c.args.posters.items c.requires.posters

pub returns-clause-lawful : goal.returns-clause-lawful
returns-clause-lawful c = subst AreLawful (sym c.into_vec.ensures.same) (lawful-back (view_of c.join_all.new.seat) _ c.close-cells.ensures.back)

pub returns-clause-tags : goal.returns-clause-tags
returns-clause-tags c = ap (map cell_tag) c.into_vec.ensures.same ∙ tags-back (view_of c.join_all.new.seat) _ c.close-cells.ensures.back ∙ c.in_ok-ends.ensures.tags

pub returns-clause-seen : goal.returns-clause-seen
returns-clause-seen c = subst (HoldSeen (seat_of c.args.helper)) (sym c.into_vec.ensures.same) (seen-back (seat_of c.args.helper) (view_of c.join_all.new.seat) _ c.in_ok-ends.ensures.seen c.close-cells.ensures.back)

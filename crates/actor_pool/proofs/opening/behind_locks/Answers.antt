use Rattle.std.proofs.Common.{rules}
use Rattle.actor_pool.proofs.PosterLemmas.{posters-own}
use Rattle.actor_pool.proofs.opening.behind_locks.Goals as goal

pub returns-clause-posters : goal.returns-clause-posters
returns-clause-posters c = posters-own _ _ _ _ c.in_ok-posters.ensures.seated c.in_ok-posters.ensures.posters c.requires.links (search rules)

use Rattle.pool_settling.specs.Rounds.{BringsPosts}
use Rattle.pool_settling.specs.Work.{all_work}
use Rattle.pool_settling.proofs.rounds.bring_posts.Given as goal

abbrev pub invariant-loop : goal.invariant-loop
invariant-loop g l = BringsPosts l.initial.actors.items l.actors.items

-- each round that finds a post leaves less work
abbrev pub decreases-loop : goal.decreases-loop
decreases-loop g l = all_work l.actors.items

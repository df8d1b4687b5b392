use Rattle.std.proofs.Common.{◌≡◌, ◌++◌, true, drop}
use Rattle.join_base.specs.Late.{late_list}
use Rattle.join_base.specs.declared.message.Source.TheVariants.{Actor}
use Rattle.log_posts.specs.Lates.{actor_counts}
use Rattle.log_posts.proofs.lates.push_actors.Given as goal

abbrev pub invariant-loop-from : goal.invariant-loop-from
invariant-loop-from l = l.late ++ late_list (λ a. Actor a) l.from (actor_counts true l.entries l.from (drop l.from l.links)) ≡ l.initial.late ++ late_list (λ a. Actor a) 0 (actor_counts true l.entries 0 l.links)

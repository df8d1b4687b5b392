-- Schedules: a run as a list of single steps, each of one actor with the post that waits first on one of its links.
use Rattle.std.specs.Prelude.{ℕ, zero, suc, List, [], ◌∷◌, ◌++◌, ◌&&◌, ◌==◌, Option, None, Some, drop, length, slice_get, if◌then◌else◌}
use Rattle.std.specs.List.{flat_map}
use Rattle.std.specs.Option.{option_and_then}
use Rattle.join_base.specs.declared.message.Message.{Message}
use Rattle.join_base.specs.declared.message.Stamped.{Stamped}
use Rattle.join_base.specs.declared.message.Source.{Source}
use Rattle.join_base.specs.declared.message.Source.TheVariants.{Feed, Actor}
use Rattle.script_types.specs.declared.plan.Plan.{Plan}
use Rattle.fair_semantics.specs.declared.run.Limits.{Limits}
use Rattle.fair_semantics.specs.Step.{State, opening, fair_step}
use Rattle.fair_semantics.specs.Fair.{setting_of}
use Rattle.fair_semantics.specs.Linked.{entry_posts, feed_posts, same_source}

-- the system between two steps: the state of each actor, and what waits on the link from a source to an actor
pub record System : Type 0 where
  pub state : ℕ → State
  pub waiting : Source → ℕ → List Stamped

abbrev pub waiting_at_first : List (List (ℕ × Message)) → Source → ℕ → List Stamped
waiting_at_first feeds (Feed zero) actor = []
waiting_at_first feeds (Feed (suc k)) actor = feed_posts actor (slice_get feeds k)
waiting_at_first feeds (Actor a) actor = []

-- each actor in its opening state, and the feeds' posts waiting
abbrev pub system_at_first : Plan → List (List (ℕ × Message)) → System
system_at_first plan feeds = record { state = λ actor. opening (length feeds) (length plan.actors); waiting = waiting_at_first feeds }

-- the posts to a target among the effects of the entries that a step added
abbrev pub posts_made : State → State → ℕ → List Stamped
posts_made before after target = flat_map (entry_posts target) (drop (length before.entries) after.entries)

abbrev pub state_after : Plan → Limits → System → ℕ → Source → Stamped → State
state_after plan limits system actor source post = (fair_step (setting_of plan actor limits) (system.state actor) source post.message post.stamp).0

-- without its first post, where it is the link of this step
abbrev pub left_waiting : System → ℕ → Source → List Stamped → Source → ℕ → List Stamped
left_waiting system actor source rest from target = if same_source from source && (target == actor) then rest else system.waiting from target

-- what the body posted, where the link is one of the actor's own
abbrev pub newly_waiting : System → ℕ → State → Source → ℕ → List Stamped
newly_waiting system actor after (Feed k) target = []
newly_waiting system actor after (Actor a) target = if a == actor then posts_made (system.state actor) after target else []

-- the actor's fair step with the first of the posts that wait, where there is one
abbrev pub taking : Plan → Limits → System → ℕ → Source → List Stamped → Option System
taking plan limits system actor source [] = None
taking plan limits system actor source (post ∷ rest) = Some record {
  state = λ other. if other == actor then state_after plan limits system actor source post else system.state other;
  waiting = λ from target. left_waiting system actor source rest from target ++ newly_waiting system actor (state_after plan limits system actor source post) from target;
}

abbrev pub scheduled_step : Plan → Limits → System → (ℕ × Source) → Option System
scheduled_step plan limits system pair = taking plan limits system pair.0 pair.1 (system.waiting pair.1 pair.0)

-- the system after the pairs of a schedule, of which each finds a post on its link
abbrev pub after_schedule : Plan → Limits → System → List (ℕ × Source) → Option System
after_schedule plan limits system [] = Some system
after_schedule plan limits system (pair ∷ more) = option_and_then (λ next. after_schedule plan limits next more) (scheduled_step plan limits system pair)

-- A system that serves its actors: what it was made of, and where it stands.
use Rattle.std.specs.Prelude.{◌≡◌, ℕ, zero, suc, ◌+◌, ◌-◌, List, [], ◌∷◌, ◌++◌, Bool, true, false, ◌||◌, nat_lt, Option, None, Some, length, map, slice_get, slice_index_or, if◌then◌else◌}
use Rattle.std.specs.List.{flat_map, list_any}
use Rattle.join_base.specs.declared.message.Message.{Message}
use Rattle.join_base.specs.declared.message.Stamped.{Stamped}
use Rattle.join_base.specs.declared.message.Source.{Source}
use Rattle.join_base.specs.declared.message.Source.TheVariants.{Feed, Actor}
use Rattle.script_types.specs.declared.plan.Plan.{Plan}
use Rattle.fair_semantics.specs.declared.run.Limits.{Limits}
use Rattle.fair_semantics.specs.declared.run.ActorRun.{ActorRun}
use Rattle.fair_semantics.specs.Fair.{run_of}
use Rattle.fair_semantics.specs.Step.{State, opening}
use Rattle.fair_semantics.specs.Linked.{numbers_from, sources}
use Rattle.fair_semantics.specs.Schedule.{System, scheduled_step}
use Rattle.actor_turn.specs.Held.{Held, posts_for}
use Rattle.actor_system.specs.Feeding.{fed_from}

-- the plan, the limits, all posts of the feeds, for each feed the place that each actor has come to, and the actors
pub record Serving : Type 0 where
  pub plan : Plan
  pub limits : Limits
  pub feeds : List (List (ℕ × Message))
  pub places : List (List ℕ)
  pub actors : List Held

-- the state of an actor, or the opening state where there is none
abbrev pub state_in : State → Option Held → State
state_in start None = start
state_in start (Some held) = held.state

-- the posts of a feed to an actor, if there is such a feed
abbrev pub fed_by : Option (List (ℕ × Message)) → ℕ → ℕ → List Stamped
fed_by None place actor = []
fed_by (Some posts) place actor = fed_from posts place actor

-- the posts of an actor to another, if there is one
abbrev pub posted_by : Option Held → ℕ → List Stamped
posted_by None actor = []
posted_by (Some held) actor = posts_for held.outbox actor

-- the place that an actor has come to in a feed, counted from 0
abbrev pub place_in : List (List ℕ) → ℕ → ℕ → ℕ
place_in places feed actor = slice_index_or (slice_index_or places feed []) actor 0

-- what waits: of a feed its posts from the place on, of an actor those in its outbox
abbrev pub waiting_in : Serving → Source → ℕ → List Stamped
waiting_in serving (Feed zero) actor = []
waiting_in serving (Feed (suc k)) actor = fed_by (slice_get serving.feeds k) (place_in serving.places k actor) actor
waiting_in serving (Actor a) actor = posted_by (slice_get serving.actors a) actor

-- the system of its actors and of what waits for them
abbrev pub system_in : Serving → System
system_in serving = record { state = λ actor. state_in (opening (length serving.feeds) (length serving.plan.actors)) (slice_get serving.actors actor); waiting = waiting_in serving }

-- it is made of the same plan, limits and feeds, and stands at this system
pub record StandsAt (plan : Plan) (limits : Limits) (feeds : List (List (ℕ × Message))) (system : System) (serving : Serving) : Type 0 where
  pub same_plan : serving.plan ≡ plan
  pub same_limits : serving.limits ≡ limits
  pub same_feeds : serving.feeds ≡ feeds
  pub system_is : system_in serving ≡ system

-- the same serving, moved on to this system
abbrev pub MovedTo : Serving → System → Serving → Type 0
MovedTo before system after = StandsAt before.plan before.limits before.feeds system after

-- ---- links

-- an actor, and a source that sends to it
abbrev pub Link : Type 0
Link = ℕ × Source

-- the source at a place among all: the feeds from 1, and then the actors from 0
abbrev pub source_at : ℕ → ℕ → Source
source_at feeds place = if nat_lt place feeds then Feed (place + 1) else Actor (place - feeds)

-- the links to an actor: the feeds before the actors
abbrev pub links_to : Serving → ℕ → List Link
links_to serving target = map (λ source. (target, source)) (sources (length serving.feeds) (length serving.plan.actors))

-- all links in the order of a step: target by target
abbrev pub links_of : Serving → List Link
links_of serving = flat_map (links_to serving) (numbers_from 0 (length serving.plan.actors))

abbrev pub is_some_post : List Stamped → Bool
is_some_post [] = false
is_some_post (post ∷ posts) = true

-- whether a post waits on the link
abbrev pub waits_on : System → Link → Bool
waits_on system link = is_some_post (system.waiting link.1 link.0)

-- whether a post waits on some link
abbrev pub some_waits : Serving → Bool
some_waits serving = list_any (waits_on (system_in serving)) (links_of serving)

-- ---- steps

abbrev pub or_same : System → Option System → System
or_same system None = system
or_same system (Some next) = next

-- after the fair step with the first post of a link; the same where none waits
abbrev pub after_link : Plan → Limits → System → Link → System
after_link plan limits system link = or_same system (scheduled_step plan limits system link)

-- after the first posts of some links, one after the other
abbrev pub after_links : Plan → Limits → System → List Link → System
after_links plan limits system [] = system
after_links plan limits system (link ∷ links) = after_links plan limits (after_link plan limits system link) links

-- whether the first post of one of the links is taken, one after the other
abbrev pub some_taken : Plan → Limits → System → List Link → Bool
some_taken plan limits system [] = false
some_taken plan limits system (link ∷ links) = waits_on system link || some_taken plan limits (after_link plan limits system link) links

-- the first posts of these links were taken
abbrev pub Served : Serving → List Link → Serving → Type 0
Served before links after = MovedTo before (after_links before.plan before.limits (system_in before) links) after

-- those of the first of these links: the others were not served
pub record ServedInPart (before : Serving) (links : List Link) (after : Serving) : Type 0 where
  pub first : List Link
  pub others : List Link
  pub are : links ≡ first ++ others
  pub served : Served before first after

-- the links of so many steps, one step behind the other
abbrev pub in_steps : ℕ → List Link → List Link
in_steps zero links = []
in_steps (suc k) links = in_steps k links ++ links

-- so many whole steps were made
pub record MadeSteps (before after : Serving) : Type 0 where
  pub steps : ℕ
  pub served : Served before (in_steps steps (links_of before)) after

-- so many whole steps were made, and the first links of one more were served
pub record MadeStepsInPart (before after : Serving) : Type 0 where
  pub steps : ℕ
  pub first : List Link
  pub others : List Link
  pub are : links_of before ≡ first ++ others
  pub served : Served before (in_steps steps (links_of before) ++ first) after

-- the run of an actor
abbrev pub run_in : Held → ActorRun
run_in held = run_of held.setting.rules held.state

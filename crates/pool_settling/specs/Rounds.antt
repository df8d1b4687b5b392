-- Bringing what waits in outboxes, and what is left of feeds.
use Rattle.std.specs.Prelude.{◌≡◌, ℕ, zero, suc, ◌+◌, ◌<◌, ◌≤◌, List, [], ◌++◌, ◌==◌, Bool, false, true, Some, length, slice_get, if◌then◌else◌}
use Rattle.std.specs.List.{AllByRecursion, filter_map}
use Rattle.join_base.specs.declared.message.Message.{Message}
use Rattle.join_base.specs.declared.message.Source.{Source}
use Rattle.join_base.specs.declared.message.Source.TheVariants.{Feed, Actor}
use Rattle.join_base.specs.declared.message.Stamped.{Stamped}
use Rattle.fair_semantics.specs.declared.run.ActorRun.{ActorRun}
use Rattle.fair_semantics.specs.Fair.{run_of}
use Rattle.fair_semantics.specs.Linked.{feed_posts, post_for}
use Rattle.script_types.specs.declared.plan.Rule.{Rule}
use Rattle.actor_turn.specs.Held.{Held, posts_for}
use Rattle.pool_settling.specs.Standing.{StandsBy, actor_count, feed_count}
use Rattle.pool_settling.specs.Ends.{GoOn}
use Rattle.pool_settling.specs.Work.{all_weight, all_work}

-- ---- what came and went

-- to an actor from a source
abbrev pub Came : Type 0
Came = ℕ → Source → List Stamped

-- from an actor to another
abbrev pub Went : Type 0
Went = ℕ → ℕ → List Stamped

-- each actor stands by what came to it and what went from it
abbrev pub StandAs : Came → Went → List Held → Type 0
StandAs came went helds = (actor : ℕ) (held : Held) → slice_get helds actor ≡ Some held → StandsBy (came actor) (went actor) held

-- and what went from an actor to another is what came to that one; this came from feeds
pub record StandFed (fed : ℕ → ℕ → List Stamped) (helds : List Held) : Type 0 where
  pub came : Came
  pub from_feeds : (actor feed : ℕ) → actor < length helds → came actor (Feed feed) ≡ fed actor feed
  pub stand : StandAs came (λ actor target. came target (Actor actor)) helds

-- ---- actors that can be given anything

-- there is an outbox for each of so many actors, and no body makes more than 16 posts
pub record IsMember (actors : ℕ) (held : Held) : Type 0 where
  pub outboxes : length held.outbox ≡ actors
  pub known : actor_count held ≡ actors
  pub small : AllByRecursion (λ (rule : Rule). length rule.body ≤ 16) held.setting.rules

-- so it is of each of them
abbrev pub AreMembers : List Held → Type 0
AreMembers helds = (actor : ℕ) (held : Held) → slice_get helds actor ≡ Some held → IsMember (length helds) held

-- each has so many feeds at least
abbrev pub HaveFeeds : ℕ → List Held → Type 0
HaveFeeds feeds helds = (actor : ℕ) (held : Held) → slice_get helds actor ≡ Some held → feeds ≤ feed_count held

-- ---- what is brought

-- each stands as before of the same feeds, and goes on from what it was; no more work is left
pub record BringsPosts (olds nows : List Held) : Type 0 where
  pub fed : (fed : ℕ → ℕ → List Stamped) → StandFed fed olds → StandFed fed nows
  pub members : AreMembers nows
  pub on : GoOn olds nows
  pub work : all_work nows ≤ all_work olds
  pub weight : all_weight nows ≤ all_weight olds

-- where a post was found less work is left, and where none was nothing changed
pub record Brings (found : Bool) (olds nows : List Held) : Type 0 where
  pub posts : BringsPosts olds nows
  pub less : found ≡ true → all_work nows < all_work olds
  pub same : found ≡ false → nows ≡ olds

-- no post waits for the target in the outbox of the sender
abbrev pub OutboxHasNone : List Held → ℕ → ℕ → Type 0
OutboxHasNone helds sender target = (held : Held) → slice_get helds sender ≡ Some held → posts_for held.outbox target ≡ []

-- nor for any target
abbrev pub OutboxIsEmpty : List Held → ℕ → Type 0
OutboxIsEmpty helds sender = (target : ℕ) → target < length helds → OutboxHasNone helds sender target

-- ---- what is left of feeds

-- these posts of the feed came too, each to its actor
abbrev pub fed_more : ℕ → List (ℕ × Message) → (ℕ → ℕ → List Stamped) → ℕ → ℕ → List Stamped
fed_more feed posts fed actor other = if feed == other then fed actor other ++ filter_map (post_for actor) posts else fed actor other

abbrev pub IsFedMore : ℕ → List (ℕ × Message) → List Held → List Held → Type 0
IsFedMore feed posts olds nows = (fed : ℕ → ℕ → List Stamped) → StandFed fed olds → StandFed (fed_more feed posts fed) nows

-- those of all lists came: the first list is that of feed 1
abbrev pub fed_rest : List (List (ℕ × Message)) → (ℕ → ℕ → List Stamped) → ℕ → ℕ → List Stamped
fed_rest rest fed actor zero = fed actor zero
fed_rest rest fed actor (suc k) = fed actor (suc k) ++ feed_posts actor (slice_get rest k)

abbrev pub IsFedRest : List (List (ℕ × Message)) → List Held → List Held → Type 0
IsFedRest rest olds nows = (fed : ℕ → ℕ → List Stamped) → StandFed fed olds → StandFed (fed_rest rest fed) nows

-- ---- runs

abbrev pub run_in : Held → ActorRun
run_in held = run_of held.setting.rules held.state

-- A linked run: what each actor took from each source is what the source sent it, in order, and each actor did the fair
-- steps.
use Rattle.std.specs.Prelude.{◌≡◌, ℕ, zero, suc, ◌+◌, ◌-◌, ◌^◌, min, max, List, [], ◌∷◌, ◌++◌, Bool, false, not, ◌==◌, Option, None, Some, map, length, take, drop, slice_get, if◌then◌else◌, Contains}
use Rattle.std.specs.List.{filter_map, flat_map, list_any}
use Rattle.join_base.specs.declared.message.Message.{Message}
use Rattle.join_base.specs.declared.message.Stamped.{Stamped}
use Rattle.join_base.specs.declared.message.Source.{Source}
use Rattle.join_base.specs.declared.message.Source.TheVariants.{Feed, Actor}
use Rattle.script_types.specs.declared.plan.Plan.{Plan}
use Rattle.join_base.specs.declared.message.Sort.{Sort}
use Rattle.fair_semantics.specs.declared.run.Limits.{Limits}
use Rattle.fair_semantics.specs.declared.run.Effect.{Effect}
use Rattle.fair_semantics.specs.declared.run.Effect.TheVariants as effect
use Rattle.fair_semantics.specs.declared.run.Ending.TheVariants as ending
use Rattle.fair_semantics.specs.declared.run.Firing.{Firing}
use Rattle.fair_semantics.specs.declared.run.Entry.{Entry}
use Rattle.fair_semantics.specs.declared.run.ActorRun.{ActorRun}
use Rattle.fair_semantics.specs.declared.run.Run.{Run}
use Rattle.fair_semantics.specs.Step.{fits}
use Rattle.script_types.specs.Typed.{kind_types}
use Rattle.fair_semantics.specs.Fair.{Sent, fair_run}
use Rattle.fair_semantics.specs.Fits.{RunFits}

abbrev pub numbers_from : ℕ → ℕ → List ℕ
numbers_from start zero = []
numbers_from start (suc n) = start ∷ numbers_from (start + 1) n

-- the sources: the feeds from 1, and then the actors from 0
abbrev pub sources : ℕ → ℕ → List Source
sources feeds actors = map (λ k. Feed k) (numbers_from 1 feeds) ++ map (λ a. Actor a) (numbers_from 0 actors)

abbrev pub same_source : Source → Source → Bool
same_source (Feed j) (Feed k) = j == k
same_source (Feed j) (Actor a) = false
same_source (Actor a) (Feed k) = false
same_source (Actor a) (Actor b) = a == b

-- the posts to an actor among those of a feed, which carry the stamp 0
abbrev pub post_for : ℕ → (ℕ × Message) → Option Stamped
post_for actor post = if post.0 == actor then Some record { message = post.1; stamp = 0 } else None

abbrev pub feed_posts : ℕ → Option (List (ℕ × Message)) → List Stamped
feed_posts actor None = []
feed_posts actor (Some posts) = filter_map (post_for actor) posts

abbrev pub effect_for : ℕ → ℕ → Effect → Option Stamped
effect_for actor stamp (effect.Print line) = None
effect_for actor stamp (effect.Post target message) = if target == actor then Some record { message = message; stamp = stamp } else None
effect_for actor stamp (effect.Reply number value) = None

abbrev pub firing_effects : Option Firing → List Effect
firing_effects None = []
firing_effects (Some firing) = firing.effects

-- the posts to an actor among the effects of an entry, which carry the entry's stamp
abbrev pub entry_posts : ℕ → Entry → List Stamped
entry_posts actor entry = filter_map (effect_for actor entry.stamp) (firing_effects entry.firing)

-- the posts to an actor among the effects of another's entries
abbrev pub posts_in : ℕ → Option ActorRun → List Stamped
posts_in actor None = []
posts_in actor (Some run) = flat_map (entry_posts actor) run.entries

-- what a source sent to an actor, in order: feeds are counted from 1
abbrev pub posts_of : List (List (ℕ × Message)) → List ActorRun → Source → ℕ → List Stamped
posts_of feeds runs (Feed zero) actor = []
posts_of feeds runs (Feed (suc k)) actor = feed_posts actor (slice_get feeds k)
posts_of feeds runs (Actor a) actor = posts_in actor (slice_get runs a)

abbrev pub messages_of : List Stamped → List Message
messages_of posts = map (λ post. post.message) posts

abbrev pub message_from : Source → Entry → Option Message
message_from source entry = if same_source entry.source source then Some entry.message else None

-- what an actor took from a source, in order
abbrev pub taken_from : Source → List Entry → List Message
taken_from source entries = filter_map (message_from source) entries

-- the stamp of the post at a place
abbrev pub stamp_at : Option Stamped → ℕ
stamp_at None = 0
stamp_at (Some post) = post.stamp

-- the entries as they were sent, where those before them are given: each with the stamp of the next post of its source
abbrev pub arrived_after : (Source → List Stamped) → List Entry → List Entry → List Sent
arrived_after posts before [] = []
arrived_after posts before (entry ∷ more) =
    (entry.source, record { message = entry.message; stamp = stamp_at (slice_get (posts entry.source) (length (taken_from entry.source before))) }) ∷ arrived_after posts (before ++ entry ∷ []) more

-- the arrivals in order, each with the stamp that it carried
abbrev pub arrived : (Source → List Stamped) → List Entry → List Sent
arrived posts entries = arrived_after posts [] entries

-- what a source sent and the actor did not record
abbrev pub rest_of : (Source → List Stamped) → List Entry → Source → List Sent
rest_of posts entries source = map (λ post. (source, post)) (drop (length (taken_from source entries)) (posts source))

abbrev pub starts_unfit : List (List Sort) → List Sent → Bool
starts_unfit sorts [] = false
starts_unfit sorts (sent ∷ more) = not (fits sorts sent.1.message)

abbrev pub starts_with : ℕ → List Sent → Bool
starts_with stamp [] = false
starts_with stamp (sent ∷ more) = sent.1.stamp == stamp

-- the greatest stamp that one of the rests begins with, or 0
abbrev pub greatest_start : List (List Sent) → ℕ
greatest_start [] = 0
greatest_start ([] ∷ rests) = greatest_start rests
greatest_start ((sent ∷ more) ∷ rests) = max sent.1.stamp (greatest_start rests)

abbrev pub behind_first : (List Sent → Bool) → List Sent → List (List Sent) → List (List Sent)
behind_first leads rest [] = rest ∷ []
behind_first leads rest (first ∷ others) = if leads first then first ∷ rest ∷ others else rest ∷ first ∷ others

-- the first of the rests that leads, and then the others in their order
abbrev pub brought_first : (List Sent → Bool) → List (List Sent) → List (List Sent)
brought_first leads [] = []
brought_first leads (rest ∷ rests) = if leads rest then rest ∷ rests else behind_first leads rest (brought_first leads rests)

-- the rests in the order in which they come: first one that begins with a message that does not fit, or where there is
-- none one that begins with the greatest stamp
abbrev pub rests_in_order : List (List Sort) → List (List Sent) → List (List Sent)
rests_in_order sorts rests = if list_any (starts_unfit sorts) rests then brought_first (starts_unfit sorts) rests else brought_first (starts_with (greatest_start rests)) rests

-- what the sources sent and the actor did not record, in the order in which it comes
abbrev pub rests_by : List (List Sort) → List Source → (Source → List Stamped) → List Entry → List Sent
rests_by sorts from posts entries = flat_map (λ sent. sent) (rests_in_order sorts (map (rest_of posts entries) from))

-- what an actor was given by its sources: its arrivals in order, and then the rests
abbrev pub given_by : List (List Sort) → List Source → (Source → List Stamped) → List Entry → List Sent
given_by sorts from posts entries = arrived posts entries ++ rests_by sorts from posts entries

-- what came to an actor behind its arrivals
abbrev pub rests_of : Plan → List (List (ℕ × Message)) → Run → ℕ → List Entry → List Sent
rests_of plan feeds run actor entries =
    rests_by (kind_types plan.kinds) (sources run.feeds (length plan.actors)) (λ source. posts_of feeds run.actors source actor) entries

-- what an actor was given in a run: its arrivals in order, and then the rests
abbrev pub given : Plan → List (List (ℕ × Message)) → Run → ℕ → List Entry → List Sent
given plan feeds run actor entries = arrived (λ source. posts_of feeds run.actors source actor) entries ++ rests_of plan feeds run actor entries

abbrev pub count_of : Source → List (Source × ℕ) → ℕ
count_of source [] = 0
count_of source (late ∷ more) = if same_source late.0 source then late.1 else count_of source more

abbrev pub unstamped_entry : Entry → Entry
unstamped_entry entry = record entry { stamp = 0 }

-- the run without its stamps
abbrev pub unstamped : ActorRun → ActorRun
unstamped run = record run { entries = map unstamped_entry run.entries }

-- the run as a version has it: version 1 has no stamps
abbrev pub in_version : ℕ → ActorRun → ActorRun
in_version version run = if version == 1 then unstamped run else run

-- one actor of a linked run
pub record IsLinkedActor (plan : Plan) (limits : Limits) (feeds : List (List (ℕ × Message))) (run : Run) (actor : ℕ) (own : ActorRun) : Type 0 where
  -- its entries from a source have the first messages that the source sent it
  pub in_order : (source : Source) → Contains (sources run.feeds (length plan.actors)) source →
      taken_from source own.entries ≡ take (length (taken_from source own.entries)) (messages_of (posts_of feeds run.actors source actor))
  -- the others are late, counted up to the last 64-bit number
  pub late : (source : Source) → Contains (sources run.feeds (length plan.actors)) source →
      count_of source own.late ≡ min (length (rest_of (λ s. posts_of feeds run.actors s actor) own.entries source)) (2 ^ 64 - 1)
  pub none_late : own.ending ≡ ending.Running → own.late ≡ []
  -- it did the fair steps of what it was given
  pub fair : own ≡ in_version run.version (fair_run plan actor limits run.feeds (given plan feeds run actor own.entries))

pub record IsLinked (plan : Plan) (limits : Limits) (feeds : List (List (ℕ × Message))) (run : Run) : Type 0 where
  pub fits_plan : RunFits plan run
  pub same_limits : run.limits ≡ limits
  pub feed_count : run.feeds ≡ length feeds
  pub each : (actor : ℕ) (own : ActorRun) → slice_get run.actors actor ≡ Some own → IsLinkedActor plan limits feeds run actor own

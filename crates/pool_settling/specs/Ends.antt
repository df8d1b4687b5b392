-- The ends of links, and what they carried.
use Rattle.std.specs.Prelude.{◌≡◌, ◌==◌, ◌&&◌, ℕ, ◌+◌, ◌<◌, ◌≤◌, List, [], ◌∷◌, length, All, Some, map, slice_get, slice_index_or, if◌then◌else◌}
use Rattle.std.specs.List.{sum_by}
use Rattle.join_base.specs.declared.message.Source.{Source}
use Rattle.join_base.specs.declared.message.Source.TheVariants.{Actor}
use Rattle.join_base.specs.declared.message.Stamped.{Stamped}
use Rattle.fair_semantics.specs.Linked.{same_source}
use Rattle.post_ring.specs.Links.{sent, received, identity_in, identity_out}
use Rattle.actor_turn.specs.Held.{Held}
use Rattle.cell_links.specs.Wiring.{Key}
use Rattle.actor_cells.specs.Lawful.{IsAmong}
use Rattle.pool_settling.specs.declared.ends.Sender.{Sender}
use Rattle.pool_settling.specs.declared.ends.Receiver.{Receiver}
use Rattle.pool_settling.specs.Standing.{HistoryGoesOn, StandsBy, actor_count, feed_count}
use Rattle.pool_settling.specs.Work.{HaveSmallBodies, all_weight}

abbrev pub receiver_key : Receiver → Key
receiver_key r = (r.source, r.target, identity_out r.link)

abbrev pub receiver_keys : List Receiver → List Key
receiver_keys receivers = map receiver_key receivers

-- what contracts read of a sender: its key, and what it sent
abbrev pub Entry : Type 0
Entry = Key × List Stamped

abbrev pub entry_of : Sender → Entry
entry_of s = ((s.source, s.target, identity_in s.link), sent s.link)

abbrev pub entries : List Sender → List Entry
entries senders = map entry_of senders

abbrev pub keys_of : List Entry → List Key
keys_of es = map (λ (e : Entry). e.0) es

-- what went from a source to a target, or nothing where there is no such link
abbrev pub sent_in : List Entry → Source → ℕ → List Stamped
sent_in [] source target = []
sent_in (e ∷ es) source target = if same_source e.0.0 source && (e.0.1 == target) then e.1 else sent_in es source target

-- and what came
abbrev pub received_in : List Receiver → Source → ℕ → List Stamped
received_in [] source target = []
received_in (r ∷ receivers) source target = if same_source r.source source && (r.target == target) then received r.link else received_in receivers source target

-- ---- finding a sender

abbrev pub Serves : Key → Source → ℕ → Type 0
Serves key source target = (key.0 ≡ source) × (key.1 ≡ target)

-- a sender has this source and this target
abbrev pub IsServed : List Entry → Source → ℕ → Type 0
IsServed es source target = (k : ℕ) × (k < length (keys_of es)) × ((d : Key) → Serves (slice_index_or (keys_of es) k d) source target)

-- ---- draining

-- the actor of its target is there, and keeps a late count of its source
abbrev pub IsKnownTo : List Held → Receiver → Type 0
IsKnownTo helds r = (r.target < length helds) × ((held : Held) → slice_get helds r.target ≡ Some held → IsAmong (feed_count held) (actor_count held) r.source)

-- each actor stands by what came over the links to it and what went over those from it
pub record AreStanding (es : List Entry) (receivers : List Receiver) (helds : List Held) : Type 0 where
  pub each : (actor : ℕ) (held : Held) → slice_get helds actor ≡ Some held → StandsBy (λ source. received_in receivers source actor) (λ target. sent_in es (Actor actor) target) held
  pub all_known : All (IsKnownTo helds) receivers

-- each actor goes on from what it was
pub record GoOn (olds nows : List Held) : Type 0 where
  pub count : length nows ≡ length olds
  pub each : (actor : ℕ) (before after : Held) → slice_get olds actor ≡ Some before → slice_get nows actor ≡ Some after → HistoryGoesOn before after

-- how many messages came to the receivers
abbrev pub came_count : List Receiver → ℕ
came_count receivers = sum_by (λ (r : Receiver). length (received r.link)) receivers

-- where no body makes more than 16 posts, the weight rose at most by what came meanwhile
abbrev pub GivenAsCame : List Held → List Held → List Receiver → List Receiver → Type 0
GivenAsCame olds nows before after = HaveSmallBodies olds → all_weight nows + came_count before ≤ all_weight olds + came_count after

-- all that was sent to the receiver came
abbrev pub HasAll : List Entry → Receiver → Type 0
HasAll es r = received r.link ≡ sent_in es r.source r.target

-- so it is of the receiver at a place, and the others are as they were
pub record IsDrainedAt (es : List Entry) (place : ℕ) (olds nows : List Receiver) : Type 0 where
  pub keys : receiver_keys nows ≡ receiver_keys olds
  pub here : (d : Receiver) → HasAll es (slice_index_or nows place d)
  pub others : (k : ℕ) (d : Receiver) → ¬ (k ≡ place) → slice_index_or nows k d ≡ slice_index_or olds k d

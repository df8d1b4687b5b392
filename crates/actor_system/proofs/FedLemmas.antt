-- The first post of a feed is brought to its actor.
use Rattle.std.proofs.Common.{◌≡◌, ◌∙◌, ℕ, zero, suc, ◌+◌, ◌-◌, ◌<◌, ◌≤◌, List, [], ◌∷◌, length, map, Bool, true, false, Option, Some, Vec, slice_get, slice_set, slice_index_or, refl, ap, sym, subst, arith}
use Rattle.std.specs.Prelude.{if◌then◌else◌, ◌==◌, ◌&&◌}
use Rattle.std.specs.List.{AllByRecursion}
use Rattle.std.proofs.lemmas.List.{length-set}
use Rattle.std.proofs.lemmas.Option.{slice_get-get_or}
use Rattle.join_base.specs.declared.message.Message.{Message}
use Rattle.join_base.specs.declared.message.Stamped.{Stamped}
use Rattle.join_base.specs.declared.message.Source.{Source}
use Rattle.join_base.specs.declared.message.Source.TheVariants.{Feed, Actor}
use Rattle.join_base.specs.Late.{HasCount}
use Rattle.fair_semantics.specs.Step.{Stepped}
use Rattle.fair_semantics.specs.declared.run.Outcome.{Outcome}
use Rattle.fair_semantics.specs.Schedule.{left_waiting}
use Rattle.schedule_law.specs.Reached.{IsReached}
use Rattle.actor_turn.specs.Held.{Held}
use Rattle.actor_system.specs.Feeding.{IsNext, fed_from}
use Rattle.actor_system.specs.Serving.{Serving, after_link, fed_by, place_in, system_in, waiting_in, waits_on}
use Rattle.actor_system.specs.Inside.{AreMembers, IsSound}
use Rattle.actor_system.proofs.FeedLemmas.{none_from}
use Rattle.actor_system.proofs.PlaceLemmas.{same_number}
use Rattle.actor_system.proofs.MoveLemmas.{IsTaken, fed_taken, placed, with_actors}
use Rattle.actor_system.proofs.SoundLemmas.{SoundAt, arrives, lends, may_arrive}
use Rattle.actor_system.proofs.BringLemmas.{Arrived, none_waits, nothing_taken, one_waits}

module _ (s : Serving) (sound : IsSound s) (target k : ℕ) (in_plan : target < length s.plan.actors) (exists : k < length s.feeds) (posts : List (ℕ × Message)) (feed : slice_get s.feeds k ≡ Some posts) (from : ℕ) (place_is : from ≡ place_in s.places k target) where
  fed_are : waiting_in s (Feed (suc k)) target ≡ fed_from posts from target
  fed_are = (λ i. fed_by (feed i) (sym place_is i) target)

  pub fed_nothing : fed_from posts from target ≡ [] → false ≡ waits_on (system_in s) (target, Feed (suc k))
  fed_nothing none = none_waits s target (Feed (suc k)) (fed_are ∙ none)

  row_length : (rows : List (List ℕ)) (j : ℕ) → AllByRecursion (λ (row : List ℕ). length row ≡ length s.plan.actors) rows → j < length rows → length (slice_index_or rows j []) ≡ length s.plan.actors
  row_length [] j each l = absurd (omega arith)
  row_length (row ∷ rows) zero each l = each.0
  row_length (row ∷ rows) (suc j) each l = row_length rows j each.1 (omega arith)

  set_rows : (rows : List (List ℕ)) (j : ℕ) (new : List ℕ) → length new ≡ length s.plan.actors → AllByRecursion (λ (row : List ℕ). length row ≡ length s.plan.actors) rows → AllByRecursion (λ (row : List ℕ). length row ≡ length s.plan.actors) (slice_set rows j new)
  set_rows [] j new l each = tt
  set_rows (row ∷ rows) zero new l each = (l, each.1)
  set_rows (row ∷ rows) (suc j) new l each = (each.0, set_rows rows j new l each.1)

  has_row : k < length s.places
  has_row = omega (arith, sound.members.rows)

  has_place : target < length (slice_index_or s.places k [])
  has_place = let n = row_length s.places k sound.members.row has_row in omega (arith, n)

  placed_members : (place : ℕ) → AreMembers s.plan s.limits (length s.feeds) (placed s k target place).places s.actors
  placed_members place = record {
    count = sound.members.count;
    each = sound.members.each;
    rows = length-set s.places k _ ∙ sound.members.rows;
    row = set_rows s.places k _ (length-set (slice_index_or s.places k []) target place ∙ row_length s.places k sound.members.row has_row) sound.members.row;
  }

  -- where none is left for the target, its place may be the end of the feed
  module _ (none : fed_from posts from target ≡ []) where
    abbrev waiting : List Stamped
    waiting = waiting_in s (Feed (suc k)) target

    abbrev passed : Serving
    passed = placed s k target (length posts)

    all_left : IsTaken s target (Feed (suc k)) waiting passed
    all_left = fed_taken s k target (length posts) waiting has_row has_place (ap (λ (o : Option (List (ℕ × Message))). fed_by o (length posts) target) feed ∙ none_from posts (length posts) target (omega arith) ∙ sym (fed_are ∙ none))

    left_same : (from : Source) (t : ℕ) → left_waiting (system_in s) target (Feed (suc k)) waiting from t ≡ waiting_in s from t
    left_same (Actor a) t = refl
    left_same (Feed j) t = by (j == suc k) (t == target) refl refl
      where
        by : (b c : Bool) → (j == suc k) ≡ b → (t == target) ≡ c → (if b && c then waiting else waiting_in s (Feed j) t) ≡ waiting_in s (Feed j) t
        by true true e f = (λ i. waiting_in s (Feed (sym (same_number j (suc k) e) i)) (sym (same_number t target f) i))
        by true false e f = refl
        by false c e f = refl

    passed_same : system_in passed ≡ system_in s
    passed_same = λ i. record { state = λ j. all_left.state j i; waiting = λ from t. (all_left.waiting from t ∙ left_same from t) i }

    pub fed_passed : SoundAt s (after_link s.plan s.limits (system_in s) (target, Feed (suc k))) passed
    fed_passed = record {
      sound = record {
        can = sound.can;
        members = placed_members (length posts);
        reached = subst (IsReached s.plan s.limits s.feeds) (sym passed_same) sound.reached;
      };
      stands = record { same_plan = refl; same_limits = refl; same_feeds = refl; system_is = passed_same ∙ sym (nothing_taken s target (Feed (suc k)) (fed_are ∙ none)) };
    }

  module _ (place : ℕ) (next : IsNext posts from target place) where
    abbrev post : Stamped
    post = record { message = next.message; stamp = 0 }

    abbrev rest : List Stamped
    rest = fed_from posts (place + 1) target

    fed_first : waiting_in s (Feed (suc k)) target ≡ post ∷ rest
    fed_first = fed_are ∙ next.waits

    pub fed_waits : true ≡ waits_on (system_in s) (target, Feed (suc k))
    fed_waits = one_waits s target (Feed (suc k)) post rest fed_first

    abbrev taken : Serving
    taken = placed s k target (place + 1)

    is_taken : IsTaken s target (Feed (suc k)) rest taken
    is_taken = fed_taken s k target (place + 1) rest has_row has_place (ap (λ (o : Option (List (ℕ × Message))). fed_by o (place + 1) target) feed)

    module _ (before : Held) (here : slice_get s.actors target ≡ Some before) where
      pub fed_may : HasCount before.state.late (Feed (suc k))
      fed_may = may_arrive s sound target (Feed (suc k)) post rest in_plan fed_first taken is_taken (placed_members (place + 1)) before here (omega arith, omega (arith, exists))

      pub fed_arrives : (after : Held) (outcome : Outcome) → Arrived before after (Feed (suc k)) next.message 0 outcome
          → SoundAt s (after_link s.plan s.limits (system_in s) (target, Feed (suc k))) (with_actors taken (slice_set s.actors target after))
      fed_arrives after outcome a =
          arrives s sound target (Feed (suc k)) post rest in_plan fed_first taken is_taken (placed_members (place + 1)) before here after refl a.setting (sym (ap (λ (st : Stepped). st.0) a.step)) a.outbox a.lent

      pub fed_refused : (after : Held) → after ≡ before → SoundAt s (system_in s) (with_actors s (slice_set s.actors target after))
      fed_refused after same = lends s sound target before after here (ap (λ (h : Held). h.setting) same) (ap (λ (h : Held). h.state) same) (ap (λ (h : Held). h.outbox) same) (ap (λ (h : Held). length h.lent) same)

-- the rows of places, after one place was set
pub rows_set : {Z : Type 0} (rows : List (Vec ℕ Z)) (k target place : ℕ) (row : Vec ℕ Z) → slice_get rows k ≡ Some row → (new : Vec ℕ Z) → new.items ≡ slice_set row.items target place
    → map (λ r. r.items) (slice_set rows k new) ≡ slice_set (map (λ r. r.items) rows) k (slice_set (slice_index_or (map (λ r. r.items) rows) k []) target place)
rows_set [] k target place row e new is = absurd cc
rows_set (r ∷ rows) zero target place row e new is =
    let same : row ≡ r = cc in
    let items : new.items ≡ slice_set r.items target place = is ∙ ap (λ (x : _). slice_set x.items target place) same in
    ap (λ (xs : List ℕ). xs ∷ map (λ r. r.items) rows) items
rows_set (r ∷ rows) (suc k) target place row e new is = ap (λ (xs : List (List ℕ)). r.items ∷ xs) (rows_set rows k target place row e new is)

-- the place that was read
pub place_read : {Z : Type 0} (rows : List (Vec ℕ Z)) (k target : ℕ) (row : Vec ℕ Z) → slice_get rows k ≡ Some row → (n d : ℕ) → target < length row.items → n ≡ slice_index_or row.items target d → n ≡ place_in (map (λ r. r.items) rows) k target
place_read [] k target row e n d l is = absurd cc
place_read (r ∷ rows) zero target row e n d l is =
    let same : row ≡ r = cc in
    is ∙ any_default row.items target d l ∙ ap (λ (x : _). slice_index_or x.items target 0) same
  where
    any_default : (xs : List ℕ) (j d : ℕ) → j < length xs → slice_index_or xs j d ≡ slice_index_or xs j 0
    any_default [] j d l = absurd (omega arith)
    any_default (x ∷ xs) zero d l = refl
    any_default (x ∷ xs) (suc j) d l = any_default xs j d (omega arith)
place_read (r ∷ rows) (suc k) target row e n d l is = place_read rows k target row e n d l is

-- ---- what the call reads

pub row_of : {Z : Type 0} (n : ℕ) (rows : List (Vec ℕ Z)) (k : ℕ) (row : Vec ℕ Z) → slice_get rows k ≡ Some row → AllByRecursion (λ (xs : List ℕ). length xs ≡ n) (map (λ r. r.items) rows) → length row.items ≡ n
row_of n [] k row e each = absurd cc
row_of n (r ∷ rows) zero row e each = let same : row ≡ r = cc in ap (λ (x : _). length x.items) same ∙ each.0
row_of n (r ∷ rows) (suc k) row e each = row_of n rows k row e each.1

pub get_row : {X : Type 0} (rows : List X) (k : ℕ) (row : X) → k < length rows → row ≡ slice_index_or rows k row → slice_get rows k ≡ Some row
get_row rows k row l is = slice_get-get_or rows k row l ∙ ap (λ (r : _). Some r) (sym is)

pub message_at : (posts : List (ℕ × Message)) (place actor : ℕ) (message : Message) → slice_get posts place ≡ Some (actor, message) → (r : ℕ × Message) → (slice_index_or posts place r).1 ≡ message
message_at [] place actor message e r = absurd cc
message_at (p ∷ posts) zero actor message e r = let same : p ≡ (actor, message) = cc in ap (λ (q : ℕ × Message). q.1) same
message_at (p ∷ posts) (suc place) actor message e r = message_at posts place actor message e r

-- the number of a feed is not 0
pub feed_number : (feed : ℕ) → 1 ≤ feed → suc (feed - 1) ≡ feed
feed_number feed l = omega arith

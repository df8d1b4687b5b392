-- What a system is after the first post of a link was taken, and after it has arrived.
use Rattle.std.proofs.Common.{◌≡◌, ◌∙◌, inl, inr, ℕ, zero, suc, ◌+◌, ◌<◌, ◌≤◌, List, [], ◌∷◌, ◌++◌, length, Bool, true, false, Option, Some, slice_get, slice_set, slice_index_or, refl, ap, sym, arith}
use Rattle.std.specs.Prelude.{if◌then◌else◌, ◌==◌, ◌&&◌}
use Rattle.std.specs.List.{flat_map}
use Rattle.std.proofs.lemmas.Bool.{cases_lt}
use Rattle.std.proofs.lemmas.List.{append-nil}
use Rattle.join_base.specs.declared.message.Stamped.{Stamped}
use Rattle.join_base.specs.declared.message.Source.{Source}
use Rattle.join_base.specs.declared.message.Source.TheVariants.{Feed, Actor}
use Rattle.fair_semantics.specs.declared.run.Entry.{Entry}
use Rattle.fair_semantics.specs.Fair.{setting_of}
use Rattle.fair_semantics.specs.Step.{State, fair_step, opening}
use Rattle.fair_semantics.specs.Linked.{entry_posts}
use Rattle.fair_semantics.specs.Schedule.{System, left_waiting, newly_waiting, posts_made, scheduled_step, state_after, taking}
use Rattle.run_order_law.proofs.EventLemmas.{same_number}
use Rattle.run_order_law.proofs.ListLemmas.{empty_right}
use Rattle.run_order_law.proofs.ServeLemmas.{drop_added}
use Rattle.run_order_law.proofs.SourceLemmas.{is_itself}
use Rattle.schedule_law.specs.Reached.{IsReached, IsServable}
use Rattle.schedule_law.proofs.StandLemmas.{posts_beyond, reached_more}
use Rattle.actor_turn.specs.Held.{Held, new_entries, posts_behind, posts_for, without_first}
use Rattle.actor_system.specs.Serving.{Serving, after_link, or_same, place_in, posted_by, state_in, system_in, waiting_in, fed_by}
use Rattle.actor_system.proofs.PlaceLemmas.{differ, equal, get_set, index_set, other_number}

-- ---- the posts of a body

behind_at : (from : ℕ) (entries : List Entry) (outbox : List (List Stamped)) (t : ℕ) → t < length outbox → posts_for (posts_behind from entries outbox) t ≡ posts_for outbox t ++ flat_map (entry_posts (from + t)) entries
behind_at from entries [] t l = absurd (omega arith)
behind_at from entries (posts ∷ outbox) zero l = let e : from ≡ from + 0 = omega arith in ap (λ (k : ℕ). posts ++ flat_map (entry_posts k) entries) e
behind_at from entries (posts ∷ outbox) (suc t) l =
    let e : from + 1 + t ≡ from + suc t = omega arith in
    behind_at (from + 1) entries outbox t (omega arith) ∙ ap (λ (k : ℕ). posts_for outbox t ++ flat_map (entry_posts k) entries) e

past_behind : (from : ℕ) (entries : List Entry) (outbox : List (List Stamped)) (t : ℕ) → length outbox ≤ t → posts_for (posts_behind from entries outbox) t ≡ []
past_behind from entries [] t l = refl
past_behind from entries (posts ∷ outbox) zero l = absurd (omega arith)
past_behind from entries (posts ∷ outbox) (suc t) l = past_behind (from + 1) entries outbox t (omega arith)

past_posts : (outbox : List (List Stamped)) (t : ℕ) → length outbox ≤ t → posts_for outbox t ≡ []
past_posts [] t l = refl
past_posts (posts ∷ outbox) zero l = absurd (omega arith)
past_posts (posts ∷ outbox) (suc t) l = past_posts outbox t (omega arith)

behind : (entries : List Entry) (outbox : List (List Stamped)) (t : ℕ) → (length outbox ≤ t → flat_map (entry_posts t) entries ≡ []) → posts_for (posts_behind 0 entries outbox) t ≡ posts_for outbox t ++ flat_map (entry_posts t) entries
behind entries outbox t beyond =
    elim (cases_lt t (length outbox)) [
      | inl within ↦ let e : 0 + t ≡ t = omega arith in behind_at 0 entries outbox t within ∙ ap (λ (k : ℕ). posts_for outbox t ++ flat_map (entry_posts k) entries) e
      | inr past ↦ past_behind 0 entries outbox t (omega arith) ∙ (λ i. sym (past_posts outbox t (omega arith)) i ++ sym (beyond (omega arith)) i)
    ]

-- ---- an arrival

abbrev pub with_actors : Serving → List Held → Serving
with_actors s helds = record { plan = s.plan; limits = s.limits; feeds = s.feeds; places = s.places; actors = helds }

abbrev start : Serving → State
start s = opening (length s.feeds) (length s.plan.actors)

module _ (s : Serving) (target : ℕ) (before after : Held) (at : slice_get s.actors target ≡ Some before) (l : target < length s.actors) where
  abbrev arrived : Serving
  arrived = with_actors s (slice_set s.actors target after)

  state_moved : (other : ℕ) → (system_in arrived).state other ≡ (if other == target then after.state else (system_in s).state other)
  state_moved other = ap (state_in (start s)) (get_set s.actors target other after l) ∙ by (other == target)
    where
      by : (b : Bool) → state_in (start s) (if b then Some after else slice_get s.actors other) ≡ (if b then after.state else (system_in s).state other)
      by true = refl
      by false = refl

  waiting_moved : after.outbox ≡ posts_behind 0 (new_entries before.state after.state) before.outbox → ((t : ℕ) → length before.outbox ≤ t → flat_map (entry_posts t) (new_entries before.state after.state) ≡ [])
      → (from : Source) (t : ℕ) → waiting_in arrived from t ≡ waiting_in s from t ++ newly_waiting (system_in s) target after.state from t
  waiting_moved outbox beyond (Feed zero) t = refl
  waiting_moved outbox beyond (Feed (suc k)) t = sym (append-nil (waiting_in s (Feed (suc k)) t))
  waiting_moved outbox beyond (Actor a) t = ap (λ (o : Option Held). posted_by o t) (get_set s.actors target a after l) ∙ by (a == target) refl
    where
      by : (b : Bool) → (a == target) ≡ b → posted_by (if b then Some after else slice_get s.actors a) t ≡ posted_by (slice_get s.actors a) t ++ (if b then posts_made ((system_in s).state target) after.state t else [])
      by false e = sym (append-nil (posted_by (slice_get s.actors a) t))
      by true e =
          let here : slice_get s.actors a ≡ Some before = ap (slice_get s.actors) (same_number a target e) ∙ at in
          let state : (system_in s).state target ≡ before.state = ap (state_in (start s)) at in
          ap (λ (o : List (List Stamped)). posts_for o t) outbox ∙ behind (new_entries before.state after.state) before.outbox t (beyond t)
          ∙ (λ i. posted_by (sym here i) t ++ posts_made (sym state i) after.state t)

-- ---- a post that was taken

-- the system where the first post of a link was taken and has not arrived
pub record IsTaken (s : Serving) (target : ℕ) (source : Source) (rest : List Stamped) (taken : Serving) : Type 0 where
  pub plan : taken.plan ≡ s.plan
  pub feeds : taken.feeds ≡ s.feeds
  pub state : (other : ℕ) → (system_in taken).state other ≡ (system_in s).state other
  pub waiting : (from : Source) (t : ℕ) → waiting_in taken from t ≡ left_waiting (system_in s) target source rest from t

module _ (s : Serving) (sender target : ℕ) (held : Held) (post : Stamped) (rest : List Stamped) (at : slice_get s.actors sender ≡ Some held) (l : sender < length s.actors) (m : target < length held.outbox) where
  abbrev left : Held
  left = without_first held target (post ∷ rest)

  pub posted_taken : IsTaken s target (Actor sender) rest (with_actors s (slice_set s.actors sender left))
  posted_taken = record { plan = refl; feeds = refl; state = state_same; waiting = waiting_left }
    where
      state_same : (other : ℕ) → (system_in (with_actors s (slice_set s.actors sender left))).state other ≡ (system_in s).state other
      state_same other = ap (state_in (start s)) (get_set s.actors sender other left l) ∙ by (other == sender) refl
        where
          by : (b : Bool) → (other == sender) ≡ b → state_in (start s) (if b then Some left else slice_get s.actors other) ≡ state_in (start s) (slice_get s.actors other)
          by true e = sym (ap (λ (k : ℕ). state_in (start s) (slice_get s.actors k)) (same_number other sender e) ∙ ap (state_in (start s)) at)
          by false e = refl

      waiting_left : (from : Source) (t : ℕ) → waiting_in (with_actors s (slice_set s.actors sender left)) from t ≡ left_waiting (system_in s) target (Actor sender) rest from t
      waiting_left (Feed zero) t = refl
      waiting_left (Feed (suc k)) t = refl
      waiting_left (Actor a) t = ap (λ (o : Option Held). posted_by o t) (get_set s.actors sender a left l) ∙ by (a == sender) refl
        where
          by : (b : Bool) → (a == sender) ≡ b → posted_by (if b then Some left else slice_get s.actors a) t ≡ (if b && (t == target) then rest else posted_by (slice_get s.actors a) t)
          by false e = refl
          by true e =
              let here : posted_by (slice_get s.actors a) t ≡ posts_for held.outbox t = ap (λ (k : ℕ). posted_by (slice_get s.actors k) t) (same_number a sender e) ∙ ap (λ (o : Option Held). posted_by o t) at in
              index_set held.outbox target t rest [] m ∙ ap (λ (ps : List Stamped). if t == target then rest else ps) (sym here)

-- with the place of an actor in a feed
abbrev pub placed : Serving → ℕ → ℕ → ℕ → Serving
placed s feed target place = record { plan = s.plan; limits = s.limits; feeds = s.feeds; places = slice_set s.places feed (slice_set (slice_index_or s.places feed []) target place); actors = s.actors }

module _ (s : Serving) (feed target place : ℕ) (rest : List Stamped) (l : feed < length s.places) (m : target < length (slice_index_or s.places feed [])) (is : fed_by (slice_get s.feeds feed) place target ≡ rest) where
  pub fed_taken : IsTaken s target (Feed (suc feed)) rest (placed s feed target place)
  fed_taken = record { plan = refl; feeds = refl; state = λ other. refl; waiting = waiting_left }
    where
      suc_same : (j k : ℕ) → (j == k) ≡ (suc j == suc k)
      suc_same j k = by (j == k) refl
        where
          by : (b : Bool) → (j == k) ≡ b → b ≡ (suc j == suc k)
          by true e = sym (equal (suc j) (suc k) (ap suc (same_number j k e)))
          by false e = sym (differ (suc j) (suc k) (λ p. other_number j k e (omega (arith, p))))

      waiting_left : (from : Source) (t : ℕ) → waiting_in (placed s feed target place) from t ≡ left_waiting (system_in s) target (Feed (suc feed)) rest from t
      waiting_left (Feed zero) t = sym (ap (λ (b : Bool). if b && (t == target) then rest else []) (differ 0 (suc feed) (λ p. omega (arith, p))))
      waiting_left (Actor a) t = refl
      waiting_left (Feed (suc j)) t =
          ap (λ (r : List ℕ). fed_by (slice_get s.feeds j) (slice_index_or r t 0) t) (index_set s.places feed j (slice_set (slice_index_or s.places feed []) target place) [] l) ∙ by (j == feed) refl
          ∙ ap (λ (b : Bool). if b && (t == target) then rest else fed_by (slice_get s.feeds j) (place_in s.places j t) t) (suc_same j feed)
        where
          by : (b : Bool) → (j == feed) ≡ b → fed_by (slice_get s.feeds j) (slice_index_or (if b then slice_set (slice_index_or s.places feed []) target place else slice_index_or s.places j []) t 0) t
              ≡ (if b && (t == target) then rest else fed_by (slice_get s.feeds j) (place_in s.places j t) t)
          by false e = refl
          by true e =
              let same : j ≡ feed = same_number j feed e in
              ap (λ (p : ℕ). fed_by (slice_get s.feeds j) p t) (index_set (slice_index_or s.places feed []) target t place 0 m) ∙ own (t == target) refl same
            where
              own : (c : Bool) → (t == target) ≡ c → j ≡ feed → fed_by (slice_get s.feeds j) (if c then place else slice_index_or (slice_index_or s.places feed []) t 0) t ≡ (if c then rest else fed_by (slice_get s.feeds j) (place_in s.places j t) t)
              own true f same = (λ i. fed_by (slice_get s.feeds (same i)) place (same_number t target f i)) ∙ is
              own false f same = ap (λ (k : ℕ). fed_by (slice_get s.feeds j) (place_in s.places k t) t) (sym same)

-- ---- taken, and arrived

module _ (s : Serving) (can : IsServable s.plan s.limits s.feeds) (reached : IsReached s.plan s.limits s.feeds (system_in s)) (target : ℕ) (source : Source) (post : Stamped) (rest : List Stamped) (in_plan : target < length s.plan.actors) (waits : waiting_in s source target ≡ post ∷ rest) where
  abbrev pub system : System
  system = system_in s

  abbrev pub next_state : State
  next_state = state_after s.plan s.limits system target source post

  -- what the step of the schedule leads to
  abbrev pub next : System
  next = record { state = λ other. if other == target then next_state else system.state other; waiting = λ from t. left_waiting system target source rest from t ++ newly_waiting system target next_state from t }

  step_is : scheduled_step s.plan s.limits system (target, source) ≡ Some next
  step_is = ap (taking s.plan s.limits system target source) waits

  pub next_is : after_link s.plan s.limits system (target, source) ≡ next
  next_is = ap (or_same system) step_is

  pub next_reached : IsReached s.plan s.limits s.feeds next
  next_reached = reached_more s.plan s.limits s.feeds system reached (target, source) next in_plan step_is

  none_made : (t : ℕ) → length s.plan.actors ≤ t → posts_made (system.state target) next_state t ≡ []
  none_made t m =
      let own : next.state target ≡ next_state = ap (λ (b : Bool). if b then next_state else system.state target) (is_itself target) in
      let whole : flat_map (entry_posts t) next_state.entries ≡ [] = ap (λ (x : State). flat_map (entry_posts t) x.entries) (sym own) ∙ posts_beyond s.plan s.limits s.feeds next next_reached can target t in_plan m in
      empty_right (flat_map (entry_posts t) (system.state target).entries) (posts_made (system.state target) next_state t)
      (sym (drop_added (setting_of s.plan target s.limits) (system.state target) (source, post) t) ∙ whole)

  module _ (taken : Serving) (is : IsTaken s target source rest taken) (before after : Held) (at : slice_get taken.actors target ≡ Some before) (l : target < length taken.actors)
      (told : before.setting ≡ setting_of s.plan target s.limits) (boxes : length before.outbox ≡ length s.plan.actors)
      (step : after.state ≡ (fair_step before.setting before.state source post.message post.stamp).0) (outbox : after.outbox ≡ posts_behind 0 (new_entries before.state after.state) before.outbox) where
    state_before : before.state ≡ system.state target
    state_before =
        let here : (system_in taken).state target ≡ before.state = ap (state_in (start taken)) at in
        sym here ∙ is.state target

    state_is : after.state ≡ next_state
    state_is = step ∙ (λ i. (fair_step (told i) (state_before i) source post.message post.stamp).0)

    beyond : (t : ℕ) → length before.outbox ≤ t → flat_map (entry_posts t) (new_entries before.state after.state) ≡ []
    beyond t m = (λ i. posts_made (state_before i) (state_is i) t) ∙ none_made t (omega (arith, m, boxes))

    abbrev moved : Serving
    moved = with_actors taken (slice_set taken.actors target after)

    pub moved_is : system_in moved ≡ next
    moved_is = λ i. record { state = λ other. states other i; waiting = λ from t. waitings from t i }
      where
        states : (other : ℕ) → (system_in moved).state other ≡ next.state other
        states other = state_moved taken target before after at l other ∙ (λ i. if other == target then state_is i else is.state other i)

        waitings : (from : Source) (t : ℕ) → waiting_in moved from t ≡ next.waiting from t
        waitings from t =
            waiting_moved taken target before after at l outbox beyond from t ∙ (λ i. is.waiting from t i ++ newly from i)
          where
            newly : (f : Source) → newly_waiting (system_in taken) target after.state f t ≡ newly_waiting system target next_state f t
            newly (Feed k) = refl
            newly (Actor a) = λ i. if a == target then posts_made (is.state target i) (state_is i) t else []

-- A serving stays sound where an actor is changed, and where a post was taken and has arrived.
use Rattle.std.proofs.Common.{◌≡◌, ◌∙◌, ℕ, zero, suc, ◌+◌, ◌<◌, List, [], ◌∷◌, length, Bool, true, false, Option, Some, slice_get, slice_set, slice_index_or, refl, ap, sym, subst, arith}
use Rattle.std.specs.Prelude.{if◌then◌else◌, ◌==◌}
use Rattle.std.proofs.lemmas.List.{length-set}
use Rattle.std.proofs.lemmas.Option.{slice_get_within, slice_get-get_or}
use Rattle.join_base.specs.declared.message.Message.{Message}
use Rattle.join_base.specs.declared.message.Stamped.{Stamped}
use Rattle.join_base.specs.declared.message.Source.{Source}
use Rattle.join_base.specs.declared.message.Source.TheVariants.{Feed, Actor}
use Rattle.join_base.specs.Late.{HasCount, Late}
use Rattle.script_types.specs.declared.plan.Plan.{Plan}
use Rattle.fair_semantics.specs.declared.run.Entry.{Entry}
use Rattle.fair_semantics.specs.declared.run.Limits.{Limits}
use Rattle.fair_semantics.specs.Fits.{SourceFits}
use Rattle.fair_semantics.specs.Step.{State, fair_step, opening}
use Rattle.fair_semantics.specs.Schedule.{System}
use Rattle.fair_semantics.proofs.SizeLemmas.{Sized}
use Rattle.schedule_law.specs.Reached.{IsReached, IsServable}
use Rattle.schedule_law.proofs.StandLemmas.{sized_state}
use Rattle.actor_turn.specs.Held.{Held, new_entries, posts_behind, posts_for}
use Rattle.actor_system.specs.Serving.{Serving, StandsAt, after_link, posted_by, state_in, system_in, waiting_in}
use Rattle.actor_system.specs.Inside.{AreMembers, IsMember, IsSound}
use Rattle.actor_system.proofs.MoveLemmas.{IsTaken, moved_is, next, next_is, next_reached, with_actors}
use Rattle.actor_system.proofs.PlaceLemmas.{get_set, same_number}

-- ---- lists

pub set_here : {X : Type 0} (xs : List X) (k : ℕ) (x : X) → slice_get xs k ≡ Some x → slice_set xs k x ≡ xs
set_here [] k x e = refl
set_here {X} (y ∷ xs) zero x e = let same : y ≡ x = cc in ap (λ (z : X). z ∷ xs) (sym same)
set_here {X} (y ∷ xs) (suc k) x e = ap (λ (zs : List X). y ∷ zs) (set_here xs k x e)

pub set_twice : {X : Type 0} (xs : List X) (k : ℕ) (x y : X) → slice_set (slice_set xs k x) k y ≡ slice_set xs k y
set_twice [] k x y = refl
set_twice (z ∷ xs) zero x y = refl
set_twice {X} (z ∷ xs) (suc k) x y = ap (λ (zs : List X). z ∷ zs) (set_twice xs k x y)

pub length_behind : (from : ℕ) (entries : List Entry) (outbox : List (List Stamped)) → length (posts_behind from entries outbox) ≡ length outbox
length_behind from entries [] = refl
length_behind from entries (posts ∷ outbox) = ap suc (length_behind (from + 1) entries outbox)

-- ---- one actor in another's place

module _ (plan : Plan) (limits : Limits) (feeds : ℕ) (places : List (List ℕ)) (helds : List Held) (members : AreMembers plan limits feeds places helds) where
  pub members_set : (k : ℕ) (held after : Held) → slice_get helds k ≡ Some held → after.setting ≡ held.setting → length after.outbox ≡ length held.outbox → length after.lent ≡ length held.lent
      → AreMembers plan limits feeds places (slice_set helds k after)
  members_set k held after at told boxes lent = record { count = length-set helds k after ∙ members.count; each = each; rows = members.rows; row = members.row }
    where
      own : IsMember plan limits k after
      own = let m = members.each k held at in record { told = told ∙ m.told; outboxes = boxes ∙ m.outboxes; lent = lent ∙ m.lent }

      each : (actor : ℕ) (x : Held) → slice_get (slice_set helds k after) actor ≡ Some x → IsMember plan limits actor x
      each actor x is = by (actor == k) refl (sym (get_set helds k actor after (slice_get_within helds k held at)) ∙ is)
        where
          by : (b : Bool) → (actor == k) ≡ b → (if b then Some after else slice_get helds actor) ≡ Some x → IsMember plan limits actor x
          by true e same = let is_after : after ≡ x = cc same in subst (λ (h : Held). IsMember plan limits actor h) is_after (subst (λ (n : ℕ). IsMember plan limits n after) (sym (same_number actor k e)) own)
          by false e same = members.each actor x same

-- the actor of a member at its place
pub get_at : (helds : List Held) (k : ℕ) (held : Held) → k < length helds → held ≡ slice_index_or helds k held → slice_get helds k ≡ Some held
get_at helds k held l is = slice_get-get_or helds k held l ∙ ap (λ (h : Held). Some h) (sym is)

-- sound, and at this system
pub record SoundAt (s : Serving) (system : System) (after : Serving) : Type 0 where
  pub sound : IsSound after
  pub stands : StandsAt s.plan s.limits s.feeds system after

-- a fact of what one was made of holds of another that was made of the same
carried : (P : Plan → Limits → List (List (ℕ × Message)) → Type 0) (s after : Serving) → after.plan ≡ s.plan → after.limits ≡ s.limits → after.feeds ≡ s.feeds → P s.plan s.limits s.feeds → P after.plan after.limits after.feeds
carried P s after p l f h = subst (λ (x : Plan). P x after.limits after.feeds) (sym p) (subst (λ (x : Limits). P s.plan x after.feeds) (sym l) (subst (λ (x : List (List (ℕ × Message))). P s.plan s.limits x) (sym f) h))

pub sound_of : (s after : Serving) → after.plan ≡ s.plan → after.limits ≡ s.limits → after.feeds ≡ s.feeds → IsServable s.plan s.limits s.feeds → AreMembers s.plan s.limits (length s.feeds) after.places after.actors → IsReached s.plan s.limits s.feeds (system_in after) → IsSound after
sound_of s after p l f can members reached = record {
  can = carried IsServable s after p l f can;
  members = carried (λ plan limits feeds. AreMembers plan limits (length feeds) after.places after.actors) s after p l f members;
  reached = carried (λ plan limits feeds. IsReached plan limits feeds (system_in after)) s after p l f reached;
}

-- an actor that only lends otherwise changes nothing
module _ (s : Serving) (sound : IsSound s) (k : ℕ) (held after : Held) (at : slice_get s.actors k ≡ Some held) (told : after.setting ≡ held.setting) (state : after.state ≡ held.state) (outbox : after.outbox ≡ held.outbox) (lent : length after.lent ≡ length held.lent) where
  abbrev changed : Serving
  changed = with_actors s (slice_set s.actors k after)

  got : (j : ℕ) → slice_get (slice_set s.actors k after) j ≡ (if j == k then Some after else slice_get s.actors j)
  got j = get_set s.actors k j after (slice_get_within s.actors k held at)

  same_system : system_in changed ≡ system_in s
  same_system = λ i. record { state = λ j. states j i; waiting = λ from t. waitings from t i }
    where
      states : (j : ℕ) → (system_in changed).state j ≡ (system_in s).state j
      states j = ap (state_in (opening (length s.feeds) (length s.plan.actors))) (got j) ∙ by (j == k) refl
        where
          by : (b : Bool) → (j == k) ≡ b → state_in (opening (length s.feeds) (length s.plan.actors)) (if b then Some after else slice_get s.actors j) ≡ state_in (opening (length s.feeds) (length s.plan.actors)) (slice_get s.actors j)
          by false e = refl
          by true e = state ∙ sym (ap (λ (n : ℕ). state_in (opening (length s.feeds) (length s.plan.actors)) (slice_get s.actors n)) (same_number j k e) ∙ ap (state_in (opening (length s.feeds) (length s.plan.actors))) at)

      waitings : (from : Source) (t : ℕ) → waiting_in changed from t ≡ waiting_in s from t
      waitings (Feed zero) t = refl
      waitings (Feed (suc n)) t = refl
      waitings (Actor a) t = ap (λ (o : Option Held). posted_by o t) (got a) ∙ by (a == k) refl
        where
          by : (b : Bool) → (a == k) ≡ b → posted_by (if b then Some after else slice_get s.actors a) t ≡ posted_by (slice_get s.actors a) t
          by false e = refl
          by true e = ap (λ (o : List (List Stamped)). posts_for o t) outbox ∙ sym (ap (λ (n : ℕ). posted_by (slice_get s.actors n) t) (same_number a k e) ∙ ap (λ (o : Option Held). posted_by o t) at)

  pub lends : SoundAt s (system_in s) changed
  lends = record {
    sound = record {
      can = sound.can;
      members = members_set s.plan s.limits (length s.feeds) s.places s.actors sound.members k held after at told (ap length outbox) lent;
      reached = subst (IsReached s.plan s.limits s.feeds) (sym same_system) sound.reached;
    };
    stands = record { same_plan = refl; same_limits = refl; same_feeds = refl; system_is = same_system };
  }

-- ---- a source that exists has a late count

pub counted : (plan : Plan) (feeds : ℕ) (source : Source) (late : Late) → SourceFits plan feeds source → Sized feeds (length plan.actors) late → HasCount late source
counted plan feeds (Feed k) late fits sized = (fits.0, omega (arith, fits.1, sized.0))
counted plan feeds (Actor a) late fits sized = omega (arith, fits, sized.1)

-- ---- a post that was taken has arrived

module _ (s : Serving) (sound : IsSound s) (target : ℕ) (source : Source) (post : Stamped) (rest : List Stamped) (in_plan : target < length s.plan.actors) (waits : waiting_in s source target ≡ post ∷ rest)
    (taken : Serving) (is : IsTaken s target source rest taken) (members : AreMembers s.plan s.limits (length s.feeds) taken.places taken.actors) (before : Held) (at : slice_get taken.actors target ≡ Some before) where
  state_before : before.state ≡ (system_in s).state target
  state_before = sym (ap (state_in (opening (length taken.feeds) (length taken.plan.actors))) at) ∙ is.state target

  pub may_arrive : SourceFits s.plan (length s.feeds) source → HasCount before.state.late source
  may_arrive fits = subst (λ (x : State). HasCount x.late source) (sym state_before) (counted s.plan (length s.feeds) source ((system_in s).state target).late fits (sized_state s.plan s.limits s.feeds (system_in s) sound.reached target))

  module _ (after : Held) (limits : taken.limits ≡ s.limits) (told : after.setting ≡ before.setting) (step : after.state ≡ (fair_step before.setting before.state source post.message post.stamp).0)
      (outbox : after.outbox ≡ posts_behind 0 (new_entries before.state after.state) before.outbox) (lent : after.lent ≡ before.lent) where
    abbrev arrived : Serving
    arrived = with_actors taken (slice_set taken.actors target after)

    at_next : system_in arrived ≡ next s sound.can sound.reached target source post rest in_plan waits
    at_next =
        let m = members.each target before at in
        moved_is s sound.can sound.reached target source post rest in_plan waits taken is before after at (slice_get_within taken.actors target before at) m.told m.outboxes step outbox

    pub arrives : SoundAt s (after_link s.plan s.limits (system_in s) (target, source)) arrived
    arrives =
        let reach : IsReached s.plan s.limits s.feeds (system_in arrived) = subst (IsReached s.plan s.limits s.feeds) (sym at_next) (next_reached s sound.can sound.reached target source post rest in_plan waits) in
        let all = members_set s.plan s.limits (length s.feeds) taken.places taken.actors members target before after at told (ap length outbox ∙ length_behind 0 (new_entries before.state after.state) before.outbox) (ap length lent) in
        record {
          sound = sound_of s arrived is.plan limits is.feeds sound.can all reach;
          stands = record { same_plan = is.plan; same_limits = limits; same_feeds = is.feeds; system_is = at_next ∙ sym (next_is s sound.can sound.reached target source post rest in_plan waits) };
        }

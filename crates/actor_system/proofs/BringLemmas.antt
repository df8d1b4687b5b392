-- The first post of a link is brought to its actor: what is left, and what is sound.
use Rattle.std.proofs.Common.{◌≡◌, ◌∙◌, ℕ, zero, suc, ◌<◌, List, [], ◌∷◌, length, drop, Bool, true, false, Option, None, Some, slice_get, slice_set, slice_index_or, refl, ap, sym, subst, arith}
use Rattle.std.proofs.lemmas.List.{length-set}
use Rattle.std.proofs.lemmas.Option.{slice_get_within}
use Rattle.join_base.specs.declared.message.Message.{Message}
use Rattle.join_base.specs.declared.message.Stamped.{Stamped}
use Rattle.join_base.specs.declared.message.Source.{Source}
use Rattle.join_base.specs.declared.message.Source.TheVariants.{Actor}
use Rattle.join_base.specs.Late.{HasCount}
use Rattle.fair_semantics.specs.Step.{Stepped, fair_step}
use Rattle.fair_semantics.specs.declared.run.Outcome.{Outcome}
use Rattle.fair_semantics.specs.Schedule.{taking}
use Rattle.actor_turn.specs.Held.{Held, first_of, new_entries, posts_behind, posts_for, with_first, without_first}
use Rattle.actor_system.specs.Serving.{Serving, StandsAt, after_link, is_some_post, or_same, posted_by, system_in, waiting_in, waits_on}
use Rattle.actor_system.specs.Inside.{AreMembers, IsSound}
use Rattle.actor_system.proofs.MoveLemmas.{IsTaken, posted_taken, with_actors}
use Rattle.actor_system.proofs.PlaceLemmas.{get_same}
use Rattle.actor_system.proofs.SoundLemmas.{SoundAt, arrives, get_at, lends, may_arrive, members_set, set_here, set_twice}

-- ---- lists

pub first_none : (posts : List Stamped) → first_of posts ≡ None → posts ≡ []
first_none [] e = refl
first_none (post ∷ posts) e = absurd cc

pub first_some : (posts : List Stamped) (post : Stamped) → first_of posts ≡ Some post → posts ≡ post ∷ drop 1 posts
first_some [] post e = absurd cc
first_some (p ∷ posts) post e = let same : p ≡ post = cc in ap (λ (x : Stamped). x ∷ posts) same

-- where nothing waits on a link, nothing happens
pub nothing_taken : (s : Serving) (target : ℕ) (source : Source) → waiting_in s source target ≡ [] → after_link s.plan s.limits (system_in s) (target, source) ≡ system_in s
nothing_taken s target source none = ap (λ (posts : List Stamped). or_same (system_in s) (taking s.plan s.limits (system_in s) target source posts)) none

module _ (s : Serving) (target : ℕ) (source : Source) where
  pub none_waits : waiting_in s source target ≡ [] → false ≡ waits_on (system_in s) (target, source)
  none_waits none = sym (ap is_some_post none)

  pub one_waits : (post : Stamped) (rest : List Stamped) → waiting_in s source target ≡ post ∷ rest → true ≡ waits_on (system_in s) (target, source)
  one_waits post rest some = sym (ap is_some_post some)

-- what a step leaves of an actor
pub record Arrived (before after : Held) (source : Source) (message : Message) (stamp : ℕ) (outcome : Outcome) : Type 0 where
  pub step : fair_step before.setting before.state source message stamp ≡ (after.state, outcome)
  pub setting : after.setting ≡ before.setting
  pub outbox : after.outbox ≡ posts_behind 0 (new_entries before.state after.state) before.outbox
  pub lent : after.lent ≡ before.lent

-- ---- from an actor

module _ (s : Serving) (sound : IsSound s) (target sender : ℕ) (in_plan : target < length s.plan.actors) (exists : sender < length s.plan.actors) (held : Held) (at : slice_get s.actors sender ≡ Some held) (left : Held)
    (took : left ≡ without_first held target (posts_for held.outbox target)) where
  abbrev posts : List Stamped
  posts = posts_for held.outbox target

  waits_are : waiting_in s (Actor sender) target ≡ posts
  waits_are = ap (λ (o : Option Held). posted_by o target) at

  pub has_outbox : target < length held.outbox
  has_outbox = let m = sound.members.each sender held at in omega (arith, m.outboxes)

  pub posted_none : first_of posts ≡ None → SoundAt s (after_link s.plan s.limits (system_in s) (target, Actor sender)) (with_actors s (slice_set s.actors sender left))
  posted_none none =
      let nothing : posts ≡ [] = first_none posts none in
      let same : left ≡ held = took ∙ ap (without_first held target) nothing in
      let is = lends s sound sender held left at (ap (λ (h : Held). h.setting) same) (ap (λ (h : Held). h.state) same) (ap (λ (h : Held). h.outbox) same) (ap (λ (h : Held). length h.lent) same) in
      record { sound = is.sound; stands = record { same_plan = refl; same_limits = refl; same_feeds = refl; system_is = is.stands.system_is ∙ sym (nothing_taken s target (Actor sender) (waits_are ∙ nothing)) } }

  pub posted_nothing : first_of posts ≡ None → false ≡ waits_on (system_in s) (target, Actor sender)
  posted_nothing none = none_waits s target (Actor sender) (waits_are ∙ first_none posts none)

  module _ (post : Stamped) (some : first_of posts ≡ Some post) where
    abbrev rest : List Stamped
    rest = drop 1 posts

    posts_are : posts ≡ post ∷ rest
    posts_are = first_some posts post some

    waits : waiting_in s (Actor sender) target ≡ post ∷ rest
    waits = waits_are ∙ posts_are

    pub posted_waits : true ≡ waits_on (system_in s) (target, Actor sender)
    posted_waits = one_waits s target (Actor sender) post rest waits

    left_is : left ≡ without_first held target (post ∷ rest)
    left_is = took ∙ ap (without_first held target) posts_are

    abbrev taken : Serving
    taken = with_actors s (slice_set s.actors sender left)

    is_taken : IsTaken s target (Actor sender) rest taken
    is_taken = subst (λ (h : Held). IsTaken s target (Actor sender) rest (with_actors s (slice_set s.actors sender h))) (sym left_is) (posted_taken s sender target held post rest at (slice_get_within s.actors sender held at) has_outbox)

    left_members : AreMembers s.plan s.limits (length s.feeds) s.places (slice_set s.actors sender left)
    left_members =
        members_set s.plan s.limits (length s.feeds) s.places s.actors sound.members sender held left at (ap (λ (h : Held). h.setting) left_is)
        (ap (λ (h : Held). length h.outbox) left_is ∙ length-set held.outbox target rest) (ap (λ (h : Held). length h.lent) left_is ∙ length-set held.lent target true)

    module _ (before : Held) (here : slice_get (slice_set s.actors sender left) target ≡ Some before) where
      pub posted_may : HasCount before.state.late (Actor sender)
      posted_may = may_arrive s sound target (Actor sender) post rest in_plan waits taken is_taken left_members before here exists

      pub posted_arrives : (after : Held) (outcome : Outcome) → Arrived before after (Actor sender) post.message post.stamp outcome
          → SoundAt s (after_link s.plan s.limits (system_in s) (target, Actor sender)) (with_actors s (slice_set (slice_set s.actors sender left) target after))
      posted_arrives after outcome a =
          arrives s sound target (Actor sender) post rest in_plan waits taken is_taken left_members before here after refl a.setting (sym (ap (λ (st : Stepped). st.0) a.step)) a.outbox a.lent

      -- a post that was refused is brought back
      module _ (after : Held) (same : after ≡ before) (found again : Held) (there : slice_get (slice_set (slice_set s.actors sender left) target after) sender ≡ Some found) where
        unchanged : slice_set (slice_set s.actors sender left) target after ≡ slice_set s.actors sender left
        unchanged = ap (slice_set (slice_set s.actors sender left) target) same ∙ set_here (slice_set s.actors sender left) target before here

        found_is : found ≡ left
        found_is = some_is (sym there ∙ ap (λ (hs : List Held). slice_get hs sender) unchanged ∙ get_same s.actors sender left (slice_get_within s.actors sender held at))
          where
            some_is : {x y : Held} → Some x ≡ Some y → x ≡ y
            some_is e = cc

        pub posted_place : target < length found.outbox
        posted_place = let count = ap (λ (h : Held). length h.outbox) (found_is ∙ left_is) ∙ length-set held.outbox target rest in omega (arith, count, has_outbox)

        pub posted_lent : slice_index_or found.lent target false ≡ true
        posted_lent =
            let m = sound.members.each sender held at in
            let l : target < length held.lent = omega (arith, m.lent) in
            ap (λ (h : Held). slice_index_or h.lent target false) (found_is ∙ left_is) ∙ lent_there held.lent target l
          where
            lent_there : (xs : List Bool) (k : ℕ) → k < length xs → slice_index_or (slice_set xs k true) k false ≡ true
            lent_there [] k l = absurd (omega arith)
            lent_there (x ∷ xs) zero l = refl
            lent_there (x ∷ xs) (suc k) l = lent_there xs k (omega arith)

        pub posted_back : again ≡ with_first found target post → SoundAt s (system_in s) (with_actors s (slice_set (slice_set (slice_set s.actors sender left) target after) sender again))
        posted_back returned =
            let again_is : again ≡ with_first (without_first held target (post ∷ rest)) target post = returned ∙ ap (λ (h : Held). with_first h target post) (found_is ∙ left_is) in
            let list : slice_set (slice_set (slice_set s.actors sender left) target after) sender again ≡ slice_set s.actors sender again = ap (λ (hs : List Held). slice_set hs sender again) unchanged ∙ set_twice s.actors sender left again in
            let boxes : again.outbox ≡ held.outbox =
            ap (λ (h : Held). h.outbox) again_is
            ∙ ap (λ (ps : List Stamped). slice_set (slice_set held.outbox target rest) target (post ∷ ps)) (posts_there held.outbox target rest has_outbox)
            ∙ set_twice held.outbox target rest (post ∷ rest) ∙ ap (slice_set held.outbox target) (sym posts_are) ∙ posts_same held.outbox target has_outbox in
            let lent : length again.lent ≡ length held.lent = ap (λ (h : Held). length h.lent) again_is ∙ length-set (slice_set held.lent target true) target false ∙ length-set held.lent target true in
            subst (λ (hs : List Held). SoundAt s (system_in s) (with_actors s hs)) (sym list)
            (lends s sound sender held again at (ap (λ (h : Held). h.setting) again_is) (ap (λ (h : Held). h.state) again_is) boxes lent)
          where
            posts_there : (box : List (List Stamped)) (k : ℕ) (ps : List Stamped) → k < length box → posts_for (slice_set box k ps) k ≡ ps
            posts_there [] k ps l = absurd (omega arith)
            posts_there (b ∷ box) zero ps l = refl
            posts_there (b ∷ box) (suc k) ps l = posts_there box k ps (omega arith)

            posts_same : (box : List (List Stamped)) (k : ℕ) → k < length box → slice_set box k (posts_for box k) ≡ box
            posts_same [] k l = absurd (omega arith)
            posts_same (b ∷ box) zero l = refl
            posts_same (b ∷ box) (suc k) l = ap (λ (bs : List (List Stamped)). b ∷ bs) (posts_same box k (omega arith))

-- ---- a serving that is seen by another name

pub in_plan_of : (s now : Serving) → s ≡ now → (k : ℕ) → k < length now.plan.actors → k < length s.plan.actors
in_plan_of s now is k l = subst (λ (v : Serving). k < length v.plan.actors) (sym is) l

pub member_at : (s : Serving) → IsSound s → (k : ℕ) → k < length s.plan.actors → (held : Held) → held ≡ slice_index_or s.actors k held → slice_get s.actors k ≡ Some held
member_at s sound k l held is = get_at s.actors k held (omega (arith, sound.members.count, l)) is

pub stands_of : (s now : Serving) → s ≡ now → (link : ℕ × Source) (after : Serving) → StandsAt s.plan s.limits s.feeds (after_link s.plan s.limits (system_in s) link) after → StandsAt now.plan now.limits now.feeds (after_link now.plan now.limits (system_in now) link) after
stands_of s now is link after h = subst (λ (v : Serving). StandsAt v.plan v.limits v.feeds (after_link v.plan v.limits (system_in v) link) after) is h

pub stays_of : (s now : Serving) → s ≡ now → (after : Serving) → StandsAt s.plan s.limits s.feeds (system_in s) after → StandsAt now.plan now.limits now.feeds (system_in now) after
stays_of s now is after h = subst (λ (v : Serving). StandsAt v.plan v.limits v.feeds (system_in v) after) is h

pub waits_of : (s now : Serving) → s ≡ now → (link : ℕ × Source) (b : Bool) → b ≡ waits_on (system_in s) link → b ≡ waits_on (system_in now) link
waits_of s now is link b h = h ∙ ap (λ (v : Serving). waits_on (system_in v) link) is

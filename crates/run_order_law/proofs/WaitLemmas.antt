-- In a linked run with stamps, each event finds its post waiting: the arrivals by their stamps, and then the rests.
use Rattle.std.proofs.Common.{◌≡◌, ◌∙◌, ◌⊎◌, inl, inr, ℕ, zero, suc, ◌<◌, List, ◌∷◌, ◌++◌, length, Bool, Option, None, Some, slice_get, refl, ap, sym, arith}
use Rattle.std.specs.Prelude.{if◌then◌else◌}
use Rattle.std.specs.List.{cons_option, flat_map}
use Rattle.std.proofs.lemmas.List.Elements.{filter_map-append}
use Rattle.std.proofs.lemmas.Grind.{flat_map-append}
use Rattle.join_base.specs.declared.message.Message.{Message}
use Rattle.join_base.specs.declared.message.Stamped.{Stamped}
use Rattle.join_base.specs.declared.message.Source.{Source}
use Rattle.join_base.specs.declared.message.Source.TheVariants.{Feed, Actor}
use Rattle.pattern_core.specs.Members.{IsIn}
use Rattle.pattern_core.proofs.MembersLemmas.{IsIn-flat_map_from}
use Rattle.script_types.specs.declared.plan.Plan.{Plan}
use Rattle.script_types.specs.Typed.{kind_types}
use Rattle.fair_semantics.specs.declared.run.Limits.{Limits}
use Rattle.fair_semantics.specs.declared.run.Entry.{Entry}
use Rattle.fair_semantics.specs.declared.run.ActorRun.{ActorRun}
use Rattle.fair_semantics.specs.declared.run.Run.{Run}
use Rattle.fair_semantics.specs.Step.{State, opening}
use Rattle.fair_semantics.specs.Fair.{Sent, after_all, fair_run, setting_of}
use Rattle.fair_semantics.specs.Linked.{arrived, entry_posts, firing_effects, given, in_version, posts_in, posts_of, sources, IsLinked}
use Rattle.fair_semantics.proofs.ChainLemmas.{Records}
use Rattle.fair_semantics.proofs.StampLemmas.{posted_stamp, recorded_given}
use Rattle.run_order_law.specs.Order.{rests_to}
use Rattle.run_order_law.proofs.EventLemmas.{Event, for_actor, if_from, made, sent_from, state_at}
use Rattle.run_order_law.proofs.GivenLemmas.{given_all}
use Rattle.run_order_law.proofs.SourceLemmas.{OneOf, contains_one, is_itself, itself}
use Rattle.run_order_law.proofs.OrderLemmas.{entries_in, had}
use Rattle.run_order_law.proofs.ListLemmas.{at_front, get_front, nothing_here}

-- what came from a source is not nothing behind a message of it
pub from_itself : (source : Source) (post : Stamped) (front behind : List Sent) → sent_from source (front ++ (source, post) ∷ behind) ≡ sent_from source front ++ post ∷ sent_from source behind
from_itself source post front behind =
    filter_map-append (if_from source) front ((source, post) ∷ behind)
    ∙ ap (λ (b : Bool). sent_from source front ++ cons_option (if b then Some post else None) (sent_from source behind)) (itself source)

pub for_itself : {X : Type 0} (actor : ℕ) (x : X) (xs : List (ℕ × X)) → for_actor actor ((actor, x) ∷ xs) ≡ x ∷ for_actor actor xs
for_itself actor x xs = ap (λ (b : Bool). cons_option (if b then Some x else None) (for_actor actor xs)) (is_itself actor)

pub posts_from : (actor : ℕ) (o : Option ActorRun) → posts_in actor o ≡ flat_map (entry_posts actor) (entries_in o)
posts_from actor None = refl
posts_from actor (Some own) = refl

module _ (plan : Plan) (limits : Limits) (feeds : List (List (ℕ × Message))) (run : Run) (linked : IsLinked plan limits feeds run) (version : run.version ≡ 2) where
  abbrev pub posts : ℕ → Source → List Stamped
  posts actor source = posts_of feeds run.actors source actor

  abbrev pub entries : ℕ → List Entry
  entries actor = entries_in (slice_get run.actors actor)

  -- what an actor was given: its arrivals, and then the rests
  abbrev pub given_by_run : ℕ → Option ActorRun → List Sent
  given_by_run actor o = arrived (posts actor) (entries_in o) ++ had (rests_to plan feeds run) actor o

  abbrev pub given_to : ℕ → List Sent
  given_to actor = given_by_run actor (slice_get run.actors actor)

  abbrev pub at_opening : State
  at_opening = opening (length feeds) (length plan.actors)

  pub own_is : (actor : ℕ) (own : ActorRun) → slice_get run.actors actor ≡ Some own → own ≡ fair_run plan actor limits (length feeds) (given plan feeds run actor own.entries)
  own_is actor own e =
      let sent : List Sent = given plan feeds run actor own.entries in
      (linked.each actor own e).fair ∙ ap (λ (v : ℕ). in_version v (fair_run plan actor limits run.feeds sent)) version ∙ ap (λ (n : ℕ). fair_run plan actor limits n sent) linked.feed_count

  pub final_entries : (actor : ℕ) → (after_all (setting_of plan actor limits) at_opening (given_to actor)).entries ≡ entries actor
  final_entries actor = by (slice_get run.actors actor) refl
    where
      by : (o : Option ActorRun) → slice_get run.actors actor ≡ o → (after_all (setting_of plan actor limits) at_opening (given_by_run actor o)).entries ≡ entries_in o
      by None e = refl
      by (Some own) e = ap (λ (r : ActorRun). r.entries) (sym (own_is actor own e))

  pub records : (actor : ℕ) → Records 0 (given_to actor) (entries actor)
  records actor = by (slice_get run.actors actor) refl
    where
      by : (o : Option ActorRun) → slice_get run.actors actor ≡ o → Records 0 (given_by_run actor o) (entries_in o)
      by None e = tt
      by (Some own) e = recorded_given plan limits feeds run actor own (linked.each actor own e) version

  -- what an actor was given next from a source is the next of its posts
  pub next_post : (actor : ℕ) (front behind : List Sent) (source : Source) (post : Stamped) → OneOf source (sources run.feeds (length plan.actors)) → given_to actor ≡ front ++ (source, post) ∷ behind
      → slice_get (posts actor source) (length (sent_from source front)) ≡ Some post
  next_post actor front behind source post one given_is = by (slice_get run.actors actor) refl given_is
    where
      by : (o : Option ActorRun) → slice_get run.actors actor ≡ o → given_by_run actor o ≡ front ++ (source, post) ∷ behind → slice_get (posts actor source) (length (sent_from source front)) ≡ Some post
      by None e g = absurd (nothing_here front (source, post) behind g)
      by (Some own) e g =
          let all = given_all (posts actor) own.entries source (kind_types plan.kinds) (sources run.feeds (length plan.actors)) one ((linked.each actor own e).in_order source (contains_one source (sources run.feeds (length plan.actors)) one)) in
          let is : posts actor source ≡ sent_from source front ++ post ∷ sent_from source behind = sym all ∙ ap (sent_from source) g ∙ from_itself source post front behind in
          ap (λ (ps : List Stamped). slice_get ps (length (sent_from source front))) is ∙ at_front (sent_from source front) post (sent_from source behind)

  -- the entries that an actor has not recorded yet, of which each has a greater stamp than this one
  pub record Behind (before : List Event) (stamp : ℕ) (actor : ℕ) : Type 0 where
    pub later : List Entry
    pub all : entries actor ≡ (state_at plan limits feeds before actor).entries ++ later
    pub greater : (e : Entry) → IsIn e later → stamp < e.stamp

  -- a post whose stamp is smaller than those of all later entries is made
  pub is_made : (before : List Event) (actor : ℕ) (source : Source) (k : ℕ) (post : Stamped) → ((other : ℕ) → Behind before post.stamp other) → slice_get (posts actor source) k ≡ Some post → slice_get (made plan limits feeds before source actor) k ≡ Some post
  is_made before actor (Feed zero) k post behind e = e
  is_made before actor (Feed (suc n)) k post behind e = e
  is_made before actor (Actor b) k post behind e =
      let later = behind b in
      let so_far : List Stamped = flat_map (entry_posts actor) (state_at plan limits feeds before b).entries in
      let split : posts actor (Actor b) ≡ so_far ++ flat_map (entry_posts actor) later.later =
      posts_from actor (slice_get run.actors b) ∙ ap (λ (es : List Entry). flat_map (entry_posts actor) es) later.all ∙ flat_map-append (entry_posts actor) (state_at plan limits feeds before b).entries later.later in
      by (get_front so_far (flat_map (entry_posts actor) later.later) k post (ap (λ (ps : List Stamped). slice_get ps k) (sym split) ∙ e)) later
    where
      by : (slice_get (flat_map (entry_posts actor) (state_at plan limits feeds before b).entries) k ≡ Some post) ⊎ IsIn post (flat_map (entry_posts actor) (behind b).later) → Behind before post.stamp b
          → slice_get (flat_map (entry_posts actor) (state_at plan limits feeds before b).entries) k ≡ Some post
      by (inl is) later = is
      by (inr i) later =
          let from = IsIn-flat_map_from (entry_posts actor) post (behind b).later i in
          let same = posted_stamp actor from.0.stamp (firing_effects from.0.firing) post from.2 in
          let more = (behind b).greater from.0 from.1 in
          absurd (omega arith)

-- From drained actors to actors that can be given anything, and from actors with no post in an outbox to the run that
-- they show.
use Rattle.std.proofs.Common.{◌≡◌, ◌∙◌, ◌⊎◌, inl, inr, ℕ, zero, suc, ◌+◌, ◌<◌, ◌≤◌, List, [], ◌∷◌, ◌++◌, length, map, Bool, true, false, Option, None, Some, slice_get, refl, ap, sym, subst, arith}
use Rattle.std.specs.Prelude.{◌==◌, if◌then◌else◌, nat_lt}
use Rattle.std.specs.List.{AllByRecursion, flat_map, sum_by}
use Rattle.std.proofs.lemmas.List.Sums.{sum_by-append, sum_by-cons}
use Rattle.std.proofs.lemmas.Bool.{cases_lt}
use Rattle.std.proofs.lemmas.Bool.Decides.{nat_tests}
use Rattle.std.proofs.lemmas.List.{append-nil, length-map}
use Rattle.std.proofs.lemmas.Option.{slice_get_past, slice_get_within}
use mathlib.Core.List.{IsPrefix}
use Rattle.join_base.specs.Late.{late_list}
use Rattle.join_base.specs.declared.message.Message.{Message}
use Rattle.join_base.specs.declared.message.Source.{Source}
use Rattle.join_base.specs.declared.message.Source.TheVariants.{Feed, Actor}
use Rattle.join_base.specs.declared.message.Stamped.{Stamped}
use Rattle.script_types.specs.declared.plan.Plan.{Plan}
use Rattle.script_types.specs.declared.plan.Rule.{Rule}
use Rattle.script_types.specs.Typed.{IsTyped}
use Rattle.fair_semantics.specs.declared.run.ActorRun.{ActorRun}
use Rattle.fair_semantics.specs.declared.run.Limits.{Limits}
use Rattle.fair_semantics.specs.declared.run.Run.{Run}
use Rattle.fair_semantics.specs.Step.{Setting, State, opening}
use Rattle.fair_semantics.specs.Fair.{after_all, run_of, setting_of}
use Rattle.fair_semantics.specs.Fits.{IsFrom1To, SourceFits}
use Rattle.fair_semantics.specs.Linked.{IsLinked, arrived, entry_posts, feed_posts, given_by, numbers_from, posts_in, posts_of, sources}
use Rattle.fair_semantics.specs.Schedule.{System}
use Rattle.fair_semantics.proofs.ListLemmas.{mapped_at}
use Rattle.run_fit_law.specs.FitsLaw.{RulesFit}
use Rattle.run_order_law.specs.Order.{shown}
use Rattle.run_order_law.proofs.EventLemmas.{same_number}
use Rattle.run_order_law.proofs.LawLemmas.{runs_are_schedules}
use Rattle.schedule_law.specs.Given.{AreFair, IsFairOf, sent_by}
use Rattle.schedule_law.specs.Reached.{IsServable, NothingWaits}
use Rattle.schedule_law.proofs.FairLemmas.{fair_is_linked}
use Rattle.schedule_law.proofs.WorkLemmas.{small_rules}
use Rattle.actor_turn.specs.Held.{AreLimits, Held}
use Rattle.cell_links.specs.declared.feed_links.FeedLinks.{FeedLinks}
use Rattle.cell_links.specs.Ends.{sent_to}
use Rattle.actor_cells.specs.declared.cell.Cell.{Cell}
use Rattle.actor_cells.specs.History.{bare}
use Rattle.actor_cells.specs.Lawful.{IsAmong, cell_tag, held_in, history_of}
use Rattle.actor_cells.proofs.CellLemmas.{prefix-trans}
use Rattle.actor_cells.proofs.HistoryLemmas.{bare-arrived, prefix-bare}
use Rattle.actor_cells.specs.Tags.{AreTagsOf, IsTagOf}
use Rattle.settling_law.specs.Settled.{cell_sent, poster_sent, went}
use Rattle.pool_settling.specs.Standing.{actor_count, feed_count}
use Rattle.pool_settling.specs.Drained.{AreDrained}
use Rattle.pool_settling.specs.Ends.{GoOn}
use Rattle.pool_settling.specs.Rounds.{AreMembers, BringsPosts, HaveFeeds, IsFedRest, OutboxIsEmpty, StandFed, fed_rest, run_in}
use Rattle.pool_settling.specs.Settling.{AreFeedsWith, GoesOnFrom, IsLinkedToAll, IsScheduledOverAll, TakesFew, given_by_run, given_in}
use Rattle.pool_settling.specs.Flat.{actors_in}
use Rattle.pool_settling.specs.Work.{HaveSmallBodies, all_given, all_weight, all_work, given_of, weight_of, work_of}
use Rattle.pool_settling.proofs.EndLemmas.{go_trans}
use Rattle.pool_settling.proofs.StartLemmas.{map_get}
use Rattle.pool_settling.proofs.BringLemmas.{stands_to, there}

-- ---- lists

none_past : {X : Type 0} (xs : List X) (k : ℕ) → slice_get xs k ≡ None → length xs ≤ k
none_past [] k e = omega arith
none_past (x ∷ xs) zero e = absurd cc
none_past (x ∷ xs) (suc k) e = let later = none_past xs k e in omega (arith, later)

-- ---- the actors of a plan

-- an actor for each of the plan, with so many feeds
pub record AreOf (plan : Plan) (limits : Limits) (feeds : ℕ) (helds : List Held) : Type 0 where
  pub count : length helds ≡ length plan.actors
  pub setting : (actor : ℕ) (held : Held) → slice_get helds actor ≡ Some held → held.setting ≡ setting_of plan actor limits
  pub feed_counts : (actor : ℕ) (held : Held) → slice_get helds actor ≡ Some held → feed_count held ≡ feeds
  pub actor_counts : (actor : ℕ) (held : Held) → slice_get helds actor ≡ Some held → actor_count held ≡ length plan.actors

pub of_on : (plan : Plan) (limits : Limits) (feeds : ℕ) (olds nows : List Held) → AreOf plan limits feeds olds → GoOn olds nows → AreOf plan limits feeds nows
of_on plan limits feeds olds nows are on = record {
  count = on.count ∙ are.count;
  setting = λ actor held is. let w = was actor held is in (on.each actor w.0 held w.1 is).told ∙ are.setting actor w.0 w.1;
  feed_counts = λ actor held is. let w = was actor held is in (on.each actor w.0 held w.1 is).feeds ∙ are.feed_counts actor w.0 w.1;
  actor_counts = λ actor held is. let w = was actor held is in (on.each actor w.0 held w.1 is).actors ∙ are.actor_counts actor w.0 w.1;
}
  where
    was : (actor : ℕ) (held : Held) → slice_get nows actor ≡ Some held → (x : Held) × (slice_get olds actor ≡ Some x)
    was actor held is = let l = slice_get_within nows actor held is in let n = on.count in there olds actor (omega (arith, l, n))

-- ---- drained actors

module _ (plan : Plan) (limits : Limits) (posters : List FeedLinks) (cells : List Cell) (helds : List Held) (tags : AreTagsOf plan limits (length posters) (map cell_tag cells)) (drained : AreDrained posters cells helds) where
  cell_count : length cells ≡ length plan.actors
  cell_count = sym (length-map cells cell_tag) ∙ tags.count

  cell_of : (actor : ℕ) (held : Held) → slice_get helds actor ≡ Some held → (c : Cell) × (slice_get cells actor ≡ Some c)
  cell_of actor held is = let l = slice_get_within helds actor held is in let n = drained.count in there cells actor (omega (arith, l, n))

  tag_of : (actor : ℕ) (c : Cell) → slice_get cells actor ≡ Some c → IsTagOf plan limits (length posters) actor (cell_tag c)
  tag_of actor c at = tags.each actor (cell_tag c) (map_get cell_tag cells actor c at)

  pub drained_of : AreOf plan limits (length posters) helds
  drained_of = record {
    count = drained.count ∙ cell_count;
    setting = λ actor held is.
        let c = cell_of actor held is in
        let tag = tag_of actor c.0 c.1 in
        (drained.each actor c.0 held c.1 is).on.told ∙ (λ i. record { sorts = tag.sorts i; rules = tag.rules i; limits = tag.same_limits i });
    feed_counts = λ actor held is. let c = cell_of actor held is in (drained.each actor c.0 held c.1 is).on.feeds ∙ (tag_of actor c.0 c.1).feed_count;
    actor_counts = λ actor held is. let c = cell_of actor held is in (drained.each actor c.0 held c.1 is).on.actors ∙ (tag_of actor c.0 c.1).actor_count;
  }

  pub drained_members : IsTyped plan → AreMembers helds
  drained_members typed actor held is =
      let c = cell_of actor held is in
      let count = drained_of.actor_counts actor held is in
      record {
        outboxes = (drained.each actor c.0 held c.1 is).stands.outboxes ∙ count ∙ sym drained_of.count;
        known = count ∙ sym drained_of.count;
        small = subst (λ (s : Setting). AllByRecursion (λ (rule : Rule). length rule.body ≤ 16) s.rules) (sym (drained_of.setting actor held is)) (small_rules plan limits actor typed);
      }

  pub drained_feeds : (feeds : ℕ) → feeds ≤ length posters → HaveFeeds feeds helds
  drained_feeds feeds l actor held is = let same = drained_of.feed_counts actor held is in omega (arith, same, l)

  -- what came from feeds is what their posters sent
  pub drained_fed : StandFed (λ actor feed. went posters cells (Feed feed) actor) helds
  drained_fed = record {
    came = λ actor source. went posters cells source actor;
    from_feeds = λ actor feed l. refl;
    stand = λ actor held is.
        let c = cell_of actor held is in
        stands_to (λ source. went posters cells source actor) (λ source. went posters cells source actor) (sent_to c.0.outward.items) (λ target. went posters cells (Actor actor) target) held (λ source. refl)
        (λ target. ap (λ (o : Option Cell). cell_sent o target) c.1) (drained.each actor c.0 held c.1 is).stands;
  }

-- ---- actors with no post in an outbox

is_among : (plan : Plan) (feeds actors : ℕ) (source : Source) → actors ≡ length plan.actors → IsAmong feeds actors source → SourceFits plan feeds source
is_among plan feeds actors (Feed k) e h = h
is_among plan feeds actors (Actor a) e h = omega (arith, e, h)

abbrev state_of : State → Option Held → State
state_of start None = start
state_of start (Some held) = held.state

module _ (plan : Plan) (limits : Limits) (feeds : List (List (ℕ × Message))) (fed : ℕ → ℕ → List Stamped) (helds : List Held) (are : AreOf plan limits (length feeds) helds) (s : StandFed fed helds)
    (none : (sender : ℕ) → sender < length helds → OutboxIsEmpty helds sender) (no_feed : (actor : ℕ) → fed actor 0 ≡ []) (all_fed : (k actor : ℕ) → actor < length plan.actors → fed actor (suc k) ≡ feed_posts actor (slice_get feeds k)) where
  abbrev start : State
  start = opening (length feeds) (length plan.actors)

  abbrev states : ℕ → State
  states actor = state_of start (slice_get helds actor)

  abbrev came : ℕ → Source → List Stamped
  came actor source = if nat_lt actor (length plan.actors) then s.came actor source else []

  -- nothing waits for actors of the plan, and for others all that was sent
  abbrev system : System
  system = record { state = states; waiting = λ source actor. if nat_lt actor (length plan.actors) then [] else sent_by feeds record { state = states; waiting = λ t a. [] } source actor }

  yes : (actor : ℕ) → actor < length plan.actors → nat_lt actor (length plan.actors) ≡ true
  yes actor l = grind (arith, nat_tests)

  no : (actor : ℕ) → length plan.actors ≤ actor → nat_lt actor (length plan.actors) ≡ false
  no actor l = grind (arith, nat_tests)

  nothing : NothingWaits plan system
  nothing source actor l = ap (λ (b : Bool). if b then [] else sent_by feeds record { state = states; waiting = λ t a. [] } source actor) (yes actor l)

  came_inside : (actor : ℕ) → actor < length plan.actors → (source : Source) → came actor source ≡ s.came actor source
  came_inside actor l source = ap (λ (b : Bool). if b then s.came actor source else []) (yes actor l)

  held_at : (actor : ℕ) → actor < length plan.actors → (held : Held) × (slice_get helds actor ≡ Some held)
  held_at actor l = there helds actor (subst (λ (n : ℕ). actor < n) (sym are.count) l)

  module _ (actor : ℕ) (held : Held) (at : slice_get helds actor ≡ Some held) where
    fair_held : IsFairOf plan limits (length feeds) actor (s.came actor) held.state
    fair_held =
        let st = s.stand actor held at in
        let setting = are.setting actor held at in
        let f = are.feed_counts actor held at in
        let a = are.actor_counts actor held at in
        record {
          known = λ source. by source (st.known source);
          in_order = st.in_order;
          is_fair = st.fair ∙ (λ i. after_all (setting i) (opening (f i) (a i)) (given_by (setting i).sorts (sources (f i) (a i)) (s.came actor) held.state.entries));
        }
      where
        by : (source : Source) → (s.came actor source ≡ []) ⊎ IsAmong (feed_count held) (actor_count held) source → (s.came actor source ≡ []) ⊎ SourceFits plan (length feeds) source
        by source (inl e) = inl e
        by source (inr k) = inr (subst (λ (n : ℕ). SourceFits plan n source) (are.feed_counts actor held at) (is_among plan (feed_count held) (actor_count held) source (are.actor_counts actor held at) k))

  fair_at : (actor : ℕ) → actor < length plan.actors → IsFairOf plan limits (length feeds) actor (came actor) (states actor)
  fair_at actor l =
      let h = held_at actor l in
      subst (λ (x : (Source → List Stamped) × State). IsFairOf plan limits (length feeds) actor x.0 x.1) (λ i. (λ source. sym (came_inside actor l source) i, sym (ap (state_of start) h.1) i)) (fair_held actor h.0 h.1)

  -- all that an actor posted came to its target
  posted_all : (a actor : ℕ) → actor < length plan.actors → s.came actor (Actor a) ≡ flat_map (entry_posts actor) (states a).entries
  posted_all a actor l = by (slice_get helds a) refl
    where
      by : (o : Option Held) → slice_get helds a ≡ o → s.came actor (Actor a) ≡ flat_map (entry_posts actor) (state_of start o).entries
      by None e =
          let h = held_at actor l in
          let past = none_past helds a e in
          elim ((s.stand actor h.0 h.1).known (Actor a)) [
            | inl e ↦ e
            | inr k ↦ absurd (omega (arith, k, past, are.count, are.actor_counts actor h.0 h.1))
          ]
      by (Some held) e =
          sym (append-nil (s.came actor (Actor a))) ∙ ap (λ (posts : List Stamped). s.came actor (Actor a) ++ posts) (sym (none a (slice_get_within helds a held e) actor (subst (λ (n : ℕ). actor < n) (sym are.count) l) held e))
          ∙ (s.stand a held e).posted actor (subst (λ (n : ℕ). actor < n) (sym (are.actor_counts a held e)) l)

  came_all : (source : Source) (actor : ℕ) → actor < length plan.actors → s.came actor source ≡ sent_by feeds system source actor
  came_all (Feed zero) actor l = s.from_feeds actor 0 (subst (λ (n : ℕ). actor < n) (sym are.count) l) ∙ no_feed actor
  came_all (Feed (suc k)) actor l = s.from_feeds actor (suc k) (subst (λ (n : ℕ). actor < n) (sym are.count) l) ∙ all_fed k actor l
  came_all (Actor a) actor l = posted_all a actor l

  -- it is what the run shows that the sources sent
  pub came_shown : (actor : ℕ) → actor < length plan.actors → (source : Source) → s.came actor source ≡ posts_of feeds (map run_in helds) source actor
  came_shown actor l (Feed zero) = came_all (Feed zero) actor l
  came_shown actor l (Feed (suc k)) = came_all (Feed (suc k)) actor l
  came_shown actor l (Actor a) = posted_all a actor l ∙ by (slice_get helds a) refl
    where
      by : (o : Option Held) → slice_get helds a ≡ o → flat_map (entry_posts actor) (states a).entries ≡ posts_in actor (slice_get (map run_in helds) a)
      by None e =
          let past = none_past helds a e in
          let count = length-map helds run_in in
          ap (λ (o : Option Held). flat_map (entry_posts actor) (state_of start o).entries) e ∙ ap (posts_in actor) (sym (slice_get_past (map run_in helds) a (omega (arith, past, count))))
      by (Some held) e = ap (λ (o : Option Held). flat_map (entry_posts actor) (state_of start o).entries) e ∙ ap (posts_in actor) (sym (map_get run_in helds a held e))

  links : (source : Source) (actor : ℕ) → came actor source ++ system.waiting source actor ≡ sent_by feeds system source actor
  links source actor =
      elim (cases_lt actor (length plan.actors)) [
        | inl l ↦ ap (λ (posts : List Stamped). came actor source ++ posts) (nothing source actor l) ∙ append-nil (came actor source) ∙ came_inside actor l source ∙ came_all source actor l
        | inr past ↦
            (λ i. (if no actor past i then s.came actor source else []) ++ (if no actor past i then [] else sent_by feeds record { state = states; waiting = λ t a. [] } source actor)) ∙ same source
      ]
    where
      same : (source : Source) → sent_by feeds record { state = states; waiting = λ t a. [] } source actor ≡ sent_by feeds system source actor
      same (Feed zero) = refl
      same (Feed (suc k)) = refl
      same (Actor a) = refl

  are_fair : AreFair plan limits feeds came system
  are_fair = record {
    each = fair_at;
    others = λ actor past. (ap (state_of start) (slice_get_past helds actor (omega (arith, past, are.count))), λ source. ap (λ (b : Bool). if b then s.came actor source else []) (no actor past));
    links = links;
  }

  -- ---- the run

  each_run : (f : ℕ → ActorRun) (from : ℕ) (hs : List Held) → ((k : ℕ) (held : Held) → slice_get hs k ≡ Some held → f (from + k) ≡ run_in held) → map f (numbers_from from (length hs)) ≡ map run_in hs
  each_run f from [] h = refl
  each_run f from (held ∷ hs) h =
      let e : from ≡ from + 0 = omega arith in
      let first : f from ≡ run_in held = ap f e ∙ h 0 held refl in
      let later = each_run f (from + 1) hs (λ k c is. let n : from + 1 + k ≡ from + suc k = omega arith in ap f n ∙ h (suc k) c is) in
      λ i. first i ∷ later i

  abbrev run_here : Run
  run_here = record { version = 2; limits = limits; feeds = length feeds; actors = map run_in helds }

  shown_is : shown plan limits feeds system ≡ run_here
  shown_is =
      let f : ℕ → ActorRun = λ actor. run_of (setting_of plan actor limits).rules (states actor) in
      let runs : map f (numbers_from 0 (length plan.actors)) ≡ map run_in helds =
      ap (λ (n : ℕ). map f (numbers_from 0 n)) (sym are.count) ∙ each_run f 0 helds (λ k held is. let e : 0 + k ≡ k = omega arith in ap f e ∙ one k held is) in
      λ i. record { version = 2; limits = limits; feeds = length feeds; actors = runs i }
    where
      one : (k : ℕ) (held : Held) → slice_get helds k ≡ Some held → run_of (setting_of plan k limits).rules (states k) ≡ run_in held
      one k held is = (λ i. run_of (sym (are.setting k held is) i).rules (state_of start (is i)))

  pub fed_linked : IsServable plan limits feeds → IsLinked plan limits feeds run_here
  fed_linked can = subst (IsLinked plan limits feeds) shown_is (fair_is_linked plan limits feeds came system system [] can are_fair tt refl nothing)

-- ---- what was given

weight_parts : (helds : List Held) → all_weight helds ≡ all_given helds + all_work helds
weight_parts [] = refl
weight_parts (h ∷ helds) =
    let later = weight_parts helds in
    let a = sum_by-cons weight_of h helds in
    let b = sum_by-cons given_of h helds in
    let c = sum_by-cons work_of h helds in
    omega (arith, later, a, b, c)

-- the late counts that a run shows are those above 0
shown_late : (source : ℕ → Source) (from : ℕ) (counts : List ℕ) → sum_by (λ (late : Source × ℕ). late.1) (late_list source from counts) ≡ sum_by (λ (n : ℕ). n) counts
shown_late source from [] = refl
shown_late source from (n ∷ counts) = by (n == 0) refl (shown_late source (from + 1) counts)
  where
    by : (b : Bool) → (n == 0) ≡ b → sum_by (λ (late : Source × ℕ). late.1) (late_list source (from + 1) counts) ≡ sum_by (λ (m : ℕ). m) counts → sum_by (λ (late : Source × ℕ). late.1) (if b then late_list source (from + 1) counts else (source from, n) ∷ late_list source (from + 1) counts) ≡ sum_by (λ (m : ℕ). m) (n ∷ counts)
    by true e later =
        let none : n ≡ 0 = same_number n 0 e in
        let a = sum_by-cons (λ (m : ℕ). m) n counts in
        omega (arith, none, later, a)
    by false e later =
        let a = sum_by-cons (λ (m : ℕ). m) n counts in
        let b = sum_by-cons (λ (late : Source × ℕ). late.1) (source from, n) (late_list source (from + 1) counts) in
        omega (arith, later, a, b)

run_given : (held : Held) → given_by_run (run_in held) ≡ given_of held
run_given held =
    let feeds = shown_late (λ k. Feed k) 1 held.state.late.feeds in
    let actors = shown_late (λ a. Actor a) 0 held.state.late.actors in
    let parts = sum_by-append (λ (late : Source × ℕ). late.1) (late_list (λ k. Feed k) 1 held.state.late.feeds) (late_list (λ a. Actor a) 0 held.state.late.actors) in
    omega (arith, feeds, actors, parts)

runs_given : (helds : List Held) → sum_by given_by_run (map run_in helds) ≡ all_given helds
runs_given [] = refl
runs_given (h ∷ helds) =
    let here = run_given h in
    let later = runs_given helds in
    let a = sum_by-cons given_by_run (run_in h) (map run_in helds) in
    let b = sum_by-cons given_of h helds in
    omega (arith, here, later, a, b)

-- ---- from drained actors to the run

module _ (plan : Plan) (limits : Limits) (posters : List FeedLinks) (cells : List Cell) (rest : List (List (ℕ × Message))) (typed : IsTyped plan) (limited : AreLimits limits) (rules : (actor : ℕ) → actor < length plan.actors → RulesFit plan limits actor)
    (count : IsFrom1To 16 (length posters)) (few : length rest ≤ length posters) (tags : AreTagsOf plan limits (length posters) (map cell_tag cells)) (first second third : List Held) (drained : AreDrained posters cells first) (fed : IsFedRest rest first second)
    (second_on : GoOn first second) (brought : BringsPosts second third) (none : (sender : ℕ) → sender < length third → OutboxIsEmpty third sender) (run : Run) (is : run ≡ record { version = 2; limits = limits; feeds = length posters; actors = map run_in third }) where
  on : GoOn first third
  on = go_trans first second third second_on brought.on

  abbrev all : ℕ → ℕ → List Stamped
  all = fed_rest rest (λ actor feed. went posters cells (Feed feed) actor)

  stands : StandFed all third
  stands = brought.fed all (fed (λ actor feed. went posters cells (Feed feed) actor) (drained_fed plan limits posters cells first tags drained))

  are : (feeds : List (List (ℕ × Message))) → AreFeedsWith plan posters rest feeds → AreOf plan limits (length feeds) third
  are feeds these = of_on plan limits (length feeds) first third (subst (λ (n : ℕ). AreOf plan limits n first) (sym these.count) (drained_of plan limits posters cells first tags drained)) on

  each_fed : (feeds : List (List (ℕ × Message))) → AreFeedsWith plan posters rest feeds → (k actor : ℕ) → actor < length plan.actors → all actor (suc k) ≡ feed_posts actor (slice_get feeds k)
  each_fed feeds these k actor l = by (slice_get posters k) refl
    where
      by : (o : Option FeedLinks) → slice_get posters k ≡ o → poster_sent o actor ++ feed_posts actor (slice_get rest k) ≡ feed_posts actor (slice_get feeds k)
      by (Some poster) e = sym (these.each k actor poster l e)
      by None e =
          let past = none_past posters k e in
          ap (feed_posts actor) (slice_get_past rest k (omega (arith, past, few))) ∙ sym (ap (feed_posts actor) (slice_get_past feeds k (omega (arith, past, these.count))))

  pub run_linked : IsLinkedToAll plan limits posters rest run
  run_linked feeds these =
      let can : IsServable plan limits feeds = record {
        typed = typed;
        rules = rules;
        limited = record { arrivals = limited.arrivals; partials = limited.partials };
        count = subst (λ (n : ℕ). IsFrom1To 16 n) (sym these.count) count;
        values = these.values;
      } in
      subst (IsLinked plan limits feeds) (sym (is ∙ ap (λ (n : ℕ). record { version = 2; limits = limits; feeds = n; actors = map run_in third }) (sym these.count)))
      (fed_linked plan limits feeds all third (are feeds these) stands none (λ actor. refl) (each_fed feeds these) can)

  pub run_scheduled : IsScheduledOverAll plan limits posters rest run
  run_scheduled feeds these = runs_are_schedules plan limits feeds run (run_linked feeds these) (ap (λ (r : Run). r.version) is)

  cell_small : HaveSmallBodies (actors_in cells)
  cell_small actor held is =
      let m = mapped_at held_in cells actor held is in
      let tag = tag_of plan limits posters cells first tags drained actor m.0 m.1 in
      subst (λ (h : Held). AllByRecursion (λ (rule : Rule). length rule.body ≤ 16) h.setting.rules) m.2
      (subst (λ (rs : List Rule). AllByRecursion (λ (rule : Rule). length rule.body ≤ 16) rs) (sym tag.rules) (small_rules plan limits actor typed))

  pub run_few : all_weight second ≤ all_weight first + sum_by length rest → TakesFew posters cells rest run
  run_few second_weight =
      let first_weight = drained.weight cell_small in
      let third_weight = brought.weight in
      let start = weight_parts (actors_in cells) in
      let end = weight_parts third in
      let given : given_in run ≡ all_given third = ap (λ (r : Run). given_in r) is ∙ runs_given third in
      omega (arith, first_weight, second_weight, third_weight, start, end, given)

  -- the history of a cell begins what came to its actor
  from_cell : (actor : ℕ) (cell : Cell) (own : ActorRun) → slice_get cells actor ≡ Some cell → slice_get run.actors actor ≡ Some own → IsPrefix (history_of cell) (arrived (stands.came actor) own.entries)
  from_cell actor cell own at mine =
      let m = mapped_at run_in third actor own (ap (λ (r : Run). slice_get r.actors actor) (sym is) ∙ mine) in
      let h = there first actor (let l = slice_get_within third actor m.0 m.1 in let n = on.count in omega (arith, l, n)) in
      let goes_on = prefix-trans (history_of cell) h.0.history m.0.history (drained.each actor cell h.0 at h.1).on.history (on.each actor h.0 m.0 h.1 m.1).history in
      subst (λ (r : ActorRun). IsPrefix (history_of cell) (arrived (stands.came actor) r.entries)) m.2 (subst (IsPrefix (history_of cell)) (stands.stand actor m.0 m.1).history goes_on)

  run_count : length run.actors ≡ length third
  run_count = ap (λ (r : Run). length r.actors) is ∙ length-map third run_in

  pub run_from : GoesOnFrom plan posters rest cells run
  run_from = record {
    count = run_count ∙ on.count ∙ drained.count;
    arrivals = λ actor cell own at mine. subst (IsPrefix (map bare (history_of cell))) (bare-arrived (stands.came actor) own.entries) (prefix-bare (history_of cell) (arrived (stands.came actor) own.entries) (from_cell actor cell own at mine));
    history = λ feeds these actor cell own at mine.
        let count = run_count ∙ (are feeds these).count in
        let within : actor < length plan.actors = (let l = slice_get_within run.actors actor own mine in omega (arith, l, count)) in
        let shows : (source : Source) → stands.came actor source ≡ posts_of feeds run.actors source actor =
        λ source. came_shown plan limits feeds all third (are feeds these) stands none (λ a. refl) (each_fed feeds these) actor within source ∙ ap (λ (r : Run). posts_of feeds r.actors source actor) (sym is) in
        subst (λ (posts : Source → List Stamped). IsPrefix (history_of cell) (arrived posts own.entries)) (λ i source. shows source i) (from_cell actor cell own at mine);
  }

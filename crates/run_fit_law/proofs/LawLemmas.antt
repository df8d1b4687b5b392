-- From a sound state to the run that it shows, and from the runs of the actors to the whole run.
use Rattle.std.proofs.Common.{◌≡◌, ◌∙◌, ℕ, ◌^◌, ◌<◌, ◌≤◌, List, [], ◌∷◌, length, map, Bool, true, false, Option, None, Some, inl, refl, ap, sym, subst, arith, slice_get}
use Rattle.std.specs.Prelude.{◌==◌, ◌||◌, if◌then◌else◌}
use Rattle.std.specs.List.{AllByRecursion, list_any}
use Rattle.std.proofs.lemmas.Bool.Decides.{nat_tests}
use Rattle.std.proofs.lemmas.List.{length-map}
use Rattle.std.proofs.Math.Bool.{or-true}
use Rattle.pattern_core.specs.Matches.{complete_matches, partial_count}
use Rattle.pattern_core.specs.Members.{IsIn}
use Rattle.pattern_core.specs.Suits.{IsRecorded}
use Rattle.pattern_core.specs.Window.{SeesLatest}
use Rattle.guard_eval.proofs.ReadyLemmas.{each_at}
use Rattle.script_types.specs.declared.plan.Plan.{Plan}
use Rattle.script_types.specs.declared.plan.ActorPlan.{ActorPlan}
use Rattle.script_types.specs.declared.plan.Rule.{Rule}
use Rattle.script_types.specs.Typed.{IsTyped, IsTypedActor, IsTypedRule, IsTypedWindow, kind_types}
use Rattle.fair_semantics.specs.declared.run.Entry.{Entry}
use Rattle.fair_semantics.specs.declared.run.Limits.{Limits}
use Rattle.fair_semantics.specs.Fair.{Sent, fair, partials_of, rules_of, run_of, setting_of}
use Rattle.fair_semantics.specs.Fits.{ActorRunFits, EntryFits, RuleFits, actor_replies, has_reply, rule_replies}
use Rattle.fair_semantics.specs.Linked.{in_version, unstamped, unstamped_entry}
use Rattle.fair_semantics.specs.Step.{State, definitions_of, is_running, recorded_messages, opening}
use Rattle.fair_semantics.proofs.FiringLemmas.{FiringRule}
use Rattle.fair_semantics.proofs.ListLemmas.{each_from, each_from_All, each_map}
use Rattle.run_fit_law.specs.FitsLaw.{FairRunFits, FairRunsFit, LimitsFit, RulesFit, SentFits, VersionFits}
use Rattle.run_fit_law.specs.RestLaw.{FiringsTakeNewest, HasNoMatch, NoneWaitsBetween}
use Rattle.run_fit_law.proofs.LateFitsLemmas.{late_counts_fit, late_in_order}
use Rattle.run_fit_law.proofs.RestLemmas.{CanRest, IsResting, cleared_count}
use Rattle.run_fit_law.proofs.StillLemmas.{IsStill, all_still, opening_still}
use Rattle.run_fit_law.proofs.SoundLemmas.{EntrySound, IsSound, all_sound, opening_sound}
use Rattle.join_base.proofs.EachLemmas.{each_from_get}

-- ---- the rules of an actor of a well typed plan

-- what follows where one of them passes follows from each
any_each : {X : Type 0} (test : X → Bool) (P : Type 0) (xs : List X) → (list_any test xs ≡ true → P) → AllByRecursion (λ x. test x ≡ true → P) xs
any_each test P [] h = tt
any_each {X} test P (x ∷ xs) h = (λ e. h (ap (λ (b : Bool). b || list_any test xs) e), any_each test P xs (λ e. h (ap (λ (b : Bool). test x || b) e ∙ or-true (test x))))

sees_of : (window : Option ℕ) → IsTypedWindow window → SeesLatest window
sees_of None h = tt
sees_of (Some w) h = h.0

-- each definition of an actor has a pattern, and sees the latest message
pub rules_can_rest : (plan : Plan) (actor : ℕ) → IsTyped plan → AllByRecursion CanRest (definitions_of (rules_of (slice_get plan.actors actor)))
rules_can_rest plan actor typed = by (slice_get plan.actors actor) refl
  where
    by : (o : Option ActorPlan) → slice_get plan.actors actor ≡ o → AllByRecursion CanRest (definitions_of (rules_of o))
    by None e = tt
    by (Some own) e =
        each_map (IsTypedRule (length plan.actors) (kind_types plan.kinds)) CanRest (λ (r : Rule). r.definition) (λ r h. record { some = h.some_patterns; sees = sees_of r.definition.window h.window }) own.rules
        (each_at (IsTypedActor (length plan.actors) (kind_types plan.kinds)) plan.actors actor own e typed.actors).each

module _ (plan : Plan) (version : ℕ) where
  -- rules that may be run
  pub record AreSound (rules : List Rule) : Type 0 where
    pub few : length rules ≤ 16
    pub each : AllByRecursion (FiringRule plan version) rules
    pub can_rest : AllByRecursion CanRest (definitions_of rules)

  firing_rules : (rules : List Rule) → AllByRecursion (IsTypedRule (length plan.actors) (kind_types plan.kinds)) rules → AllByRecursion RuleFits rules → AllByRecursion (λ r. rule_replies r ≡ true → version ≡ 2) rules → AllByRecursion (FiringRule plan version) rules
  firing_rules [] typed texts replies = tt
  firing_rules (r ∷ rules) typed texts replies = (record { typed = typed.0; texts = texts.0; replies = replies.0 }, firing_rules rules typed.1 texts.1 replies.1)

  pub rules_sound : (actor : ℕ) → IsTyped plan → (has_reply plan ≡ true → version ≡ 2) → AllByRecursion RuleFits (rules_of (slice_get plan.actors actor)) → AreSound (rules_of (slice_get plan.actors actor))
  rules_sound actor typed replies texts = by (slice_get plan.actors actor) refl texts (rules_can_rest plan actor typed)
    where
      by : (o : Option ActorPlan) → slice_get plan.actors actor ≡ o → AllByRecursion RuleFits (rules_of o) → AllByRecursion CanRest (definitions_of (rules_of o)) → AreSound (rules_of o)
      by None e texts can = record { few = omega arith; each = tt; can_rest = can }
      by (Some own) e texts can =
          let types = each_at (IsTypedActor (length plan.actors) (kind_types plan.kinds)) plan.actors actor own e typed.actors in
          let answers = each_at (λ (a : ActorPlan). actor_replies a ≡ true → version ≡ 2) plan.actors actor own e (any_each actor_replies (version ≡ 2) plan.actors replies) in record {
            few = types.few;
            each = firing_rules own.rules types.each texts (any_each rule_replies (version ≡ 2) own.rules answers);
            can_rest = can;
          }

-- ---- the run that a state shows

module _ (plan : Plan) (version feeds : ℕ) (rules : List Rule) (limits : Limits) where
  abbrev Sound : Entry → Type 0
  Sound = EntrySound plan version feeds

  stamped_fit : (version ≡ 1 → ⊥) → (e : Entry) → Sound e → EntryFits plan version feeds e
  stamped_fit other e h = record { number = h.number; source = h.source; message = h.message; stamp = record { first = λ p. absurd (other p); second = λ p. h.stamped }; firing = h.firing }

  unstamped_fit : version ≡ 1 → (e : Entry) → Sound e → EntryFits plan version feeds (unstamped_entry e)
  unstamped_fit one e h = record { number = h.number; source = h.source; message = h.message; stamp = record { first = λ p. refl; second = λ p. absurd (omega (arith, one, p)) }; firing = h.firing }

  module _ (sound : AreSound plan version rules) (state : State) (h : IsSound plan version feeds rules limits state) where
    pub small_left : AllByRecursion (λ n. n < 2 ^ 32) state.live
    small_left =
        each_from (IsRecorded (recorded_messages state.entries)) (λ n. n < 2 ^ 32) (λ n r. omega (arith, r.1, length-map state.entries (λ (e : Entry). e.message), h.few)) state.live
        (each_from_All (IsRecorded (recorded_messages state.entries)) state.live h.still.recorded)

    -- the partial matches of a state, of which an ended one has one for each definition
    pub few_partials : partials_of rules state ≤ 1000000
    few_partials = by (is_running state.ending) refl
      where
        by : (b : Bool) → is_running state.ending ≡ b → partials_of rules state ≤ 1000000
        by true e = h.runs e
        by false e =
            subst (λ (ns : List ℕ). partial_count (recorded_messages state.entries) ns (definitions_of rules) ≤ 1000000) (sym (h.ended e))
            (omega (arith, cleared_count (recorded_messages state.entries) (definitions_of rules) sound.can_rest, length-map rules (λ (r : Rule). r.definition), sound.few))

    shown_fits : (entries : List Entry) → AllByRecursion (EntryFits plan version feeds) entries → ActorRunFits plan version feeds (record (run_of rules state) { entries = entries })
    shown_fits entries fit = record {
      entries = fit;
      late = late_counts_fit plan feeds state.late h.late.of_feeds h.late.of_actors h.late.small_feeds h.late.small_actors;
      in_order = late_in_order feeds state.late h.late.of_feeds;
      left = small_left;
      partials = omega (arith, few_partials);
    }

    pub run_fits : ActorRunFits plan version feeds (in_version version (run_of rules state))
    run_fits = by (version == 1) refl
      where
        is_one : (n : ℕ) → (n == 1) ≡ true → n ≡ 1
        is_one n e = grind (arith, nat_tests)

        not_one : (n : ℕ) → (n == 1) ≡ false → n ≡ 1 → ⊥
        not_one n e p = absurd (grind (arith, nat_tests))

        by : (b : Bool) → (version == 1) ≡ b → ActorRunFits plan version feeds (if b then unstamped (run_of rules state) else run_of rules state)
        by true e = shown_fits (map unstamped_entry state.entries) (each_map Sound (EntryFits plan version feeds) unstamped_entry (unstamped_fit (is_one version e)) state.entries h.entries)
        by false e = shown_fits state.entries (each_from Sound (EntryFits plan version feeds) (stamped_fit (not_one version e)) state.entries h.entries)

-- the state after messages that fit is sound
pub fair_sound : (plan : Plan) (actor : ℕ) (limits : Limits) (version feeds : ℕ) (sent : List Sent) → IsTyped plan → RulesFit plan limits actor → VersionFits plan version → LimitsFit limits → AllByRecursion (SentFits plan feeds) sent
    → AreSound plan version (setting_of plan actor limits).rules × IsSound plan version feeds (setting_of plan actor limits).rules limits (fair plan actor limits feeds sent)
fair_sound plan actor limits version feeds sent typed texts versioned limited given =
    let rules : List Rule = (setting_of plan actor limits).rules in
    let sound = rules_sound plan version actor typed versioned.replies texts in
    let opened = opening_sound plan version feeds rules limits sound.few sound.each sound.can_rest limited.arrivals.1 limited.partials.1 in (
      sound,
      all_sound plan version feeds rules limits sound.few sound.each sound.can_rest limited.arrivals.1 limited.partials.1 sent (opening feeds (length plan.actors)) opened given,
    )

pub fair_run_fits : FairRunFits
fair_run_fits plan actor limits version feeds sent typed texts versioned limited given =
    let both = fair_sound plan actor limits version feeds sent typed texts versioned limited given in
    run_fits plan version feeds (setting_of plan actor limits).rules limits both.0 (fair plan actor limits feeds sent) both.1

pub fair_runs_fit : FairRunsFit
fair_runs_fit plan run typed versioned limited feeds same each = record {
  version = versioned.known;
  replies = versioned.replies;
  arrivals = limited.arrivals;
  partials = limited.partials;
  feeds = feeds;
  actors = same;
  each = each_from_get (ActorRunFits plan run.version run.feeds) run.actors (λ actor own e.
      let h = each actor own e in
      subst (ActorRunFits plan run.version run.feeds) (sym h.same) (fair_run_fits plan actor run.limits run.version run.feeds h.sent typed h.rules versioned limited h.fitting));
}

-- ---- between two arrivals

-- whatever the messages are
fair_still : (plan : Plan) (actor : ℕ) (limits : Limits) (feeds : ℕ) (sent : List Sent) → IsTyped plan → IsStill (setting_of plan actor limits).rules (fair plan actor limits feeds sent)
fair_still plan actor limits feeds sent typed =
    let can = rules_can_rest plan actor typed in
    all_still (setting_of plan actor limits) can sent (opening feeds (length plan.actors)) (opening_still (setting_of plan actor limits) can feeds (length plan.actors))

none_in : {X : Type 0} (xs : List X) → ((x : X) → ¬ IsIn x xs) → xs ≡ []
none_in [] none = refl
none_in (x ∷ xs) none = absurd (none x (inl refl))

pub none_waits_between : NoneWaitsBetween
none_waits_between plan actor limits feeds sent typed =
    let rules : List Rule = (setting_of plan actor limits).rules in
    let state : State = fair plan actor limits feeds sent in
    each_from (IsResting (recorded_messages state.entries) state.live) (HasNoMatch state) (λ d h. none_in (complete_matches (recorded_messages state.entries) state.live d) h.none) (definitions_of rules) (fair_still plan actor limits feeds sent typed).rests

pub firings_take_newest : FiringsTakeNewest
firings_take_newest plan actor limits feeds sent typed = (fair_still plan actor limits feeds sent typed).newest

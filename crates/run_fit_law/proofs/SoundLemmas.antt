-- What holds of an actor's state between two arrivals, where its rules and its messages fit.
use Rattle.std.proofs.Common.{◌≡◌, ◌∙◌, ℕ, zero, suc, ◌+◌, ◌-◌, ◌^◌, ◌<◌, ◌≤◌, max, List, [], ◌∷◌, ◌++◌, length, length-append, Bool, true, false, Option, None, Some, refl, ap, sym, subst, arith}
use Rattle.std.specs.Prelude.{IfSome, if◌then◌else◌, nat_le, nat_lt, not, replicate, slice_index, slice_set, ◌||◌}
use Rattle.std.specs.List.{AllByRecursion}
use Rattle.std.specs.List.Sorted.{IsStrictlyIncreasing}
use Rattle.std.proofs.lemmas.Bool.Decides.{nat_tests}
use Rattle.std.proofs.lemmas.List.{length-map, length-set, map-append}
use Rattle.std.proofs.lemmas.List.Kept.{IsStrictlyIncreasing-filter}
use Rattle.std.proofs.lemmas.Bool.{or_parts}
use Rattle.join_base.specs.Late.{Late, late_more, raised}
use Rattle.join_base.specs.Stamps.{greatest_stamp}
use Rattle.join_base.specs.Taken.{contains_number, without}
use Rattle.join_base.specs.declared.message.Message.{Message}
use Rattle.join_base.specs.declared.message.Source.{Source}
use Rattle.join_base.specs.declared.message.Source.TheVariants.{Feed, Actor}
use Rattle.pattern_core.specs.declared.candidate.Candidate.{Candidate}
use Rattle.pattern_core.specs.declared.definition.Definition.{Definition}
use Rattle.pattern_core.specs.Choice.{choice}
use Rattle.pattern_core.specs.Matches.{partial_count}
use Rattle.pattern_core.proofs.LawLemmas.{choice_is_chosen}
use Rattle.tree_law.specs.Partials.{number_more}
use Rattle.script_types.specs.declared.plan.Plan.{Plan}
use Rattle.script_types.specs.declared.plan.Rule.{Rule}
use Rattle.script_types.specs.Typed.{kind_types}
use Rattle.fair_semantics.specs.declared.run.Ending.{Ending}
use Rattle.fair_semantics.specs.declared.run.Ending.TheVariants as ending
use Rattle.fair_semantics.specs.declared.run.Entry.{Entry}
use Rattle.fair_semantics.specs.declared.run.Firing.{Firing}
use Rattle.fair_semantics.specs.declared.run.Limits.{Limits}
use Rattle.fair_semantics.specs.declared.run.Outcome.TheVariants as outcome
use Rattle.fair_semantics.specs.Body.{stops}
use Rattle.fair_semantics.specs.Fair.{Sent, after_all}
use Rattle.fair_semantics.specs.Fits.{FiringFits, MessageFits, SourceFits}
use Rattle.fair_semantics.specs.Step.{Arrival, Setting, State, Stepped, body_at, by_choice, definitions_of, entry_with, fair_step, firing_of, fits, is_refused, is_running, late_step, latest_stamp, recorded_messages, messages_with, live_with, number_of, opening, recorded, running_step, spent_step, step_by}
use Rattle.fair_semantics.proofs.FiringLemmas.{FiringRule, firing_fits}
use Rattle.fair_semantics.proofs.KeptLemmas.{increasing_push}
use Rattle.fair_semantics.proofs.ListLemmas.{each_append, each_map, each_replicate}
use Rattle.fair_semantics.proofs.StepLemmas.{number_of_newest}
use Rattle.run_fit_law.specs.FitsLaw.{SentFits}
use Rattle.run_fit_law.proofs.RestLemmas.{CanRest, cleared_count, fired_fewer}
use Rattle.run_fit_law.proofs.StillLemmas.{IsStill, are_live, chosen_newest, newest_number, opening_still, recorded_with, step_still}

below : (n m : ℕ) → nat_le n m ≡ false → m < n
below n m e = grind (arith, nat_tests)

not_above : (n m : ℕ) → nat_lt n m ≡ false → m ≤ n
not_above n m e = grind (arith, nat_tests)

not_not : (b : Bool) → not b ≡ false → b ≡ true
not_not true e = refl
not_not false e = absurd cc

-- ---- late counts

-- a count for each source, of 64 bits
pub record LateSound (feeds actors : ℕ) (late : Late) : Type 0 where
  pub of_feeds : length late.feeds ≡ feeds
  pub of_actors : length late.actors ≡ actors
  pub small_feeds : AllByRecursion (λ n. n < 2 ^ 64) late.feeds
  pub small_actors : AllByRecursion (λ n. n < 2 ^ 64) late.actors

raised_small : (n : ℕ) → n < 2 ^ 64 → raised n < 2 ^ 64
raised_small n l = by (nat_lt n (2 ^ 64 - 1)) refl
  where
    less : (m k : ℕ) → nat_lt m k ≡ true → m < k
    less m k e = grind (arith, nat_tests)

    by : (b : Bool) → nat_lt n (2 ^ 64 - 1) ≡ b → (if b then n + 1 else n) < 2 ^ 64
    by true e = let h = less n (2 ^ 64 - 1) e in omega arith
    by false e = l

index_small : (counts : List ℕ) (p : ℕ) → AllByRecursion (λ n. n < 2 ^ 64) counts → slice_index counts p < 2 ^ 64
index_small [] p h = omega arith
index_small (c ∷ counts) zero h = h.0
index_small (c ∷ counts) (suc p) h = index_small counts p h.1

set_small : (counts : List ℕ) (p n : ℕ) → n < 2 ^ 64 → AllByRecursion (λ n. n < 2 ^ 64) counts → AllByRecursion (λ n. n < 2 ^ 64) (slice_set counts p n)
set_small [] p n l h = tt
set_small (c ∷ counts) zero n l h = (l, h.1)
set_small (c ∷ counts) (suc p) n l h = (h.0, set_small counts p n l h.1)

more_late : (feeds actors : ℕ) (late : Late) (source : Source) → LateSound feeds actors late → LateSound feeds actors (late_more late source)
more_late feeds actors late (Feed k) h = record {
  of_feeds = length-set late.feeds (k - 1) (raised (slice_index late.feeds (k - 1))) ∙ h.of_feeds;
  of_actors = h.of_actors;
  small_feeds = set_small late.feeds (k - 1) (raised (slice_index late.feeds (k - 1))) (raised_small (slice_index late.feeds (k - 1)) (index_small late.feeds (k - 1) h.small_feeds)) h.small_feeds;
  small_actors = h.small_actors;
}
more_late feeds actors late (Actor a) h = record {
  of_feeds = h.of_feeds;
  of_actors = length-set late.actors a (raised (slice_index late.actors a)) ∙ h.of_actors;
  small_feeds = h.small_feeds;
  small_actors = set_small late.actors a (raised (slice_index late.actors a)) (raised_small (slice_index late.actors a) (index_small late.actors a h.small_actors)) h.small_actors;
}

-- ---- the state

-- an entry with its stamp, which fits in version 2
pub record EntrySound (plan : Plan) (version feeds : ℕ) (entry : Entry) : Type 0 where
  pub number : entry.number < 2 ^ 32
  pub source : SourceFits plan feeds entry.source
  pub message : MessageFits plan entry.message
  pub stamped : (1 ≤ entry.stamp) × (entry.stamp ≤ greatest_stamp)
  pub firing : IfSome entry.firing (FiringFits plan version)

module _ (plan : Plan) (version feeds : ℕ) (rules : List Rule) (limits : Limits) where
  abbrev setting : Setting
  setting = record { sorts = kind_types plan.kinds; rules = rules; limits = limits }

  abbrev definitions : List Definition
  definitions = definitions_of rules

  abbrev Still : State → Type 0
  Still = IsStill rules

  -- the partial matches are within the limit
  abbrev HasFew : List Message → List ℕ → Type 0
  HasFew messages live = partial_count messages live definitions ≤ 1000000

  pub record IsSound (state : State) : Type 0 where
    pub still : IsStill rules state
    pub entries : AllByRecursion (EntrySound plan version feeds) state.entries
    pub few : length state.entries ≤ 1000000
    pub rising : IsStrictlyIncreasing state.live
    pub runs : is_running state.ending ≡ true → HasFew (recorded_messages state.entries) state.live
    pub ended : is_running state.ending ≡ false → state.live ≡ []
    pub late : LateSound feeds (length plan.actors) state.late

  messages_fit : (entries : List Entry) → AllByRecursion (EntrySound plan version feeds) entries → AllByRecursion (MessageFits plan) (recorded_messages entries)
  messages_fit entries h = each_map (EntrySound plan version feeds) (MessageFits plan) (λ (e : Entry). e.message) (λ e h. h.message) entries h

  none_rise : IsStrictlyIncreasing []
  none_rise k l = absurd (omega arith)

  module _ (few_rules : length rules ≤ 16) (each : AllByRecursion (FiringRule plan version) rules) (can : AllByRecursion CanRest definitions) (few_arrivals : limits.arrivals ≤ 1000000) (few_partials : limits.partials ≤ 1000000) where
    cleared_few : (messages : List Message) → HasFew messages []
    cleared_few messages = omega (arith, cleared_count messages definitions can, length-map rules (λ (r : Rule). r.definition), few_rules)

    pub opening_sound : IsSound (opening feeds (length plan.actors))
    opening_sound = record {
      still = opening_still setting can feeds (length plan.actors);
      entries = tt;
      few = omega arith;
      rising = none_rise;
      runs = λ e. cleared_few [];
      ended = λ e. refl;
      late = record { of_feeds = length-replicate feeds; of_actors = length-replicate (length plan.actors); small_feeds = each_replicate (λ n. n < 2 ^ 64) feeds 0 (omega arith); small_actors = each_replicate (λ n. n < 2 ^ 64) (length plan.actors) 0 (omega arith) };
    }
      where
        length-replicate : (n : ℕ) → length (replicate n zero) ≡ n
        length-replicate zero = refl
        length-replicate (suc n) = ap suc (length-replicate n)

    module _ (state : State) (sent : Sent) (h : IsSound state) (given : SentFits plan feeds sent) where
      abbrev arrival : Arrival
      arrival = record { state = state; source = sent.0; message = sent.1.message; stamp = sent.1.stamp }

      abbrev messages : List Message
      messages = recorded_messages state.entries

      late_sound : Still (late_step state sent.0).0 → IsSound (late_step state sent.0).0
      late_sound still = record { still = still; entries = h.entries; few = h.few; rising = h.rising; runs = h.runs; ended = h.ended; late = more_late feeds (length plan.actors) state.late sent.0 h.late }

      spent_sound : Still (spent_step state sent.0).0 → IsSound (spent_step state sent.0).0
      spent_sound still = record { still = still; entries = h.entries; few = h.few; rising = none_rise; runs = λ e. absurd cc; ended = λ e. refl; late = more_late feeds (length plan.actors) state.late sent.0 h.late }

      module _ (running : is_running state.ending ≡ true) (room : length state.entries < limits.arrivals) (fit : fits (kind_types plan.kinds) sent.1.message ≡ true) (stamped : max (latest_stamp state.entries) sent.1.stamp < greatest_stamp) where
        message_fits : MessageFits plan sent.1.message
        message_fits = record { kind = fit; values = given.values }

        newest : number_of arrival ≡ number_more messages
        newest = newest_number rules arrival h.still

        all_messages_fit : AllByRecursion (MessageFits plan) (messages_with arrival)
        all_messages_fit = each_append (MessageFits plan) messages (sent.1.message ∷ []) (messages_fit state.entries h.entries) (message_fits, tt)

        count : length (messages_with arrival) ≡ length state.entries + 1
        count = number_of_newest state.entries sent.1.message

        rising_with : IsStrictlyIncreasing (live_with arrival)
        rising_with = increasing_push state.live (number_of arrival) h.rising (λ i l. let old = h.still.recorded i 0 l in omega (arith, old.1, newest))

        -- the state with an entry more
        recorded_sound : (firing : Option Firing) (live : List ℕ) (end : Ending) → IfSome firing (FiringFits plan version) → IsStrictlyIncreasing live
            → (is_running end ≡ true → HasFew (messages_with arrival) live) → (is_running end ≡ false → live ≡ []) → Still (recorded arrival firing live end) → IsSound (recorded arrival firing live end)
        recorded_sound firing live end fires rises runs ended still =
            let same : messages_with arrival ≡ recorded_messages (state.entries ++ entry_with arrival firing ∷ []) = sym (map-append (λ (e : Entry). e.message) state.entries (entry_with arrival firing ∷ [])) in
            let entry : EntrySound plan version feeds (entry_with arrival firing) = record { number = omega (arith, room, few_arrivals); source = given.source; message = message_fits; stamped = (omega arith, omega (arith, stamped)); firing = fires } in record {
              still = still;
              entries = each_append (EntrySound plan version feeds) state.entries (entry_with arrival firing ∷ []) h.entries (entry, tt);
              few = omega (arith, length-append state.entries (entry_with arrival firing ∷ []), room, few_arrivals);
              rising = rises;
              runs = λ e. subst (λ (ms : List Message). HasFew ms live) same (runs e);
              ended = ended;
              late = h.late;
            }

        kept_sound : Still (by_choice setting arrival None).0 → IsSound (by_choice setting arrival None).0
        kept_sound = by (nat_lt limits.partials (partial_count (messages_with arrival) (live_with arrival) definitions)) refl
          where
            by : (b : Bool) → nat_lt limits.partials (partial_count (messages_with arrival) (live_with arrival) definitions) ≡ b
                → let stepped : Stepped = if b then (recorded arrival None [] ending.Jammed, outcome.Jammed) else (recorded arrival None (live_with arrival) ending.Running, outcome.Kept) in Still stepped.0 → IsSound stepped.0
            by true e = recorded_sound None [] ending.Jammed tt none_rise (λ p. absurd cc) (λ p. refl)
            by false e =
                let low = not_above limits.partials (partial_count (messages_with arrival) (live_with arrival) definitions) e in
                recorded_sound None (live_with arrival) ending.Running tt rising_with (λ p. omega (arith, low, few_partials)) (λ p. absurd cc)

        fired_few : (c : Candidate) → choice (messages_with arrival) (live_with arrival) definitions ≡ Some c → HasFew (messages_with arrival) (without (live_with arrival) c.taken)
        fired_few c some =
            let rises = IsStrictlyIncreasing-filter (λ (n : ℕ). not (contains_number c.taken n)) (live_with arrival) rising_with in
            let at : ℕ → List ℕ = λ n. without (state.live ++ n ∷ []) c.taken in
            let fewer =
            fired_fewer messages sent.1.message state.live (are_live rules arrival h.still) c.taken (chosen_newest rules arrival h.still c some) (subst (λ (n : ℕ). IsStrictlyIncreasing (at n)) newest rises) definitions h.still.rests
            in
            subst (λ (n : ℕ). HasFew (messages_with arrival) (at n)) (sym newest) (omega (arith, fewer, h.runs running))

        fired_sound : (c : Candidate) → choice (messages_with arrival) (live_with arrival) definitions ≡ Some c → Still (by_choice setting arrival (Some c)).0 → IsSound (by_choice setting arrival (Some c)).0
        fired_sound c some = by (stops (body_at rules c.rule))
          where
            firing : Option Firing
            firing = firing_of rules (messages_with arrival) (Some c)

            fires : IfSome firing (FiringFits plan version)
            fires = subst (λ (o : Option Candidate). IfSome (firing_of rules (messages_with arrival) o) (FiringFits plan version)) some
                (firing_fits plan (messages_with arrival) all_messages_fit version rules few_rules each (live_with arrival) (recorded_with rules arrival h.still) (omega (arith, count, room, few_arrivals))
                (choice (messages_with arrival) (live_with arrival) definitions) (choice_is_chosen (messages_with arrival) (live_with arrival) definitions))

            by : (b : Bool) → let stepped : State = if b then recorded arrival firing [] ending.Stopped else recorded arrival firing (without (live_with arrival) c.taken) ending.Running in Still stepped → IsSound stepped
            by true = recorded_sound firing [] ending.Stopped fires none_rise (λ p. absurd cc) (λ p. refl)
            by false =
                recorded_sound firing (without (live_with arrival) c.taken) ending.Running fires
                (IsStrictlyIncreasing-filter (λ (n : ℕ). not (contains_number c.taken n)) (live_with arrival) rising_with) (λ p. fired_few c some) (λ p. absurd cc)

        chosen_sound : (o : Option Candidate) → choice (messages_with arrival) (live_with arrival) definitions ≡ o → Still (by_choice setting arrival o).0 → IsSound (by_choice setting arrival o).0
        chosen_sound None e = kept_sound
        chosen_sound (Some c) e = fired_sound c e

      -- a fair step keeps it
      step_sound : IsSound (fair_step setting state sent.0 sent.1.message sent.1.stamp).0
      step_sound = by (is_running state.ending) refl (step_still setting can state sent h.still)
        where
          running : (b : Bool) → is_running state.ending ≡ true → is_refused setting state sent.1.message sent.1.stamp ≡ b → let stepped : Stepped = running_step b setting state sent.0 sent.1.message sent.1.stamp in Still stepped.0 → IsSound stepped.0
          running true e r = spent_sound
          running false e r =
              let full = or_parts (nat_le limits.arrivals (length state.entries)) (not (fits (kind_types plan.kinds) sent.1.message) || nat_le greatest_stamp (max (latest_stamp state.entries) sent.1.stamp)) r in
              let rest = or_parts (not (fits (kind_types plan.kinds) sent.1.message)) (nat_le greatest_stamp (max (latest_stamp state.entries) sent.1.stamp)) full.1 in
              chosen_sound e (below limits.arrivals (length state.entries) full.0) (not_not (fits (kind_types plan.kinds) sent.1.message) rest.0) (below greatest_stamp (max (latest_stamp state.entries) sent.1.stamp) rest.1)
              (choice (messages_with arrival) (live_with arrival) definitions) refl

          by : (b : Bool) → is_running state.ending ≡ b → let stepped : Stepped = step_by b setting state sent.0 sent.1.message sent.1.stamp in Still stepped.0 → IsSound stepped.0
          by false e = late_sound
          by true e = running (is_refused setting state sent.1.message sent.1.stamp) e refl

    -- and so does a chain of them
    pub all_sound : (sent : List Sent) (state : State) → IsSound state → AllByRecursion (SentFits plan feeds) sent → IsSound (after_all setting state sent)
    all_sound [] state h given = h
    all_sound (s ∷ sent) state h given = all_sound sent (fair_step setting state s.0 s.1.message s.1.stamp).0 (step_sound state s h given.0) given.1

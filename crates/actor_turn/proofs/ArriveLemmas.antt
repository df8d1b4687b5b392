-- A running actor that takes a message: what its calls may ask for, and what stands when the message was kept or has
-- fired.
use Rattle.std.proofs.Common.{◌≡◌, ◌∙◌, inl, inr, ℕ, zero, suc, ◌+◌, ◌<◌, ◌≤◌, max, List, [], ◌∷◌, ◌++◌, map, length, drop, length-append, Bool, true, false, Option, Some, None, refl, sym, ap, subst, arith}
use Rattle.std.specs.Prelude.{All, not, nat_le, nat_lt, if◌then◌else◌}
use Rattle.std.specs.List.{AllByRecursion}
use Rattle.std.specs.List.Sorted.{IsStrictlyIncreasing}
use Rattle.std.proofs.lemmas.Bool.Decides.{nat_tests}
use Rattle.std.proofs.lemmas.List.{length-map, map-append}
use Rattle.std.proofs.lemmas.Bool.{or_parts, not-false}
use Rattle.join_base.specs.Stamps.{greatest_stamp}
use Rattle.join_base.specs.Taken.{contains_number, without}
use Rattle.join_base.specs.declared.message.Message.{Message}
use Rattle.join_base.specs.declared.message.Source.{Source}
use Rattle.mailbox_core.specs.Mail.{Mail, Received, latest, latest_from, next_arrival, with_arrival, with_live}
use Rattle.mailbox_core.specs.Mail as mail
use Rattle.pattern_core.specs.declared.definition.Definition.{Definition}
use Rattle.pattern_core.specs.declared.candidate.Candidate.{Candidate}
use Rattle.pattern_core.specs.Matches.{partial_count}
use Rattle.pattern_core.specs.Members.{IsIn}
use Rattle.pattern_core.specs.Suits.{DefinitionSuits, IsRecorded}
use Rattle.match_tree.specs.Tree.{Tree}
use Rattle.match_tree.proofs.RowsLemmas.{one_of_in}
use Rattle.tree_law.specs.Partials.{messages_more, number_more}
use Rattle.tree_law.specs.Trees.{HoldAll, HasOnce, HasReserve, AreKept, AreKeptAt, AreTreesOf, AreReservedFor, CanOfferTo, IsReservedAt, best_of, cleared_tree, path_count, settled_tree, tries_at}
use Rattle.tree_law.proofs.KeepLemmas.{have_reserves, kept_more}
use Rattle.tree_law.proofs.TreesLemmas.{best_takes}
use Rattle.fair_semantics.specs.declared.run.Ending.{Ending}
use Rattle.fair_semantics.specs.declared.run.Ending.TheVariants as ending
use Rattle.fair_semantics.specs.declared.run.Entry.{Entry}
use Rattle.fair_semantics.specs.declared.run.Firing.{Firing}
use Rattle.fair_semantics.specs.declared.run.Outcome.{Outcome}
use Rattle.fair_semantics.specs.declared.run.Outcome.TheVariants as outcome
use Rattle.fair_semantics.specs.Body.{stops}
use Rattle.fair_semantics.specs.Step.{Arrival, Setting, State, by_choice, body_at, definitions_of, entry_with, fair_step, firing_of, fits, is_refused, is_running, latest_stamp, recorded_messages, messages_with, live_with, recorded, stamp_of}
use Rattle.fair_semantics.proofs.ListLemmas.{each_append}
use Rattle.run_fit_law.specs.RestLaw.{TakesNewest}
use Rattle.actor_turn.specs.Held.{new_entries, tries_for}
use Rattle.actor_turn.specs.Inside.{IsAtRest, IsTold}
use Rattle.actor_turn.specs.Parts.{IsKeptIn, Keeps, fired_at, state_of}
use Rattle.actor_turn.specs.Steady.{IsSteady}
use Rattle.actor_turn.proofs.OfferedLemmas.{can_offer_all, cleared_count, cleared_once, fired_few, fired_once, reserved_for, trees_count, tries_counted, unsettled_count, unsettled_hold, unsettled_of, unsettled_once}
use Rattle.actor_turn.proofs.PartsLemmas.{entries_count, entries_latest, entries_messages, recorded_is}
use Rattle.actor_turn.proofs.SteadyLemmas.{choice_is, ended_steady, fired_steady, kept_count, kept_steady, live_recorded, step_is}
use Rattle.actor_turn.proofs.ToldLemmas.{MayFire, choice_may, definitions_suit}

le_false : (a b : ℕ) → nat_le a b ≡ false → b < a
le_false a b e = grind (arith, nat_tests)

lt_false : (a b : ℕ) → nat_lt a b ≡ false → b ≤ a
lt_false a b e = grind (arith, nat_tests)

pub latest_last : (stamp : ℕ) (arrivals : List Received) (a : Received) → latest_from stamp (arrivals ++ a ∷ []) ≡ a.stamp
latest_last stamp [] a = refl
latest_last stamp (b ∷ arrivals) a = latest_last b.stamp arrivals a

drop_seam : (entries : List Entry) (e : Entry) → drop (length entries) (entries ++ e ∷ []) ≡ e ∷ []
drop_seam [] e = refl
drop_seam (x ∷ entries) e = drop_seam entries e

from_members : (P : ℕ → Type 0) (ns : List ℕ) → ((n : ℕ) → IsIn n ns → P n) → All P ns
from_members P [] h k d l = absurd (omega arith)
from_members P (n ∷ ns) h zero d l = h n (inl refl)
from_members P (n ∷ ns) h (suc k) d l = from_members P ns (λ j m. h j (inr m)) k d (omega arith)

-- the recorded numbers of a mailbox
pub recorded_all : (arrivals : List Received) (ns : List ℕ) → AllByRecursion (IsRecorded (mail.recorded_messages arrivals)) ns → All (mail.IsRecorded arrivals) ns
recorded_all arrivals [] h k d l = absurd (omega arith)
recorded_all arrivals (n ∷ ns) h zero d l = let count = length-map arrivals (λ (a : Received). a.message) in (h.0.0, omega (arith, h.0.1))
recorded_all arrivals (n ∷ ns) h (suc k) d l = recorded_all arrivals ns h.1 k d (omega arith)

pub rest_is : (setting : Setting) (m m' : Mail) (f f' : List (Option Firing)) (e e' : Ending) (t t' : List Tree) → m' ≡ m → f' ≡ f → e' ≡ e → t' ≡ t → IsAtRest setting m f e t → IsAtRest setting m' f' e' t'
rest_is setting m m' f f' e e' t t' em ef ee et h =
    let P : Mail × List (Option Firing) × Ending × List Tree → Type 0 = λ x. IsAtRest setting x.0 x.1 x.2 x.3 in
    subst P (λ i. (sym em i, sym ef i, sym ee i, sym et i)) h

-- an actor that rests again, with the entry that was recorded, and the fair step that led there
pub record IsDone (setting : Setting) (arrival : Arrival) (firing : Option Firing) (after : Mail) (fired : List (Option Firing)) (ended : Ending) (left : List Tree) (out : Outcome) : Type 0 where
  pub at_rest : IsAtRest setting after fired ended left
  pub step : fair_step setting arrival.state arrival.source arrival.message arrival.stamp ≡ (state_of after fired ended, out)
  pub entries : new_entries arrival.state (state_of after fired ended) ≡ entry_with arrival firing ∷ []

module _ (actors : ℕ) (setting : Setting) (m : Mail) (firings : List (Option Firing)) (end : Ending) (trees : List Tree) (told : IsTold actors setting) (rest : IsAtRest setting m firings end trees) (source : Source) (message : Message) (stamp : ℕ) where
  abbrev state : State
  state = state_of m firings end

  abbrev messages : List Message
  messages = recorded_messages state.entries

  abbrev arrival : Arrival
  arrival = record { state = state; source = source; message = message; stamp = stamp }

  abbrev definitions : List Definition
  definitions = definitions_of setting.rules

  messages_same : messages ≡ mail.recorded_messages m.arrivals
  messages_same = entries_messages 1 m.arrivals firings rest.fired

  entry_count : length state.entries ≡ length m.arrivals
  entry_count = entries_count 1 m.arrivals firings rest.fired

  number_same : number_more messages ≡ length m.arrivals + 1
  number_same = ap (λ (n : ℕ). n + 1) (ap length messages_same ∙ length-map m.arrivals (λ (a : Received). a.message))

  more_same : messages_more messages message ≡ mail.recorded_messages m.arrivals ++ message ∷ []
  more_same = ap (λ (ms : List Message). ms ++ message ∷ []) messages_same

  -- the stamp of the arrival is that of its entry
  pub stamp_same : (before : Mail) → before ≡ with_arrival m source message stamp → latest before.arrivals ≡ stamp_of arrival
  stamp_same before is =
      ap (λ (b : Mail). latest b.arrivals) is
      ∙ latest_last 0 m.arrivals (next_arrival m.arrivals source message stamp)
      ∙ ap (λ (n : ℕ). max n stamp + 1) (sym (entries_latest 1 0 m.arrivals firings rest.fired))

  -- what it means that the message is not refused
  pub record IsTakenIn : Type 0 where
    pub few : length m.arrivals < 1000000
    pub fit : fits setting.sorts message ≡ true
    pub latest_low : latest m.arrivals < greatest_stamp
    pub came_low : stamp < greatest_stamp

  pub taken_in : is_refused setting state message stamp ≡ false → IsTakenIn
  taken_in e =
      let first = or_parts (nat_le setting.limits.arrivals (length state.entries)) _ e in
      let second = or_parts (not (fits setting.sorts message)) (nat_le greatest_stamp (max (latest_stamp state.entries) stamp)) first.1 in
      let room = le_false setting.limits.arrivals (length state.entries) first.0 in
      let low = le_false greatest_stamp (max (latest_stamp state.entries) stamp) second.1 in
      let same : latest_stamp state.entries ≡ latest m.arrivals = entries_latest 1 0 m.arrivals firings rest.fired in
      let count = entry_count in
      let most = told.limits.arrivals.1 in
      record { few = omega arith; fit = not-false (fits setting.sorts message) second.0; latest_low = omega arith; came_low = omega arith }

  module _ (taken : is_refused setting state message stamp ≡ false) where
    fitting : AllByRecursion (λ x. fits setting.sorts x ≡ true) (messages_more messages message)
    fitting =
        let all = each_append (λ (x : Message). fits setting.sorts x ≡ true) (mail.recorded_messages m.arrivals) (message ∷ []) rest.fitting ((taken_in taken).fit, tt) in
        subst (λ (ms : List Message). AllByRecursion (λ x. fits setting.sorts x ≡ true) ms) (sym more_same) all

    suits : AllByRecursion (DefinitionSuits (messages_more messages message)) definitions
    suits = definitions_suit setting.sorts (messages_more messages message) fitting actors setting.rules told.typed

    pub can_record : AllByRecursion (CanOfferTo (mail.recorded_messages m.arrivals ++ message ∷ []) (length m.arrivals + 1)) trees
    can_record =
        let all = can_offer_all messages message state.live rest.steady.live 1 definitions trees suits rest.steady.of_rules rest.steady.hold in
        subst (λ (n : ℕ). AllByRecursion (CanOfferTo (mail.recorded_messages m.arrivals ++ message ∷ []) n) trees) number_same
        (subst (λ (ms : List Message). AllByRecursion (CanOfferTo ms (number_more messages)) trees) more_same all)

    pub steps_few : (before after : ℕ) → after ≤ before + tries_at (mail.recorded_messages m.arrivals ++ message ∷ []) (length m.arrivals + 1) trees → after ≤ before + tries_for setting.rules state message
    steps_few before after few =
        let same : tries_at (messages_more messages message) (number_more messages) trees ≡ tries_at (mail.recorded_messages m.arrivals ++ message ∷ []) (length m.arrivals + 1) trees = λ i. tries_at (more_same i) (number_same i) trees in
        let bound = tries_counted messages message state.live 1 definitions trees rest.steady.of_rules rest.steady.hold rest.once in
        omega arith

    module _ (offered : List Tree) (same : map settled_tree offered ≡ trees) (reserved_at : AllByRecursion (IsReservedAt (mail.recorded_messages m.arrivals ++ message ∷ []) (length m.arrivals + 1)) offered) where
      of_rules : AreTreesOf 1 definitions offered
      of_rules = unsettled_of 1 definitions offered (subst (λ (ts : List Tree). AreTreesOf 1 definitions ts) (sym same) rest.steady.of_rules)

      hold : HoldAll messages state.live offered
      hold = unsettled_hold messages state.live offered (subst (λ (ts : List Tree). HoldAll messages state.live ts) (sym same) rest.steady.hold)

      once : AllByRecursion HasOnce offered
      once = unsettled_once offered (subst (λ (ts : List Tree). AllByRecursion HasOnce ts) (sym same) rest.once)

      few : path_count offered ≤ 1000000
      few = let count = sym (unsettled_count offered) ∙ ap path_count same in let most = rest.few in omega arith

      reserved : AreReservedFor messages message offered
      reserved =
          reserved_for messages message offered
          (subst (λ (n : ℕ). AllByRecursion (IsReservedAt (messages_more messages message) n) offered) (sym number_same)
          (subst (λ (ms : List Message). AllByRecursion (IsReservedAt ms (length m.arrivals + 1)) offered) (sym more_same) reserved_at))

      -- what keeping and firing ask of the trees
      pub have : (number : ℕ) → number ≡ length m.arrivals + 1 → AllByRecursion (HasReserve number) offered
      have number is = subst (λ (n : ℕ). AllByRecursion (HasReserve n) offered) (number_same ∙ sym is) (have_reserves messages message state.live offered hold reserved)

      step_by_best : is_running end ≡ true → fair_step setting state source message stamp ≡ by_choice setting arrival (best_of offered)
      step_by_best running = step_is setting state source message stamp trees rest.steady running taken offered of_rules hold reserved

      live_same : m.live ++ (length m.arrivals + 1) ∷ [] ≡ live_with arrival
      live_same = ap (λ (k : ℕ). m.live ++ (k + 1) ∷ []) (sym entry_count)

      done : (firing : Option Firing) (live : List ℕ) (ended : Ending) (left : List Tree) (out : Outcome) → TakesNewest (entry_with arrival firing) → (is_running ended ≡ false → live ≡ [])
          → IsSteady setting (recorded arrival firing live ended) left → AllByRecursion HasOnce left → path_count left ≤ 1000000 → fair_step setting state source message stamp ≡ (recorded arrival firing live ended, out) → IsDone setting arrival firing (with_live (with_arrival m source message stamp) live) (firings ++ firing ∷ []) ended left out
      done firing live ended left out takes over steady left_once left_few step =
          let shown = recorded_is m firings end source message stamp rest.fired firing live ended in
          let next : Received = next_arrival m.arrivals source message stamp in
          let long = length-append firings (firing ∷ []) in
          let longer = length-append m.arrivals (next ∷ []) in
          let before = rest.fired in
          let fit_all = each_append (λ (x : Message). fits setting.sorts x ≡ true) (mail.recorded_messages m.arrivals) (message ∷ []) rest.fitting ((taken_in taken).fit, tt) in
          record {
            at_rest = record {
              fired = omega arith;
              newest = subst (λ (s : State). AllByRecursion TakesNewest s.entries) (sym shown) (each_append TakesNewest state.entries (entry_with arrival firing ∷ []) rest.newest (takes, tt));
              fitting = subst (λ (ms : List Message). AllByRecursion (λ x. fits setting.sorts x ≡ true) ms) (sym (map-append (λ (a : Received). a.message) m.arrivals (next ∷ []))) fit_all;
              steady = subst (λ (s : State). IsSteady setting s left) (sym shown) steady;
              once = left_once;
              few = left_few;
              ended = over;
            };
            step = step ∙ (λ i. (sym shown i, out));
            entries = ap (new_entries state) shown ∙ drop_seam state.entries (entry_with arrival firing);
          }

      done_is : (firing : Option Firing) (after after' : Mail) (fired fired' : List (Option Firing)) (ended ended' : Ending) (left left' : List Tree) (out out' : Outcome) → after' ≡ after → fired' ≡ fired → ended' ≡ ended → left' ≡ left → out' ≡ out
          → IsDone setting arrival firing after fired ended left out → IsDone setting arrival firing after' fired' ended' left' out'
      done_is firing after after' fired fired' ended ended' left left' out out' ea ef ee el eo h =
          let P : Mail × List (Option Firing) × Ending × List Tree × Outcome → Type 0 = λ t. IsDone setting arrival firing t.0 t.1 t.2 t.3 t.4 in
          subst P (λ i. (sym ea i, sym ef i, sym ee i, sym el i, sym eo i)) h

      cleared_few : (others : List Tree) → AreTreesOf 1 definitions others → path_count (map cleared_tree others) ≤ 1000000
      cleared_few others are =
          let count = cleared_count others ∙ trees_count 1 definitions others are ∙ length-map setting.rules (λ rule. rule.definition) in
          let most = told.few in
          omega arith

      -- ---- no match

      module _ (running : end ≡ ending.Running) (rising : IsStrictlyIncreasing (m.live ++ (length m.arrivals + 1) ∷ [])) (none : best_of offered ≡ None) where
        abbrev mail_after : Mail
        mail_after = with_arrival m source message stamp

        jammed : (kept left : List Tree) (after : Mail) (ended : Ending) (out : Outcome) → nat_lt setting.limits.partials (partial_count (messages_with arrival) (live_with arrival) definitions) ≡ true → IsSteady setting (recorded arrival None (live_with arrival) ending.Running) kept
            → fair_step setting state source message stamp ≡ by_choice setting arrival None → IsKeptIn true kept left mail_after after end ended out → IsDone setting arrival None after (firings ++ None ∷ []) ended left out
        jammed kept left after ended out test steady chosen how =
            let step : fair_step setting state source message stamp ≡ (recorded arrival None [] ending.Jammed, outcome.Jammed) = chosen ∙ rw test refl in
            let cleared = ended_steady setting state source message stamp trees None ending.Jammed kept (recorded_messages (recorded arrival None (live_with arrival) ending.Running).entries) (live_with arrival) steady.of_rules steady.hold in
            let one = done None [] ending.Jammed (map cleared_tree kept) outcome.Jammed tt (λ over. refl) cleared (cleared_once kept) (cleared_few kept steady.of_rules) step in
            done_is None (with_live mail_after []) after (firings ++ None ∷ []) (firings ++ None ∷ []) ending.Jammed ended (map cleared_tree kept) left outcome.Jammed out how.mail refl how.end how.trees how.outcome one

        stays : (kept left : List Tree) (after : Mail) (ended : Ending) (out : Outcome) → nat_lt setting.limits.partials (partial_count (messages_with arrival) (live_with arrival) definitions) ≡ false → path_count kept ≡ partial_count (messages_with arrival) (live_with arrival) definitions
            → AllByRecursion HasOnce kept → IsSteady setting (recorded arrival None (live_with arrival) ending.Running) kept → fair_step setting state source message stamp ≡ by_choice setting arrival None → IsKeptIn false kept left mail_after after end ended out
            → IsDone setting arrival None after (firings ++ None ∷ []) ended left out
        stays kept left after ended out test count kept_once steady chosen how =
            let step : fair_step setting state source message stamp ≡ (recorded arrival None (live_with arrival) ending.Running, outcome.Kept) = chosen ∙ rw test refl in
            let most = told.limits.partials.1 in
            let low = lt_false setting.limits.partials (partial_count (messages_with arrival) (live_with arrival) definitions) test in
            let one = done None (live_with arrival) ending.Running kept outcome.Kept tt (λ over. absurd cc) steady kept_once (omega arith) step in
            let same : mail_after ≡ with_live mail_after (live_with arrival) = ap (with_live mail_after) live_same in
            done_is None (with_live mail_after (live_with arrival)) after (firings ++ None ∷ []) (firings ++ None ∷ []) ending.Running ended kept left outcome.Kept out (how.mail ∙ same) refl (how.end ∙ running) how.trees how.outcome one

        pub keeps_done : (number most : ℕ) (left : List Tree) (before after : Mail) (ended : Ending) (out : Outcome) → number ≡ length m.arrivals + 1 → most ≡ setting.limits.partials → before ≡ mail_after
            → Keeps number most offered left before after end ended out → IsDone setting arrival None after (firings ++ None ∷ []) ended left out
        keeps_done number most left before after ended out is limit recorded_as keeps =
            let P : ℕ → Type 0 = λ n. AreKeptAt n offered keeps.kept in
            let kept : AreKept messages message offered keeps.kept = kept_more messages message offered keeps.kept (subst P (is ∙ sym number_same) keeps.are) in
            let rises = subst (λ (ns : List ℕ). IsStrictlyIncreasing ns) live_same rising in
            let count = kept_count setting state source message stamp trees rest.steady offered keeps.kept of_rules hold reserved none kept rises keeps.once in
            let test : nat_lt setting.limits.partials (partial_count (messages_with arrival) (live_with arrival) definitions) ≡ nat_lt most (path_count keeps.kept) = λ i. nat_lt (sym limit i) (sym count i) in
            let chosen = step_by_best (ap is_running running) ∙ ap (by_choice setting arrival) none in
            let steady = kept_steady setting state source message stamp trees rest.steady offered keeps.kept of_rules hold reserved none kept keeps.settled in
            let how = subst (λ (b : Mail). IsKeptIn (nat_lt most (path_count keeps.kept)) keeps.kept left b after end ended out) recorded_as keeps.left in
            by (nat_lt most (path_count keeps.kept)) keeps.kept test count keeps.once steady chosen how
          where
            by : (over : Bool) (kept : List Tree) → nat_lt setting.limits.partials (partial_count (messages_with arrival) (live_with arrival) definitions) ≡ over → path_count kept ≡ partial_count (messages_with arrival) (live_with arrival) definitions
                → AllByRecursion HasOnce kept → IsSteady setting (recorded arrival None (live_with arrival) ending.Running) kept → fair_step setting state source message stamp ≡ by_choice setting arrival None → IsKeptIn over kept left mail_after after end ended out
                → IsDone setting arrival None after (firings ++ None ∷ []) ended left out
            by true kept test count kept_once steady chosen how = jammed kept left after ended out test steady chosen how
            by false kept test count kept_once steady chosen how = stays kept left after ended out test count kept_once steady chosen how

      -- ---- a match

      module _ (running : end ≡ ending.Running) (chosen : Candidate) (best : best_of offered ≡ Some chosen) where
        abbrev mail_with : Mail
        mail_with = with_arrival m source message stamp

        messages_after : messages_more messages message ≡ mail.recorded_messages mail_with.arrivals
        messages_after = more_same ∙ sym (map-append (λ (a : Received). a.message) m.arrivals (next_arrival m.arrivals source message stamp ∷ []))

        -- the match may fire
        pub may_fire : MayFire (mail.recorded_messages mail_with.arrivals) actors setting.rules chosen
        may_fire =
            let chosen_is = sym (choice_is setting state source message stamp trees rest.steady offered of_rules hold reserved) ∙ best in
            let live_all = from_members (IsRecorded (messages_more messages message)) (live_with arrival) (live_recorded setting state source message stamp trees rest.steady.live) in
            let may = choice_may setting.sorts (messages_more messages message) fitting told.fields (live_with arrival) live_all actors setting.rules told.typed chosen chosen_is in
            subst (λ (ms : List Message). MayFire ms actors setting.rules chosen) messages_after may

        -- it takes the number of the message
        takes_own : IsIn (length state.entries + 1) chosen.taken
        takes_own =
            let same : number_more messages ≡ length state.entries + 1 = ap (λ (n : ℕ). n + 1) (length-map state.entries (λ (e : Entry). e.message)) in
            one_of_in chosen.taken (length state.entries + 1) (subst (λ (n : ℕ). contains_number chosen.taken n ≡ true) same (best_takes messages message offered chosen reserved best))

        -- it takes the newest number
        pub takes_newest : contains_number chosen.taken (length m.arrivals + 1) ≡ true
        takes_newest = subst (λ (n : ℕ). contains_number chosen.taken n ≡ true) number_same (best_takes messages message offered chosen reserved best)

        goes_on : (firing : Option Firing) → TakesNewest (entry_with arrival firing) → fair_step setting state source message stamp ≡ (recorded arrival firing (without (live_with arrival) chosen.taken) ending.Running, outcome.Fired)
            → IsDone setting arrival firing (with_live mail_with (without mail_with.live chosen.taken)) (firings ++ firing ∷ []) ending.Running (map (fired_at (number_more messages) chosen.taken) offered) outcome.Fired
        goes_on firing takes step =
            let steady = fired_steady setting state source message stamp trees rest.steady offered chosen firing of_rules hold reserved best in
            let one = done firing (without (live_with arrival) chosen.taken) ending.Running (map (fired_at (number_more messages) chosen.taken) offered) outcome.Fired takes (λ over. absurd cc) steady (fired_once (number_more messages) chosen.taken offered once) (fired_few (number_more messages) chosen.taken offered few) step in
            subst (λ (ns : List ℕ). IsDone setting arrival firing (with_live mail_with (without ns chosen.taken)) (firings ++ firing ∷ []) ending.Running (map (fired_at (number_more messages) chosen.taken) offered) outcome.Fired) (sym live_same) one

        ends : (firing : Option Firing) → TakesNewest (entry_with arrival firing) → fair_step setting state source message stamp ≡ (recorded arrival firing [] ending.Stopped, outcome.Fired)
            → IsDone setting arrival firing (with_live mail_with []) (firings ++ firing ∷ []) ending.Stopped (map cleared_tree offered) outcome.Fired
        ends firing takes step =
            done firing [] ending.Stopped (map cleared_tree offered) outcome.Fired takes (λ over. refl) (ended_steady setting state source message stamp trees firing ending.Stopped offered messages state.live of_rules hold) (cleared_once offered) (cleared_few offered of_rules) step

        pub fires_done : (number : ℕ) (firing : Option Firing) (before after : Mail) (fired : List (Option Firing)) (ended : Ending) (left : List Tree) → number ≡ length m.arrivals + 1 → before ≡ mail_with
            → firing ≡ firing_of setting.rules (mail.recorded_messages before.arrivals) (Some chosen)
            → after ≡ with_live before (if stops (body_at setting.rules chosen.rule) then [] else without before.live chosen.taken)
            → left ≡ (if stops (body_at setting.rules chosen.rule) then map cleared_tree offered else map (fired_at number chosen.taken) offered)
            → ended ≡ (if stops (body_at setting.rules chosen.rule) then ending.Stopped else end)
            → fired ≡ firings ++ firing ∷ []
            → IsDone setting arrival firing after fired ended left outcome.Fired
        fires_done number firing before after fired ended left is recorded_as firing_is mail_is left_is ended_is fired_is =
            let firing_same : firing_of setting.rules (messages_with arrival) (Some chosen) ≡ firing = ap (λ (ms : List Message). firing_of setting.rules ms (Some chosen)) (messages_after ∙ ap (λ (b : Mail). mail.recorded_messages b.arrivals) (sym recorded_as)) ∙ sym firing_is in
            let takes : TakesNewest (entry_with arrival firing) = subst (λ (f : Option Firing). TakesNewest (entry_with arrival f)) firing_same takes_own in
            let step = step_by_best (ap is_running running) ∙ ap (by_choice setting arrival) best in
            let mail_same = mail_is ∙ ap (λ (b : Mail). with_live b (if stops (body_at setting.rules chosen.rule) then [] else without b.live chosen.taken)) recorded_as in
            let left_same = left_is ∙ ap (λ (n : ℕ). if stops (body_at setting.rules chosen.rule) then map cleared_tree offered else map (fired_at n chosen.taken) offered) (is ∙ sym number_same) in
            let ended_same = ended_is ∙ ap (λ (e : Ending). if stops (body_at setting.rules chosen.rule) then ending.Stopped else e) running in
            let shown : fair_step setting state source message stamp ≡ (if stops (body_at setting.rules chosen.rule) then recorded arrival firing [] ending.Stopped else recorded arrival firing (without (live_with arrival) chosen.taken) ending.Running, outcome.Fired)
            = step ∙ ap (λ (f : Option Firing). (if stops (body_at setting.rules chosen.rule) then recorded arrival f [] ending.Stopped else recorded arrival f (without (live_with arrival) chosen.taken) ending.Running, outcome.Fired)) firing_same in
            by (stops (body_at setting.rules chosen.rule)) takes shown mail_same left_same ended_same
          where
            by : (b : Bool) → TakesNewest (entry_with arrival firing) → fair_step setting state source message stamp ≡ (if b then recorded arrival firing [] ending.Stopped else recorded arrival firing (without (live_with arrival) chosen.taken) ending.Running, outcome.Fired)
                → after ≡ with_live mail_with (if b then [] else without mail_with.live chosen.taken) → left ≡ (if b then map cleared_tree offered else map (fired_at (number_more messages) chosen.taken) offered) → ended ≡ (if b then ending.Stopped else ending.Running)
                → IsDone setting arrival firing after fired ended left outcome.Fired
            by true takes shown mail_same left_same ended_same =
                done_is firing _ after (firings ++ firing ∷ []) fired _ ended _ left outcome.Fired outcome.Fired mail_same fired_is ended_same left_same refl (ends firing takes shown)
            by false takes shown mail_same left_same ended_same =
                done_is firing _ after (firings ++ firing ∷ []) fired _ ended _ left outcome.Fired outcome.Fired mail_same fired_is ended_same left_same refl (goes_on firing takes shown)

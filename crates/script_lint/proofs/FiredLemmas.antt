-- What each firing of the fair semantics is: the choice among the messages that were recorded until then.
use Rattle.std.proofs.Common.{◌≡◌, ◌∙◌, ℕ, List, [], ◌∷◌, ◌++◌, append_assoc, Bool, true, false, Option, None, Some, refl, ap, sym, subst}
use Rattle.std.specs.Prelude.{IfSome, if◌then◌else◌, nat_lt}
use Rattle.std.specs.List.{AllByRecursion}
use Rattle.std.proofs.lemmas.List.{append-nil, map-append}
use Rattle.join_base.specs.Taken.{without}
use Rattle.join_base.specs.declared.message.Message.{Message}
use Rattle.pattern_core.specs.declared.candidate.Candidate.{Candidate}
use Rattle.pattern_core.specs.Choice.{choice}
use Rattle.pattern_core.specs.Matches.{partial_count}
use Rattle.script_types.specs.declared.plan.Rule.{Rule}
use Rattle.fair_semantics.specs.declared.run.Ending.TheVariants as ending
use Rattle.fair_semantics.specs.declared.run.Entry.{Entry}
use Rattle.fair_semantics.specs.declared.run.Firing.{Firing}
use Rattle.fair_semantics.specs.declared.run.Outcome.TheVariants as outcome
use Rattle.fair_semantics.specs.Body.{stops}
use Rattle.fair_semantics.specs.Fair.{Sent, after_all}
use Rattle.fair_semantics.specs.Step.{Arrival, Setting, State, Stepped, body_at, by_choice, definitions_of, entry_with, fair_step, firing_of, is_refused, is_running, recorded_messages, messages_with, live_with, recorded, running_step, step_by}
use Rattle.fair_semantics.proofs.ChainLemmas.{arrival_of}
use Rattle.fair_semantics.proofs.ListLemmas.{each_append, each_from}
use Rattle.script_lint.specs.Law.{AreInRange, HasValuesInRange}

-- the firing is the choice among the first of the messages
pub record Fired (rules : List Rule) (messages : List Message) (firing : Firing) : Type 0 where
  pub before : List Message
  pub later : List Message
  pub live : List ℕ
  pub chosen : Candidate
  pub are : before ++ later ≡ messages
  pub choice_is : choice before live (definitions_of rules) ≡ Some chosen
  pub rule : chosen.rule ≡ firing.rule
  pub taken : chosen.taken ≡ firing.taken

-- each firing is such a choice, and the integers of the messages are of 64 bits
pub record Sound (rules : List Rule) (entries : List Entry) : Type 0 where
  pub firings : AllByRecursion (λ (e : Entry). IfSome e.firing (Fired rules (recorded_messages entries))) entries
  pub values : AllByRecursion HasValuesInRange (recorded_messages entries)

still : (rules : List Rule) (messages : List Message) (message : Message) (o : Option Firing) → IfSome o (Fired rules messages) → IfSome o (Fired rules (messages ++ message ∷ []))
still rules messages message None f = tt
still rules messages message (Some firing) f = record {
  before = f.before;
  later = f.later ++ message ∷ [];
  live = f.live;
  chosen = f.chosen;
  are = sym (append_assoc f.before f.later (message ∷ [])) ∙ ap (λ (ls : List Message). ls ++ message ∷ []) f.are;
  choice_is = f.choice_is;
  rule = f.rule;
  taken = f.taken;
}

pub grown : (rules : List Rule) (entries : List Entry) (entry : Entry) → Sound rules entries → HasValuesInRange entry.message → IfSome entry.firing (Fired rules (recorded_messages entries ++ entry.message ∷ [])) → Sound rules (entries ++ entry ∷ [])
grown rules entries entry h v f =
    let longer : List Message = recorded_messages entries ++ entry.message ∷ [] in
    let same : recorded_messages (entries ++ entry ∷ []) ≡ longer = map-append (λ (e : Entry). e.message) entries (entry ∷ []) in
    let Each : List Message → Entry → Type 0 = λ ls e. IfSome e.firing (Fired rules ls) in
    let All : List Message → Type 0 = λ ls. AllByRecursion (Each ls) (entries ++ entry ∷ []) in
    let Values : List Message → Type 0 = λ ls. AllByRecursion HasValuesInRange ls in
    record {
      firings = subst All (sym same) (each_append (Each longer) entries (entry ∷ []) (each_from (Each (recorded_messages entries)) (Each longer) (λ e g. still rules (recorded_messages entries) entry.message e.firing g) entries h.firings) (f, tt));
      values = subst Values (sym same) (each_append HasValuesInRange (recorded_messages entries) (entry.message ∷ []) h.values (v, tt));
    }

module _ (setting : Setting) where
  by_sound : (arrival : Arrival) (o : Option Candidate) → choice (messages_with arrival) (live_with arrival) (definitions_of setting.rules) ≡ o → Sound setting.rules arrival.state.entries → HasValuesInRange arrival.message → Sound setting.rules (by_choice setting arrival o).0.entries
  by_sound arrival None e h v = by (nat_lt setting.limits.partials (partial_count (messages_with arrival) (live_with arrival) (definitions_of setting.rules)))
    where
      entered : Sound setting.rules (arrival.state.entries ++ entry_with arrival None ∷ [])
      entered = grown setting.rules arrival.state.entries (entry_with arrival None) h v tt

      by : (b : Bool) → let stepped : Stepped = if b then (recorded arrival None [] ending.Jammed, outcome.Jammed) else (recorded arrival None (live_with arrival) ending.Running, outcome.Kept) in Sound setting.rules stepped.0.entries
      by true = entered
      by false = entered
  by_sound arrival (Some c) e h v = by (stops (body_at setting.rules c.rule))
    where
      entered : Sound setting.rules (arrival.state.entries ++ entry_with arrival (firing_of setting.rules (messages_with arrival) (Some c)) ∷ [])
      entered = grown setting.rules arrival.state.entries (entry_with arrival (firing_of setting.rules (messages_with arrival) (Some c))) h v record {
        before = messages_with arrival;
        later = [];
        live = live_with arrival;
        chosen = c;
        are = append-nil (messages_with arrival);
        choice_is = e;
        rule = refl;
        taken = refl;
      }

      by : (b : Bool) → Sound setting.rules (if b then recorded arrival (firing_of setting.rules (messages_with arrival) (Some c)) [] ending.Stopped else recorded arrival (firing_of setting.rules (messages_with arrival) (Some c)) (without (live_with arrival) c.taken) ending.Running).entries
      by true = entered
      by false = entered

  step_sound : (s : Sent) (state : State) → Sound setting.rules state.entries → HasValuesInRange s.1.message → Sound setting.rules (fair_step setting state s.0 s.1.message s.1.stamp).0.entries
  step_sound s state h v = by (is_running state.ending)
    where
      running : (b : Bool) → Sound setting.rules (running_step b setting state s.0 s.1.message s.1.stamp).0.entries
      running true = h
      running false = by_sound (arrival_of state s) (choice (messages_with (arrival_of state s)) (live_with (arrival_of state s)) (definitions_of setting.rules)) refl h v

      by : (b : Bool) → Sound setting.rules (step_by b setting state s.0 s.1.message s.1.stamp).0.entries
      by false = h
      by true = running (is_refused setting state s.1.message s.1.stamp)

  pub all_sound : (sent : List Sent) (state : State) → Sound setting.rules state.entries → AreInRange sent → Sound setting.rules (after_all setting state sent).entries
  all_sound [] state h v = h
  all_sound (s ∷ sent) state h v = all_sound sent (fair_step setting state s.0 s.1.message s.1.stamp).0 (step_sound s state h v.0) v.1

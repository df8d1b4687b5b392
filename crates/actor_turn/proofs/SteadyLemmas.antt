-- One fair step by the trees: what it is, and that they are steady afterwards.
use Rattle.std.proofs.Common.{◌≡◌, ◌∙◌, inl, inr, ℕ, ◌+◌, List, [], ◌∷◌, ◌++◌, map, length, length-append, true, false, not, Option, Some, None, sym, ap, subst, arith}
use Rattle.std.specs.List.{AllByRecursion}
use Rattle.std.specs.List.Sorted.{IsStrictlyIncreasing}
use Rattle.std.proofs.lemmas.List.{length-map, map-append}
use Rattle.join_base.specs.declared.message.Message.{Message}
use Rattle.join_base.specs.declared.message.Source.{Source}
use Rattle.pattern_core.specs.declared.candidate.Candidate.{Candidate}
use Rattle.pattern_core.specs.Choice.{choice}
use Rattle.pattern_core.specs.Matches.{partial_count}
use Rattle.pattern_core.proofs.MembersLemmas.{IsIn-append_cases, IsIn-filter_from}
use Rattle.join_base.specs.Taken.{contains_number, without}
use Rattle.match_tree.specs.Tree.{Tree, AreOnce}
use Rattle.tree_law.specs.Partials.{AreLive, number_more, live_more, left_of}
use Rattle.tree_law.specs.Trees.{HoldAll, AreTreesOf, AreReservedFor, AreKept, AreSettled, best_of, path_count, fired_tree, cleared_tree}
use Rattle.tree_law.proofs.TreesLemmas.{best_is_choice, best_takes}
use Rattle.tree_law.proofs.CountLemmas.{paths_counted}
use Rattle.tree_law.proofs.ForestLemmas.{all_kept, all_fired, all_cleared, kept_of, fired_of, cleared_of, fired_settled, cleared_settled}
use Rattle.fair_semantics.specs.declared.run.Entry.{Entry}
use Rattle.fair_semantics.specs.declared.run.Firing.{Firing}
use Rattle.fair_semantics.specs.declared.run.Ending.{Ending}
use Rattle.fair_semantics.specs.declared.run.Ending.TheVariants as ending
use Rattle.fair_semantics.specs.Step.{Setting, State, Arrival, recorded_messages, messages_with, live_with, entry_with, recorded, definitions_of, is_running, is_refused, by_choice, fair_step, spent_step, late_step}
use Rattle.actor_turn.specs.Steady.{IsSteady}

-- ---- trees that are cleared

-- an actor that ends without recording the message: its trees are cleared
pub spent_steady : (setting : Setting) (state : State) (source : Source) (trees : List Tree) → IsSteady setting state trees → IsSteady setting (spent_step state source).0 (map cleared_tree trees)
spent_steady setting state source trees h = record {
  live = λ k m. absurd m;
  of_rules = cleared_of 1 (definitions_of setting.rules) trees h.of_rules;
  hold = all_cleared (recorded_messages state.entries) (recorded_messages state.entries) state.live trees h.hold;
  settled = cleared_settled trees;
}

-- a late message leaves the trees
pub late_steady : (setting : Setting) (state : State) (source : Source) (trees : List Tree) → IsSteady setting state trees → IsSteady setting (late_step state source).0 trees
late_steady setting state source trees h = record { live = h.live; of_rules = h.of_rules; hold = h.hold; settled = h.settled }

module _ (setting : Setting) (state : State) (source : Source) (message : Message) (stamp : ℕ) (trees : List Tree) where
  abbrev pub arrival : Arrival
  arrival = record { state = state; source = source; message = message; stamp = stamp }

  abbrev messages : List Message
  messages = recorded_messages state.entries

  count : length messages ≡ length state.entries
  count = length-map state.entries (λ (entry : Entry). entry.message)

  same_number : number_more messages ≡ length state.entries + 1
  same_number = ap (λ (n : ℕ). n + 1) count

  same_live : live_more messages state.live ≡ live_with arrival
  same_live = ap (λ (n : ℕ). state.live ++ n ∷ []) same_number

  entry_messages : (firing : Option Firing) → recorded_messages (state.entries ++ entry_with arrival firing ∷ []) ≡ messages_with arrival
  entry_messages firing = map-append (λ (entry : Entry). entry.message) state.entries (entry_with arrival firing ∷ [])

  pub live_recorded : AreLive messages state.live → AreLive (messages_with arrival) (live_with arrival)
  live_recorded live k m =
      let long = length-append messages (message ∷ []) in
      let c = count in
      elim (IsIn-append_cases k state.live ((length state.entries + 1) ∷ []) m) [
        | inl l ↦ let at = live k l in (at.0, omega (arith, at.1))
        | inr r ↦ elim r [ inl e ↦ (omega arith, omega arith) | inr f ↦ absurd f ]
      ]

  -- the best match of the trees is the choice
  pub choice_is : IsSteady setting state trees → (reserved : List Tree) → AreTreesOf 1 (definitions_of setting.rules) reserved → HoldAll messages state.live reserved → AreReservedFor messages message reserved
      → best_of reserved ≡ choice (messages_with arrival) (live_with arrival) (definitions_of setting.rules)
  choice_is h reserved of_rules hold are =
      best_is_choice messages message state.live h.live (definitions_of setting.rules) reserved of_rules hold are
      ∙ ap (λ (live : List ℕ). choice (messages_with arrival) live (definitions_of setting.rules)) same_live

  -- so the fair step of a running actor that takes the message goes by it
  pub step_is : IsSteady setting state trees → is_running state.ending ≡ true → is_refused setting state message stamp ≡ false
      → (reserved : List Tree) → AreTreesOf 1 (definitions_of setting.rules) reserved → HoldAll messages state.live reserved → AreReservedFor messages message reserved
      → fair_step setting state source message stamp ≡ by_choice setting arrival (best_of reserved)
  step_is h running takes reserved of_rules hold are = rw (running, takes) (ap (by_choice setting arrival) (sym (choice_is h reserved of_rules hold are)))

  -- trees that keep the message are steady, and count the partial matches
  pub kept_steady : IsSteady setting state trees → (reserved after : List Tree) → AreTreesOf 1 (definitions_of setting.rules) reserved → HoldAll messages state.live reserved → AreReservedFor messages message reserved
      → best_of reserved ≡ None → AreKept messages message reserved after → AreSettled after → IsSteady setting (recorded arrival None (live_with arrival) ending.Running) after
  kept_steady h reserved after of_rules hold are none kept settled = record {
    live = subst (λ (ls : List Message). AreLive ls (live_with arrival)) (sym (entry_messages None)) (live_recorded h.live);
    of_rules = kept_of messages message 1 (definitions_of setting.rules) reserved after of_rules kept;
    hold =
        subst (λ (ls : List Message). HoldAll ls (live_with arrival) after) (sym (entry_messages None))
        (subst (λ (live : List ℕ). HoldAll (messages_with arrival) live after) same_live (all_kept messages message state.live h.live reserved after hold are none kept));
    settled = settled;
  }

  pub kept_count : IsSteady setting state trees → (reserved after : List Tree) → AreTreesOf 1 (definitions_of setting.rules) reserved → HoldAll messages state.live reserved → AreReservedFor messages message reserved
      → best_of reserved ≡ None → AreKept messages message reserved after → IsStrictlyIncreasing (live_with arrival) → AllByRecursion (λ tree. AreOnce tree.paths) after
      → path_count after ≡ partial_count (messages_with arrival) (live_with arrival) (definitions_of setting.rules)
  kept_count h reserved after of_rules hold are none kept rising once =
      paths_counted (messages_with arrival) (live_with arrival) rising 1 (definitions_of setting.rules) after (kept_of messages message 1 (definitions_of setting.rules) reserved after of_rules kept)
      (subst (λ (live : List ℕ). HoldAll (messages_with arrival) live after) same_live (all_kept messages message state.live h.live reserved after hold are none kept)) once

  -- cleared trees are steady where the message was recorded and no number is live
  pub ended_steady : (firing : Option Firing) (end : Ending) (others : List Tree) (before : List Message) (live : List ℕ) → AreTreesOf 1 (definitions_of setting.rules) others → HoldAll before live others
      → IsSteady setting (recorded arrival firing [] end) (map cleared_tree others)
  ended_steady firing end others before live of_rules hold = record {
    live = λ k m. absurd m;
    of_rules = cleared_of 1 (definitions_of setting.rules) others of_rules;
    hold = all_cleared before (recorded_messages (state.entries ++ entry_with arrival firing ∷ [])) live others hold;
    settled = cleared_settled others;
  }

  -- trees without the numbers of a firing are steady
  pub fired_steady : IsSteady setting state trees → (reserved : List Tree) (chosen : Candidate) (firing : Option Firing) → AreTreesOf 1 (definitions_of setting.rules) reserved → HoldAll messages state.live reserved → AreReservedFor messages message reserved
      → best_of reserved ≡ Some chosen → IsSteady setting (recorded arrival firing (without (live_with arrival) chosen.taken) ending.Running) (map (fired_tree messages message chosen.taken) reserved)
  fired_steady h reserved chosen firing of_rules hold are best =
      let takes = best_takes messages message reserved chosen are best in
      let all = all_fired messages message state.live h.live chosen.taken takes reserved hold in
      record {
        live = subst (λ (ls : List Message). AreLive ls (without (live_with arrival) chosen.taken)) (sym (entry_messages firing))
            (λ k m. live_recorded h.live k (IsIn-filter_from (λ n. not (contains_number chosen.taken n)) k (live_with arrival) m).0);
        of_rules = fired_of messages message chosen.taken 1 (definitions_of setting.rules) reserved of_rules;
        hold =
            subst (λ (ls : List Message). HoldAll ls (without (live_with arrival) chosen.taken) (map (fired_tree messages message chosen.taken) reserved)) (sym (entry_messages firing))
            (subst (λ (live : List ℕ). HoldAll (messages_with arrival) (left_of live chosen.taken) (map (fired_tree messages message chosen.taken) reserved)) same_live all);
        settled = fired_settled messages message chosen.taken reserved;
      }

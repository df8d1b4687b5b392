-- What well typed rules allow: their definitions may be tested on messages that fit, and their bodies can run at every
-- match.
use Rattle.std.proofs.Common.{◌≡◌, ℕ, ◌-◌, ◌≤◌, List, [], ◌∷◌, map, true, Option, None, Some, sym, subst, length, arith}
use Rattle.std.specs.Prelude.{All}
use Rattle.std.specs.List.{AllByRecursion}
use Rattle.std.proofs.lemmas.List.{length-map}
use Rattle.std.proofs.lemmas.List.Elements.{All-filter}
use Rattle.join_base.specs.declared.message.Message.{Message}
use Rattle.guard_eval.specs.Condition.{Condition}
use Rattle.guard_eval.specs.Meaning.{needs_of}
use Rattle.guard_eval.proofs.ReadyLemmas.{each_at}
use Rattle.pattern_core.specs.declared.definition.Definition.{Definition}
use Rattle.pattern_core.specs.declared.candidate.Candidate.{Candidate}
use Rattle.pattern_core.specs.Assigns.{Assigns}
use Rattle.pattern_core.specs.Suits.{DefinitionSuits, IsRecorded, NeedSuits, SlotsSuit}
use Rattle.pattern_core.specs.Choice.{slots_of, choice, IsChosen}
use Rattle.pattern_core.specs.Window.{SeesLatest, is_seen, seen_of}
use Rattle.guard_eval.specs.declared.term.Operand.{Operand}
use Rattle.pattern_core.proofs.DefinitionsLemmas.{place_of}
use Rattle.pattern_core.proofs.LawLemmas.{choice_is_chosen}
use Rattle.pattern_core.proofs.SuitsLemmas.{length-SlotsSuit, suits_from_assigns}
use Rattle.script_types.specs.declared.plan.Rule.{Rule}
use Rattle.script_types.specs.declared.plan.Statement.{Statement}
use Rattle.script_types.specs.declared.plan.Statement.TheVariants as statement
use Rattle.script_types.specs.Typed.{IsTypedCondition, IsTypedOperand, IsTypedRule, IsTypedStatement, IsTypedWindow, Sorts, type_of}
use Rattle.fair_semantics.specs.Step.{body_at, body_of, definitions_of, fits}
use Rattle.fair_semantics.specs.Ready.{OperandReady}
use Rattle.fair_semantics.proofs.ListLemmas.{each_from, each_map, mapped_at}
use Rattle.fair_semantics.proofs.ReadyLemmas.{items_ready, needs_suit, operand_ready}
use Rattle.fair_semantics.proofs.TypedLemmas.{condition_typed}
use Rattle.actor_turn.specs.Inside.{HasFewFields}
use Rattle.actor_turn.specs.Ready.{BodyReady, StatementReady}
use Rattle.actor_turn.specs.Steady.{HasPatterns}

-- what is asked to fire a match
pub record MayFire (messages : List Message) (actors : ℕ) (rules : List Rule) (chosen : Candidate) : Type 0 where
  pub numbered : 1 ≤ chosen.rule
  pub exists : chosen.rule ≤ length rules
  pub ready : BodyReady actors messages chosen.taken (body_at rules chosen.rule)
  pub recorded : AllByRecursion (IsRecorded messages) chosen.taken

module _ (sorts : Sorts) (messages : List Message) (fitting : AllByRecursion (λ m. fits sorts m ≡ true) messages) where
  definition_suits : (actors : ℕ) (rule : Rule) → IsTypedRule actors sorts rule → DefinitionSuits messages rule.definition
  definition_suits actors rule typed = record {
    some = typed.some_patterns;
    few = typed.few_patterns;
    needs = each_from (IsTypedCondition sorts rule.definition.patterns) (λ (c : Condition). AllByRecursion (NeedSuits messages rule.definition.patterns) (needs_of c))
        (λ c t. needs_suit sorts messages fitting rule.definition.patterns (needs_of c) (condition_typed sorts rule.definition.patterns c t))
        rule.definition.conjuncts typed.guard;
  }

  -- the definitions may be tested
  pub definitions_suit : (actors : ℕ) (rules : List Rule) → AllByRecursion (IsTypedRule actors sorts) rules → AllByRecursion (DefinitionSuits messages) (definitions_of rules)
  definitions_suit actors rules typed = each_map (IsTypedRule actors sorts) (DefinitionSuits messages) (λ (rule : Rule). rule.definition) (definition_suits actors) rules typed

  operands_ready : (kinds taken : List ℕ) (os : List Operand) → SlotsSuit messages kinds (slots_of taken) → AllByRecursion (IsTypedOperand sorts kinds) os → AllByRecursion (OperandReady messages (slots_of taken)) os
  operands_ready kinds taken os suits typed = each_from (IsTypedOperand sorts kinds) (OperandReady messages (slots_of taken)) (λ o t. operand_ready sorts messages fitting kinds taken o suits t) os typed

  module _ (few_fields : AllByRecursion HasFewFields sorts) where
    statement_ready : (actors : ℕ) (kinds taken : List ℕ) → SlotsSuit messages kinds (slots_of taken) → (s : Statement) → IsTypedStatement actors sorts kinds s → StatementReady actors messages taken s
    statement_ready actors kinds taken suits (statement.Print items) typed = (items_ready sorts messages fitting kinds taken items suits typed.each, typed.few)
    statement_ready actors kinds taken suits (statement.Post target kind operands) typed =
        let fields : length (map type_of operands) ≤ 8 = each_at HasFewFields sorts kind (map type_of operands) typed.of_kind few_fields in
        let count = length-map operands type_of in
        (typed.to_actor, operands_ready kinds taken operands suits typed.each, omega arith)
    statement_ready actors kinds taken suits statement.Stop typed = tt
    statement_ready actors kinds taken suits (statement.Reply pattern operand) typed =
        let count = length-SlotsSuit messages kinds (slots_of taken) suits in
        let numbers = length-map taken (λ (n : ℕ). Some n) in
        (omega (arith, typed.0), operand_ready sorts messages fitting kinds taken operand suits typed.1)

    taken_recorded : (kinds taken : List ℕ) → SlotsSuit messages kinds (slots_of taken) → AllByRecursion (IsRecorded messages) taken
    taken_recorded kinds [] h = tt
    taken_recorded [] (n ∷ taken) h = absurd h
    taken_recorded (k ∷ kinds) (n ∷ taken) h = (h.0, taken_recorded kinds taken h.3)

    module _ (live : List ℕ) (recorded : All (IsRecorded messages) live) (actors : ℕ) where
      chosen_may : (rules : List Rule) → AllByRecursion (IsTypedRule actors sorts) rules → (c : Candidate) → IsChosen messages live (definitions_of rules) (Some c) → MayFire messages actors rules c
      chosen_may rules typed c h =
          let placed = place_of 1 (definitions_of rules) c.rule h.0.definition h.0.numbered in
          let found = mapped_at (λ (r : Rule). r.definition) rules (c.rule - 1) h.0.definition placed.found in
          let rule : Rule = found.0 in
          let own = each_at (IsTypedRule actors sorts) rules (c.rule - 1) rule found.1 typed in
          let d : Definition = h.0.definition in
          let seen : List ℕ = seen_of d (length messages) live in
          let seen_recorded = All-filter (is_seen d.window (length messages)) (IsRecorded messages) live recorded in
          let assigns = subst (λ (x : Definition). Assigns messages seen x.patterns (slots_of c.taken)) (sym found.2) h.0.assigns in
          let suits = suits_from_assigns messages seen rule.definition.patterns (slots_of c.taken) seen_recorded assigns in
          let body : BodyReady actors messages c.taken rule.body = record {
            few = own.few_statements;
            each = each_from (IsTypedStatement actors sorts rule.definition.patterns) (StatementReady actors messages c.taken) (statement_ready actors rule.definition.patterns c.taken suits) rule.body own.body;
          } in
          let P : Option Rule → Type 0 = λ o. BodyReady actors messages c.taken (body_of o) in
          let above = placed.above in
          let below = placed.below in
          let count = length-map rules (λ (r : Rule). r.definition) in
          record {
            numbered = omega arith;
            exists = omega arith;
            ready = subst P (sym found.1) body;
            recorded = taken_recorded rule.definition.patterns c.taken suits;
          }

      -- the choice may fire
      pub choice_may : (rules : List Rule) → AllByRecursion (IsTypedRule actors sorts) rules → (c : Candidate) → choice messages live (definitions_of rules) ≡ Some c → MayFire messages actors rules c
      choice_may rules typed c e = chosen_may rules typed c (subst (IsChosen messages live (definitions_of rules)) e (choice_is_chosen messages live (definitions_of rules)))

-- few patterns, and windows that see the latest
pub rules_patterns : (actors : ℕ) (sorts : Sorts) (rules : List Rule) → AllByRecursion (IsTypedRule actors sorts) rules → AllByRecursion HasPatterns (definitions_of rules)
rules_patterns actors sorts rules typed = each_map (IsTypedRule actors sorts) HasPatterns (λ (rule : Rule). rule.definition) (λ rule h. (h.some_patterns, h.few_patterns)) rules typed

sees_latest : (window : Option ℕ) → IsTypedWindow window → SeesLatest window
sees_latest None h = tt
sees_latest (Some w) h = h.0

pub rules_see : (actors : ℕ) (sorts : Sorts) (rules : List Rule) → AllByRecursion (IsTypedRule actors sorts) rules → AllByRecursion (λ (d : Definition). SeesLatest d.window) (definitions_of rules)
rules_see actors sorts rules typed = each_map (IsTypedRule actors sorts) (λ (d : Definition). SeesLatest d.window) (λ (rule : Rule). rule.definition) (λ rule h. sees_latest rule.definition.window h.window) rules typed

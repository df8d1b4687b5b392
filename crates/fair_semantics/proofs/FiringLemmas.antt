-- What the body of a well typed rule makes of messages that fit fits the plan: prints, posts and replies, and so what a
-- choice fires.
use Rattle.std.proofs.Common.{◌≡◌, ◌∙◌, ℕ, ◌+◌, ◌-◌, ◌^◌, ◌<◌, ◌≤◌, List, [], ◌∷◌, length, map, true, Option, None, Some, refl, ap, sym, subst, arith}
use Rattle.std.specs.Prelude.{All, IfSome}
use Rattle.std.specs.List.{AllByRecursion, list_any}
use Rattle.std.proofs.lemmas.List.{length-map}
use Rattle.std.proofs.lemmas.List.Elements.{All-filter}
use Rattle.join_base.specs.declared.message.Sort.{Sort}
use Rattle.join_base.specs.declared.message.Message.{Message}
use Rattle.guard_eval.specs.declared.term.Operand.{Operand}
use Rattle.guard_eval.specs.declared.term.Operand.TheVariants as operand
use Rattle.guard_eval.specs.Meaning.{Assignment}
use Rattle.guard_eval.proofs.ReadyLemmas.{each_at}
use Rattle.pattern_core.specs.declared.definition.Definition.{Definition}
use Rattle.pattern_core.specs.declared.candidate.Candidate.{Candidate}
use Rattle.pattern_core.specs.Assigns.{Assigns}
use Rattle.pattern_core.specs.Choice.{slots_of, IsChosen}
use Rattle.pattern_core.specs.Suits.{IsRecorded, SlotsSuit}
use Rattle.pattern_core.specs.Window.{is_seen, seen_of}
use Rattle.pattern_core.proofs.DefinitionsLemmas.{place_of}
use Rattle.pattern_core.proofs.SuitsLemmas.{length-SlotsSuit, suits_from_assigns}
use Rattle.script_types.specs.declared.plan.Plan.{Plan}
use Rattle.script_types.specs.declared.plan.Rule.{Rule}
use Rattle.script_types.specs.declared.plan.Statement.{Statement}
use Rattle.script_types.specs.declared.plan.Statement.TheVariants as statement
use Rattle.script_types.specs.Typed.{IsTypedOperand, IsTypedPost, IsTypedRule, IsTypedStatement, Sorts, kind_types, type_of}
use Rattle.fair_semantics.specs.Body.{effects_of, posted, posted_value}
use Rattle.fair_semantics.specs.Fits.{ValueFits, MessageFits, EffectFits, FiringFits, OperandFits, StatementFits, RuleFits, is_reply, rule_replies}
use Rattle.fair_semantics.specs.Step.{are_of_sorts, body_of, definitions_of, firing_of, fits, fits_sorts}
use Rattle.fair_semantics.proofs.FitsLemmas.{length-Assigns, line_parts, number_small, numbers_small, sent_fits}
use Rattle.fair_semantics.proofs.ListLemmas.{each_from, mapped_at}
use Rattle.fair_semantics.proofs.ReadyLemmas.{items_ready, operand_ready}

-- a well typed rule that fits, in a version that has its replies
pub record FiringRule (plan : Plan) (version : ℕ) (rule : Rule) : Type 0 where
  pub typed : IsTypedRule (length plan.actors) (kind_types plan.kinds) rule
  pub texts : RuleFits rule
  pub replies : rule_replies rule ≡ true → version ≡ 2

module _ (plan : Plan) (messages : List Message) (fitting : AllByRecursion (MessageFits plan) messages) where
  abbrev sorts : Sorts
  sorts = kind_types plan.kinds

  all_fit : AllByRecursion (λ m. fits sorts m ≡ true) messages
  all_fit = each_from (MessageFits plan) (λ (m : Message). fits sorts m ≡ true) (λ m h. h.kind) messages fitting

  -- what operands send has their types
  sent_sorts : (slots : Assignment) (operands : List Operand) → are_of_sorts (map type_of operands) (map (posted_value messages slots) operands) ≡ true
  sent_sorts slots [] = refl
  sent_sorts slots (operand.Sum leaves ∷ operands) = sent_sorts slots operands
  sent_sorts slots (operand.Words w ∷ operands) = sent_sorts slots operands

  module _ (kinds taken : List ℕ) (suits : SlotsSuit messages kinds (slots_of taken)) where
    operands_fit : (operands : List Operand) → AllByRecursion (IsTypedOperand sorts kinds) operands → AllByRecursion OperandFits operands → AllByRecursion ValueFits (map (posted_value messages (slots_of taken)) operands)
    operands_fit [] typed fit = tt
    operands_fit (o ∷ operands) typed fit = (sent_fits plan messages fitting (slots_of taken) o (operand_ready sorts messages all_fit kinds taken o suits typed.0) fit.0, operands_fit operands typed.1 fit.1)

    posted_fits : (target kind : ℕ) (operands : List Operand) → IsTypedPost (length plan.actors) sorts kinds target kind operands → AllByRecursion OperandFits operands → MessageFits plan (posted messages (slots_of taken) kind operands)
    posted_fits target kind operands typed fit = record {
      kind = ap (λ (o : Option (List Sort)). fits_sorts o (map (posted_value messages (slots_of taken)) operands)) typed.of_kind ∙ sent_sorts (slots_of taken) operands;
      values = operands_fit operands typed.each fit;
    }

    -- where the version has replies if the body has one
    body_fits : (version : ℕ) (body : List Statement) → (list_any is_reply body ≡ true → version ≡ 2) → AllByRecursion (λ n. n < 2 ^ 32) taken → AllByRecursion (IsTypedStatement (length plan.actors) sorts kinds) body → AllByRecursion StatementFits body
        → AllByRecursion (EffectFits plan version) (effects_of messages taken body)
    body_fits version [] replies small typed fit = tt
    body_fits version (statement.Print items ∷ body) replies small typed fit =
        let parts = line_parts plan messages fitting taken items (items_ready sorts messages all_fit kinds taken items suits typed.0.each) fit.0 in
        (record { utf8 = parts.0; short = omega (arith, parts.1, typed.0.few) }, body_fits version body replies small typed.1 fit.1)
    body_fits version (statement.Post target kind operands ∷ body) replies small typed fit =
        ((typed.0.to_actor, posted_fits target kind operands typed.0 fit.0), body_fits version body replies small typed.1 fit.1)
    body_fits version (statement.Stop ∷ body) replies small typed fit = body_fits version body replies small typed.1 fit.1
    body_fits version (statement.Reply pattern operand ∷ body) replies small typed fit =
        let within : pattern < length taken = omega (arith, typed.0.0, length-SlotsSuit messages kinds (slots_of taken) suits, length-map taken (λ (n : ℕ). Some n)) in (
          (replies refl, number_small plan messages fitting taken pattern within small, sent_fits plan messages fitting (slots_of taken) operand (operand_ready sorts messages all_fit kinds taken operand suits typed.0.1) fit.0),
          body_fits version body (λ e. replies refl) small typed.1 fit.1,
        )

  -- what a choice fires
  pub firing_fits : (version : ℕ) (rules : List Rule) → length rules ≤ 16 → AllByRecursion (FiringRule plan version) rules → (live : List ℕ) → All (IsRecorded messages) live → length messages < 2 ^ 32
      → (o : Option Candidate) → IsChosen messages live (definitions_of rules) o → IfSome (firing_of rules messages o) (FiringFits plan version)
  firing_fits version rules few each live recorded small None chosen = tt
  firing_fits version rules few each live recorded small (Some c) chosen =
      let d : Definition = chosen.0.definition in
      let placed = place_of 1 (definitions_of rules) c.rule d chosen.0.numbered in
      let found = mapped_at (λ (r : Rule). r.definition) rules (c.rule - 1) d placed.found in
      let rule : Rule = found.0 in
      let made = each_at (FiringRule plan version) rules (c.rule - 1) rule found.1 each in
      let kinds : List ℕ = rule.definition.patterns in
      let seen : List ℕ = seen_of d (length messages) live in
      let seen_recorded = All-filter (is_seen d.window (length messages)) (IsRecorded messages) live recorded in
      let assigns = subst (λ (x : Definition). Assigns messages seen x.patterns (slots_of c.taken)) (sym found.2) chosen.0.assigns in
      let numbers = numbers_small messages seen kinds c.taken seen_recorded small assigns in
      let count = length-Assigns messages seen kinds c.taken assigns in
      let suits = suits_from_assigns messages seen kinds (slots_of c.taken) seen_recorded assigns in
      let Effects : Option Rule → Type 0 = λ o. AllByRecursion (EffectFits plan version) (effects_of messages c.taken (body_of o)) in
      let below : c.rule < 1 + length rules = omega (arith, placed.below, length-map rules (λ (r : Rule). r.definition)) in record {
        rule = omega (arith, below, few);
        some = omega (arith, count, made.typed.some_patterns);
        few = omega (arith, count, made.typed.few_patterns);
        numbers = numbers;
        effects = subst Effects (sym found.1) (body_fits kinds c.taken suits version rule.body made.replies numbers made.typed.body made.texts);
      }

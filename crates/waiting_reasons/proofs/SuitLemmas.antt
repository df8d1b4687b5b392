-- Definitions suit the messages of a run that fits, and so do assignments with a number that waits.
use Rattle.std.proofs.Common.{◌≡◌, ◌∙◌, ℕ, zero, suc, ◌≤◌, ◌<◌, List, [], ◌∷◌, length, replicate, slice_get, slice_index, slice_set, take, cond, Bool, true, false, not, ◌&&◌, Option, Some, None, refl, ap, sym, subst, arith}
use Rattle.std.specs.List.{AllByRecursion}
use Rattle.std.proofs.lemmas.Option.{slice_get_within, get_or_from_slice_get}
use Rattle.join_base.specs.declared.message.Message.{Message}
use Rattle.join_base.proofs.EachLemmas.{each_at, each_from, each_map}
use Rattle.guard_eval.specs.Condition.{Condition}
use Rattle.guard_eval.specs.Meaning.{Assignment, recorded_message, needs_of}
use Rattle.guard_eval.proofs.ExtendLemmas.{both_true}
use Rattle.pattern_core.specs.declared.definition.Definition.{Definition}
use Rattle.pattern_core.specs.Matches.{is_of_kind, holds_number, usable}
use Rattle.pattern_core.specs.Suits.{DefinitionSuits, NeedSuits, SlotsSuit}
use Rattle.pattern_core.proofs.SuitsLemmas.{suits_empty, suits_further}
use Rattle.script_types.specs.declared.plan.Plan.{Plan}
use Rattle.script_types.specs.declared.plan.ActorPlan.{ActorPlan}
use Rattle.script_types.specs.declared.plan.Rule.{Rule}
use Rattle.script_types.specs.Typed.{IsTyped, IsTypedActor, IsTypedCondition, IsTypedRule, Sorts, kind_types}
use Rattle.fair_semantics.specs.declared.run.ActorRun.{ActorRun}
use Rattle.fair_semantics.specs.declared.run.Entry.{Entry}
use Rattle.fair_semantics.specs.declared.run.Run.{Run}
use Rattle.fair_semantics.specs.Fair.{rules_of}
use Rattle.fair_semantics.specs.Fits.{ActorRunFits, EntryFits, RunFits}
use Rattle.fair_semantics.specs.Step.{fits, recorded_messages}
use Rattle.fair_semantics.proofs.ReadyLemmas.{needs_suit}
use Rattle.fair_semantics.proofs.TypedLemmas.{condition_typed}
use Rattle.waiting_reasons.specs.Inside.{RuleSuits, SuitsWith}
use Rattle.waiting_reasons.specs.Text.{entries_in}
use Rattle.waiting_reasons.specs.Ways.{no_numbers}
use Rattle.waiting_reasons.proofs.SlotLemmas.{not_of}
use Rattle.waiting_reasons.proofs.WaysLemmas.{recorded_kind}

-- ---- definitions

module _ (sorts : Sorts) (messages : List Message) (fitting : AllByRecursion (λ m. fits sorts m ≡ true) messages) where
  rule_suits : (actors : ℕ) (rule : Rule) → IsTypedRule actors sorts rule → RuleSuits messages rule
  rule_suits actors rule typed = record {
    some = typed.some_patterns;
    few = typed.few_patterns;
    needs = each_from (IsTypedCondition sorts rule.definition.patterns) (λ (c : Condition). AllByRecursion (NeedSuits messages rule.definition.patterns) (needs_of c))
        (λ c t. needs_suit sorts messages fitting rule.definition.patterns (needs_of c) (condition_typed sorts rule.definition.patterns c t))
        rule.definition.conjuncts typed.guard;
  }

  typed_suit : (actors : ℕ) (rules : List Rule) → AllByRecursion (IsTypedRule actors sorts) rules → AllByRecursion (RuleSuits messages) rules
  typed_suit actors rules typed = each_from (IsTypedRule actors sorts) (RuleSuits messages) (rule_suits actors) rules typed

module _ (plan : Plan) (actor : ℕ) (typed : IsTyped plan) where
  rules_typed : (o : Option ActorPlan) → slice_get plan.actors actor ≡ o → AllByRecursion (IsTypedRule (length plan.actors) (kind_types plan.kinds)) (rules_of o)
  rules_typed None e = tt
  rules_typed (Some own) e = (each_at (IsTypedActor (length plan.actors) (kind_types plan.kinds)) plan.actors actor own e typed.actors).each

  rules_few : (o : Option ActorPlan) → slice_get plan.actors actor ≡ o → length (rules_of o) ≤ 16
  rules_few None e = omega arith
  rules_few (Some own) e = (each_at (IsTypedActor (length plan.actors) (kind_types plan.kinds)) plan.actors actor own e typed.actors).few

  -- an actor has few definitions
  pub few_rules : length (rules_of (slice_get plan.actors actor)) ≤ 16
  few_rules = rules_few (slice_get plan.actors actor) refl

  module _ (run : Run) (run_fits : RunFits plan run) where
    messages_fit : (o : Option ActorRun) → slice_get run.actors actor ≡ o → AllByRecursion (λ m. fits (kind_types plan.kinds) m ≡ true) (recorded_messages (entries_in o))
    messages_fit None e = tt
    messages_fit (Some own) e =
        let own_fits = each_at (ActorRunFits plan run.version run.feeds) run.actors actor own e run_fits.each in
        each_map (EntryFits plan run.version run.feeds) (λ (m : Message). fits (kind_types plan.kinds) m ≡ true) (λ (entry : Entry). entry.message) (λ entry h. h.message.kind) own.entries own_fits.entries

    -- its definitions suit its messages
    rules_suit : AllByRecursion (RuleSuits (recorded_messages (entries_in (slice_get run.actors actor)))) (rules_of (slice_get plan.actors actor))
    rules_suit =
        typed_suit (kind_types plan.kinds) (recorded_messages (entries_in (slice_get run.actors actor))) (messages_fit (slice_get run.actors actor) refl) (length plan.actors)
        (rules_of (slice_get plan.actors actor)) (rules_typed (slice_get plan.actors actor) refl)

    pub told_suit : (rules : List Rule) (messages : List Message) → rules ≡ rules_of (slice_get plan.actors actor) → messages ≡ recorded_messages (entries_in (slice_get run.actors actor)) → AllByRecursion (RuleSuits messages) rules
    told_suit rules messages rules_are messages_are =
        subst (λ (rs : List Rule). AllByRecursion (RuleSuits messages) rs) (sym rules_are)
        (subst (λ (ms : List Message). AllByRecursion (RuleSuits ms) (rules_of (slice_get plan.actors actor))) (sym messages_are) rules_suit)

-- ---- assignments

each_take : {X : Type 0} (P : X → Type 0) (n : ℕ) (xs : List X) → AllByRecursion P xs → AllByRecursion P (take n xs)
each_take P zero xs all = tt
each_take P (suc n) [] all = tt
each_take P (suc n) (x ∷ xs) all = (all.0, each_take P n xs all.1)

module _ (messages : List Message) (kinds : List ℕ) (slots : Assignment) (place kind : ℕ) (at : slice_get kinds place ≡ Some kind) (empty : slice_get slots place ≡ Some None) (suits : SlotsSuit messages kinds slots) where
  -- with a number of the kind that it has not
  pub further_suits : (number : ℕ) → is_of_kind (recorded_message messages number) kind ≡ true → holds_number slots number ≡ false → SuitsWith messages kinds slots place number
  further_suits number of_kind apart =
      let here : slice_index kinds place ≡ kind = get_or_from_slice_get kinds place kind 0 at in
      suits_further messages kinds slots place number suits empty (recorded_kind messages number kind of_kind) (ap (is_of_kind (recorded_message messages number)) here ∙ of_kind) apart

  -- with each that waits
  usable_suit : (left : List ℕ) → AllByRecursion (SuitsWith messages kinds slots place) (usable messages left kind slots)
  usable_suit [] = tt
  usable_suit (n ∷ left) = by (is_of_kind (recorded_message messages n) kind && not (holds_number slots n)) refl (usable_suit left)
    where
      by : (b : Bool) → (is_of_kind (recorded_message messages n) kind && not (holds_number slots n)) ≡ b → AllByRecursion (SuitsWith messages kinds slots place) (usable messages left kind slots)
          → AllByRecursion (SuitsWith messages kinds slots place) (cond b (n ∷ usable messages left kind slots) (usable messages left kind slots))
      by false e later = later
      by true e later =
          let parts = both_true (is_of_kind (recorded_message messages n) kind) (not (holds_number slots n)) e in
          (further_suits n parts.0 (not_of (holds_number slots n) parts.1), later)

  -- with each of the first five
  pub first_suit : (left waiting first : List ℕ) → waiting ≡ usable messages left kind slots → first ≡ take 5 waiting → AllByRecursion (SuitsWith messages kinds slots place) first
  first_suit left waiting first waiting_is first_is =
      let all : AllByRecursion (SuitsWith messages kinds slots place) (take 5 (usable messages left kind slots)) = each_take (SuitsWith messages kinds slots place) 5 (usable messages left kind slots) (usable_suit left) in
      subst (λ (ns : List ℕ). AllByRecursion (SuitsWith messages kinds slots place) ns) (sym (first_is ∙ ap (take 5) waiting_is)) all

none_held : (n number : ℕ) → holds_number (replicate n None) number ≡ false
none_held zero number = refl
none_held (suc n) number = none_held n number

abbrev nones : ℕ → Assignment
nones n = replicate n None

none_at : (n place : ℕ) → place < n → slice_get (nones n) place ≡ Some None
none_at zero place l = absurd (omega (arith, l))
none_at (suc n) zero l = refl
none_at (suc n) (suc place) l = none_at n place (omega (arith, l))

-- a pattern is empty where there is no number
pub alone_empty : (definition : Definition) (place kind : ℕ) → slice_get definition.patterns place ≡ Some kind → slice_get (no_numbers definition) place ≡ Some None
alone_empty definition place kind at = none_at (length definition.patterns) place (slice_get_within definition.patterns place kind at)

-- and may have one of its kind
pub alone_suit : (messages : List Message) (definition : Definition) (place kind number : ℕ) → slice_get definition.patterns place ≡ Some kind → is_of_kind (recorded_message messages number) kind ≡ true → SuitsWith messages definition.patterns (no_numbers definition) place number
alone_suit messages definition place kind number at of_kind =
    further_suits messages definition.patterns (no_numbers definition) place kind at (alone_empty definition place kind at) (suits_empty messages definition.patterns) number of_kind (none_held (length definition.patterns) number)

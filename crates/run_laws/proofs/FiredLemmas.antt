-- What a body replies to, and what a choice of typed rules takes and replies to.
use Rattle.std.proofs.Common.{◌≡◌, ◌∙◌, ℕ, ◌-◌, ◌<◌, ◌≤◌, List, [], ◌∷◌, length, None, Some, Option, refl, ap, sym, subst, arith}
use Rattle.std.specs.Prelude.{slice_index}
use Rattle.std.specs.List.{AllByRecursion, filter_map}
use Rattle.guard_eval.proofs.ReadyLemmas.{each_at}
use Rattle.join_base.specs.declared.message.Message.{Message}
use Rattle.pattern_core.specs.declared.candidate.Candidate.{Candidate}
use Rattle.pattern_core.specs.declared.definition.Definition.{Definition}
use Rattle.pattern_core.specs.Choice.{IsChosen}
use Rattle.pattern_core.specs.Window.{is_seen, seen_of}
use Rattle.pattern_core.proofs.DefinitionsLemmas.{place_of}
use Rattle.script_types.specs.declared.plan.Rule.{Rule}
use Rattle.script_types.specs.declared.plan.Statement.{Statement}
use Rattle.script_types.specs.declared.plan.Statement.TheVariants as statement
use Rattle.script_types.specs.Typed.{IsTypedRule, IsTypedStatement, Sorts, replied_by}
use Rattle.fair_semantics.specs.declared.run.Firing.{Firing}
use Rattle.fair_semantics.specs.Body.{effects_of}
use Rattle.fair_semantics.specs.Step.{body_of, definitions_of, firing_of}
use Rattle.fair_semantics.proofs.FitsLemmas.{length-Assigns}
use Rattle.fair_semantics.proofs.ListLemmas.{mapped_at}
use Rattle.run_laws.specs.Replies.{replies_of, reply_number, taken_by, times}
use Rattle.run_laws.proofs.TimesLemmas.{assigned_once, at_places, times_at, times_filter}

-- the patterns that a body replies to, in order
abbrev patterns_replied : List Statement → List ℕ
patterns_replied body = filter_map replied_by body

numbers_replied : (messages : List Message) (taken : List ℕ) (body : List Statement) → filter_map reply_number (effects_of messages taken body) ≡ at_places taken (patterns_replied body)
numbers_replied messages taken [] = refl
numbers_replied messages taken (statement.Print items ∷ body) = numbers_replied messages taken body
numbers_replied messages taken (statement.Post target kind operands ∷ body) = numbers_replied messages taken body
numbers_replied messages taken (statement.Stop ∷ body) = numbers_replied messages taken body
numbers_replied messages taken (statement.Reply pattern operand ∷ body) = ap (λ (ns : List ℕ). slice_index taken pattern ∷ ns) (numbers_replied messages taken body)

-- how often a firing takes a number, which is among those that are live, and replies to it
pub record FiresOnce (live : List ℕ) (firing : Option Firing) (n : ℕ) : Type 0 where
  pub once : times n (taken_by firing) ≤ 1
  pub among : times n (taken_by firing) ≤ times n live
  pub replies : times n (replies_of firing) ≤ times n (taken_by firing)

module _ (actors : ℕ) (sorts : Sorts) where
  patterns_within : (kinds : List ℕ) (body : List Statement) → AllByRecursion (IsTypedStatement actors sorts kinds) body → AllByRecursion (λ p. p < length kinds) (patterns_replied body)
  patterns_within kinds [] typed = tt
  patterns_within kinds (statement.Print items ∷ body) typed = patterns_within kinds body typed.1
  patterns_within kinds (statement.Post target kind operands ∷ body) typed = patterns_within kinds body typed.1
  patterns_within kinds (statement.Stop ∷ body) typed = patterns_within kinds body typed.1
  patterns_within kinds (statement.Reply pattern operand ∷ body) typed = (typed.0.0, patterns_within kinds body typed.1)

  module _ (rules : List Rule) (typed : AllByRecursion (IsTypedRule actors sorts) rules) where
    -- what a choice fires
    pub fires_once : (messages : List Message) (live : List ℕ) (o : Option Candidate) → IsChosen messages live (definitions_of rules) o → (n : ℕ) → FiresOnce live (firing_of rules messages o) n
    fires_once messages live None chosen n = record { once = omega arith; among = omega arith; replies = omega arith }
    fires_once messages live (Some c) chosen n =
        let d : Definition = chosen.0.definition in
        let placed = place_of 1 (definitions_of rules) c.rule d chosen.0.numbered in
        let found = mapped_at (λ (r : Rule). r.definition) rules (c.rule - 1) d placed.found in
        let rule : Rule = found.0 in
        let made = each_at (IsTypedRule actors sorts) rules (c.rule - 1) rule found.1 typed in
        let seen : List ℕ = seen_of d (length messages) live in
        let stands = assigned_once messages seen d.patterns c.taken n chosen.0.assigns in
        let fewer = times_filter (is_seen d.window (length messages)) n live in
        let count : length rule.definition.patterns ≡ length c.taken = ap (λ (x : Definition). length x.patterns) found.2 ∙ sym (length-Assigns messages seen d.patterns c.taken chosen.0.assigns) in
        let within : AllByRecursion (λ p. p < length c.taken) (patterns_replied rule.body) =
        subst (λ (k : ℕ). AllByRecursion (λ p. p < k) (patterns_replied rule.body)) count (patterns_within rule.definition.patterns rule.body made.body) in
        let few = times_at c.taken n stands.once (patterns_replied rule.body) made.reply_once within in
        let Few : List ℕ → Type 0 = λ (ns : List ℕ). times n ns ≤ times n c.taken in
        let Body : Option Rule → Type 0 = λ (o : Option Rule). Few (filter_map reply_number (effects_of messages c.taken (body_of o))) in
        record {
          once = stands.once;
          among = omega (arith, stands.among, fewer);
          replies = subst Body (sym found.1) (subst Few (sym (numbers_replied messages c.taken rule.body)) few);
        }

-- Looking at a plan's actors one after the other gives the findings of the plan, and their text takes of it names alone.
use Rattle.std.proofs.Common.{◌≡◌, ◌∙◌, ℕ, zero, suc, ◌+◌, List, [], ◌∷◌, ◌++◌, append_assoc, length, map, refl, slice_get, sym}
use Rattle.std.specs.Prelude.{codes}
use Rattle.std.specs.Fmt.{decimal}
use Rattle.std.specs.List.{flat_map}
use Rattle.std.proofs.lemmas.List.{append-nil}
use Rattle.script_types.specs.declared.plan.ActorPlan.{ActorPlan}
use Rattle.script_types.specs.declared.plan.Plan.{Plan}
use Rattle.script_types.specs.Names.{actor_name, kind_name, name_of_actor, name_of_kind}
use Rattle.script_lint.specs.declared.finding.Finding.{Finding}
use Rattle.script_lint.specs.declared.finding.Finding.TheVariants.{Dead, Narrow, Shadowed, Idle}
use Rattle.script_lint.specs.Findings.{findings, findings_behind, findings_from, idle_from, kinds_behind, kinds_from}
use Rattle.script_lint.specs.LintText.{finding_line, finding_text, report_text, rule_text, total_line}
use Rattle.script_lint.specs.Looked.{Looked, looked_all, looked_at, none_looked, reported}

-- ---- the findings, actor by actor

looked_found : (actors : List ActorPlan) (looked : Looked) → (looked_all looked actors).found ≡ looked.found ++ findings_from looked.number actors
looked_found [] looked = sym (append-nil looked.found)
looked_found (actor ∷ actors) looked =
    looked_found actors (looked_at looked actor.rules)
    ∙ append_assoc looked.found (findings_behind looked.number [] actor.rules) (findings_from (looked.number + 1) actors)

looked_taken : (actors : List ActorPlan) (looked : Looked) → (looked_all looked actors).taken ≡ looked.taken ++ kinds_from looked.number actors
looked_taken [] looked = sym (append-nil looked.taken)
looked_taken (actor ∷ actors) looked =
    looked_taken actors (looked_at looked actor.rules)
    ∙ append_assoc looked.taken (kinds_behind looked.number [] actor.rules) (kinds_from (looked.number + 1) actors)

-- what is reported behind all actors of a plan are its findings
pub findings_looked : (plan : Plan) → reported (looked_all none_looked plan.actors) plan.kinds ≡ findings plan
findings_looked plan =
    let found = looked_found plan.actors none_looked in
    let taken = looked_taken plan.actors none_looked in
    λ i. found i ++ idle_from (taken i) 0 plan.kinds

pub findings_reported : (plan : Plan) (looked : Looked) → looked ≡ looked_all none_looked plan.actors → reported looked plan.kinds ≡ findings plan
findings_reported plan looked is = (λ i. reported (is i) plan.kinds) ∙ findings_looked plan

-- ---- the text takes names alone

module _ (plan heads : Plan) (kinds : heads.kinds ≡ plan.kinds) (actors : (n : ℕ) → name_of_actor heads n ≡ name_of_actor plan n) where
  kind_same : (n : ℕ) → name_of_kind heads n ≡ name_of_kind plan n
  kind_same n = λ i. kind_name (slice_get (kinds i) n)

  rule_same : (actor rule : ℕ) → rule_text heads actor rule ≡ rule_text plan actor rule
  rule_same actor rule =
      let named = actors actor in
      λ i. named i ++ (codes " rule " ++ decimal rule)

  finding_same : (finding : Finding) → finding_text heads finding ≡ finding_text plan finding
  finding_same (Dead actor rule) = let text = rule_same actor rule in λ i. codes "dead " ++ text i
  finding_same (Narrow actor rule) = let text = rule_same actor rule in λ i. codes "narrow " ++ text i
  finding_same (Shadowed actor rule by) = let text = rule_same actor rule in λ i. codes "shadowed " ++ (text i ++ (codes " by " ++ decimal by))
  finding_same (Idle kind) = let named = kind_same kind in λ i. codes "idle " ++ named i

  line_same : (finding : Finding) → finding_line heads finding ≡ finding_line plan finding
  line_same finding = let text = finding_same finding in λ i. text i ++ (10 ∷ [])

  report_names : (found : List Finding) → report_text heads found ≡ report_text plan found
  report_names found = λ i. flat_map (λ finding. line_same finding i) found ++ total_line (length found)

pub report_text-names : (plan heads : Plan) → heads.kinds ≡ plan.kinds → ((n : ℕ) → name_of_actor heads n ≡ name_of_actor plan n) → (found : List Finding) → report_text heads found ≡ report_text plan found
report_text-names plan heads kinds actors found = report_names plan heads kinds actors found

-- the plan without a definition
abbrev pub alone : ActorPlan → ActorPlan
alone actor = record { name = actor.name; rules = [] }

abbrev pub heads : Plan → Plan
heads plan = record { kinds = plan.kinds; actors = map alone plan.actors }

name_alone : (actors : List ActorPlan) (n : ℕ) → actor_name (slice_get (map alone actors) n) ≡ actor_name (slice_get actors n)
name_alone [] n = refl
name_alone (actor ∷ actors) zero = refl
name_alone (actor ∷ actors) (suc n) = name_alone actors n

heads_names : (plan : Plan) (n : ℕ) → name_of_actor (heads plan) n ≡ name_of_actor plan n
heads_names plan n = name_alone plan.actors n

pub report_text-heads : (plan : Plan) (found : List Finding) → report_text (heads plan) found ≡ report_text plan found
report_text-heads plan found = report_text-names plan (heads plan) refl (heads_names plan) found

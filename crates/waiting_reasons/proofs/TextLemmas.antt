-- What is written of a message that is found, and of a conjunct that is false.
use Rattle.std.proofs.Common.{◌≡◌, ◌∙◌, ℕ, ◌-◌, ◌≤◌, List, ◌++◌, append_assoc, length, slice_get, slice_set, take, Option, Some, None, ap, sym}
use Rattle.std.specs.Prelude.{codes}
use Rattle.std.specs.List.{flat_map}
use Rattle.join_base.specs.declared.message.Message.{Message}
use Rattle.guard_eval.specs.Condition.{Condition}
use Rattle.guard_eval.specs.Meaning.{Assignment, recorded_message}
use Rattle.guard_eval.proofs.ReadyLemmas.{recorded_message-recorded}
use Rattle.script_types.specs.declared.plan.Plan.{Plan}
use Rattle.script_types.specs.declared.plan.Rule.{Rule}
use Rattle.plan_text.specs.PlanText.{line_end}
use Rattle.waiting_reasons.specs.Guards.{first_false, first_untrue}
use Rattle.waiting_reasons.specs.Text.{candidate_line, false_text, further_text, missing_lines, obstacle_text, pattern_front, waits_text}

pub message_there : (messages : List Message) (n : ℕ) (o : Option Message) → 1 ≤ n → slice_get messages (n - 1) ≡ o → recorded_message messages n ≡ o
message_there messages n o some e = recorded_message-recorded messages n some ∙ e

-- a conjunct that is false with the number too
module _ (rule : Rule) (messages : List Message) (slots longer : Assignment) (place number : ℕ) (is : longer ≡ slice_set slots place (Some number)) where
  pub further_false : (conjunct : Condition) → first_false messages longer rule.definition.conjuncts ≡ Some conjunct → false_text rule.variables messages longer conjunct ≡ further_text rule messages slots place number
  further_false conjunct found =
      sym (ap (obstacle_text rule.variables messages longer) found)
      ∙ ap (λ (s : Assignment). obstacle_text rule.variables messages s (first_false messages s rule.definition.conjuncts)) is

  pub further_fits : first_false messages longer rule.definition.conjuncts ≡ None → codes "it fits" ≡ further_text rule messages slots place number
  further_fits none =
      sym (ap (obstacle_text rule.variables messages longer) none)
      ∙ ap (λ (s : Assignment). obstacle_text rule.variables messages s (first_false messages s rule.definition.conjuncts)) is

regroup : (s a b w l t : List ℕ) → ((((s ++ a) ++ b) ++ w) ++ l) ++ t ≡ s ++ (a ++ (b ++ (w ++ (l ++ t))))
regroup s a b w l t = simp append_assoc

-- a pattern that is missing is written, part by part
pub missing_written : (plan : Plan) (rule : Rule) (messages : List Message) (slots : Assignment) (place kind count : ℕ) (waiting first wanted start fronted said counted ended now : List ℕ) → waiting ≡ wanted → first ≡ take 5 wanted → count ≡ length waiting
    → fronted ≡ start ++ pattern_front plan rule place kind → said ≡ fronted ++ codes " is missing: " → counted ≡ said ++ waits_text count → ended ≡ counted ++ line_end
    → now ≡ ended ++ flat_map (candidate_line plan rule messages slots place) first → now ≡ start ++ missing_lines plan rule messages slots place kind wanted
missing_written plan rule messages slots place kind count waiting first wanted start fronted said counted ended now waiting_is first_is count_is fronted_is said_is counted_is ended_is now_is =
    let front : List ℕ = pattern_front plan rule place kind in
    let lines : List ℕ = flat_map (candidate_line plan rule messages slots place) (take 5 wanted) in
    let many : count ≡ length wanted = count_is ∙ ap length waiting_is in
    let before : said ≡ (start ++ front) ++ codes " is missing: " = said_is ∙ ap (λ (t : List ℕ). t ++ codes " is missing: ") fronted_is in
    let told : counted ≡ ((start ++ front) ++ codes " is missing: ") ++ waits_text (length wanted) = counted_is ∙ (λ i. before i ++ waits_text (many i)) in
    now_is
    ∙ ap (λ (ns : List ℕ). ended ++ flat_map (candidate_line plan rule messages slots place) ns) first_is
    ∙ ap (λ (t : List ℕ). t ++ lines) (ended_is ∙ ap (λ (t : List ℕ). t ++ line_end) told)
    ∙ regroup start front (codes " is missing: ") (waits_text (length wanted)) line_end lines

use Rattle.std.proofs.Common.{length}
use Rattle.script_tokens.specs.Marks.{kind_is}
use Rattle.script_tokens.specs.declared.token.Mark.TheVariants as m
use Rattle.script_grammar.specs.Reading.{repeated}
use Rattle.script_grammar.specs.ScriptReading.{definition_read, is_mark}
use Rattle.script_grammar.proofs.WalkLemmas.{IsNoted}
use Rattle.script_plan.specs.Planned.{outline_tree}
use Rattle.script_plan.specs.Small.{IsSmallRule}
use Rattle.script_plan.specs.Visited.{rule_taken}
use Rattle.script_plan.proofs.HeldLemmas.{Holds}
use Rattle.script_plan.proofs.script.visit_rules.Given as goal

abbrev pub invariant-list : goal.invariant-list
invariant-list g l = record {
  noted : IsNoted (rule_taken g.V.PlanVisitor.with_rule (outline_tree l.script.outline.now)) (kind_is m.When) definition_read (g.V.PlanVisitor.taken l.initial.visitor) (g.V.PlanVisitor.taken l.visitor) l.tokens
      (repeated (is_mark m.When) definition_read l.initial.tokens);
  small : Holds IsSmallRule (kind_is m.When) definition_read l.tokens;
}

abbrev pub decreases-list : goal.decreases-list
decreases-list g l = length l.tokens

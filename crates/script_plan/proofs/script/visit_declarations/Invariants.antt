use Rattle.std.proofs.Common.{length}
use Rattle.script_grammar.specs.Reading.{repeated}
use Rattle.script_grammar.specs.ScriptReading.{begins_declaration, declaration_read, next_is}
use Rattle.script_grammar.proofs.WalkLemmas.{IsNoted}
use Rattle.script_plan.specs.Planned.{IsSmallDeclaration, outline_tree}
use Rattle.script_plan.specs.Visited.{declaration_taken}
use Rattle.script_plan.proofs.HeldLemmas.{Holds}
use Rattle.script_plan.proofs.script.visit_declarations.Given as goal

abbrev pub invariant-list : goal.invariant-list
invariant-list g l = record {
  noted : IsNoted (declaration_taken g.V.PlanVisitor.with_actor g.V.PlanVisitor.with_rule g.V.PlanVisitor.with_end (outline_tree l.script.outline.now)) begins_declaration declaration_read
      (g.V.PlanVisitor.taken l.initial.visitor) (g.V.PlanVisitor.taken l.visitor) l.tokens (repeated (next_is begins_declaration) declaration_read l.initial.tokens);
  small : Holds IsSmallDeclaration begins_declaration declaration_read l.tokens;
}

abbrev pub decreases-list : goal.decreases-list
decreases-list g l = length l.tokens

-- What a noter knows with one phrase more.
use Rattle.std.specs.Prelude.{◌≡◌, ℕ, ◌+◌, ◌++◌, false, fold, List, Option, slice_get}
use Rattle.script_grammar.specs.Atoms.{Atom, Atoms}
use Rattle.script_grammar.specs.Operands.{item_place, leaf_place, operand_place}
use Rattle.script_grammar.specs.declared.tree.ItemDecl.{ItemDecl}
use Rattle.script_grammar.specs.declared.tree.LeafDecl.{LeafDecl}
use Rattle.script_grammar.specs.declared.tree.MessageDecl.{MessageDecl}
use Rattle.script_grammar.specs.declared.tree.PatternDecl.{PatternDecl}
use Rattle.script_grammar.specs.declared.tree.RuleDecl.{RuleDecl}
use Rattle.script_grammar.specs.declared.tree.StatementDecl.{StatementDecl}
use Rattle.script_grammar.specs.declared.operand.OperandDecl.{OperandDecl}
use Rattle.script_names.specs.Scope.{Variable, sort_at, sorts_among, sorts_of, types_bound, variable_at, variables_in}
use Rattle.script_faults.specs.declared.body.Body.{Body}
use Rattle.script_faults.specs.declared.first.Fault.{Fault}
use Rattle.script_faults.specs.declared.guard.Compared.{Compared}
use Rattle.script_faults.specs.declared.pattern.Binding.{Binding}
use Rattle.script_faults.specs.declared.pattern.Patterns.{Patterns}
use Rattle.script_faults.specs.declared.post.Posted.{Posted}
use Rattle.script_faults.specs.declared.print.Printed.{Printed}
use Rattle.script_faults.specs.declared.rule.Rules.{Rules}
use Rattle.script_faults.specs.declared.term.Leaves.{Leaves}
use Rattle.script_faults.specs.Again.{again_faults}
use Rattle.script_faults.specs.First.{first_of}
use Rattle.script_faults.specs.Numbered.{at_most}
use Rattle.script_faults.specs.Open.{open_after, open_fault}
use Rattle.script_faults.specs.Statements.{said_of, stop_before}
use Rattle.script_faults.specs.Faults.{Comparing, atom_comparisons, comparison_faults, comparisons, item_faults, leaf_faults, operand_faults, pattern_faults, rule_faults, statement_faults, statement_place, wrong_type}

abbrev pub leaf_after : Leaves → LeafDecl → Leaves
leaf_after s leaf = record {
  variables = s.variables;
  number = s.number + 1;
  found = first_of s.found (leaf_faults s.variables.now false leaf ++ at_most 64 s.number (leaf_place leaf));
}

abbrev pub item_after : Printed → ItemDecl → Printed
item_after s item = record {
  variables = s.variables;
  number = s.number + 1;
  found = first_of s.found (item_faults s.variables.now item ++ at_most 16 s.number (item_place item));
}

-- an operand of a post
abbrev pub value_after : Posted → OperandDecl → Posted
value_after s operand = record {
  variables = s.variables;
  fields = s.fields;
  number = s.number + 1;
  found = first_of s.found (operand_faults s.variables.now operand ++ wrong_type s.variables.now (slice_get s.fields.now s.number) operand);
}

abbrev pub comparison_after : Compared → Comparing → Compared
comparison_after s c = record {
  variables = s.variables;
  number = s.number + 1;
  found = first_of s.found (comparison_faults s.variables.now c ++ at_most 64 s.number (operand_place c.left));
}

abbrev pub atom_after : Compared → Atom → Compared
atom_after s atom = fold comparison_after s (atom_comparisons atom)

abbrev pub conjunct_after : Compared → Atoms → Compared
conjunct_after s atoms = fold comparison_after s (comparisons atoms)

-- the faults of a statement behind others
abbrev pub spoken_faults : Body → StatementDecl → List Fault
spoken_faults s x =
    stop_before s.stop ++ statement_faults s.scope.messages.now.decls.now s.scope.actors.now s.scope.variables.now x ++ open_fault s.marks x
    ++ at_most 16 s.number (statement_place x)

abbrev pub statement_after : Body → StatementDecl → Body
statement_after s x = record {
  scope = s.scope;
  number = s.number + 1;
  marks = open_after s.marks x;
  stop = (said_of x).stop;
  found = first_of s.found (spoken_faults s x);
}

-- the variable of a pattern that the next one declares, if it has a name
abbrev pub declared_by : Binding → ℕ × Option (List ℕ) → List Variable
declared_by s v = variable_at (record { place = v.0; pattern = s.pattern; field = s.number; sort = sort_at (sorts_among s.fields) s.number }) v.1

abbrev pub variable_after : Binding → ℕ × Option (List ℕ) → Binding
variable_after s v = record {
  pattern = s.pattern;
  fields = s.fields;
  number = s.number + 1;
  variables = types_bound s.variables (declared_by s v);
  found = first_of s.found (again_faults s.variables (declared_by s v));
}

-- all variables of a pattern were bound, one after the other
pub record HasBound (before after : Binding) (variables : List (ℕ × Option (List ℕ))) : Type 0 where
  pub pattern : after.pattern ≡ before.pattern
  pub bound : after.variables ≡ types_bound before.variables (variables_in before.pattern (sorts_among before.fields) 0 variables)
  pub found : after.found ≡ first_of before.found (again_faults before.variables (variables_in before.pattern (sorts_among before.fields) 0 variables))

-- what is known behind so many patterns: the types of the variables that they bind, and the first fault
pub record Bound : Type 0 where
  pub messages : List MessageDecl
  pub number : ℕ
  pub variables : List Variable
  pub found : Option Fault

abbrev pub bound_so_far : Patterns → Bound
bound_so_far s = record { messages = s.messages.now.decls.now; number = s.binding.pattern; variables = s.binding.variables; found = s.binding.found }

-- the variables of the next pattern
abbrev pub pattern_variables : Bound → PatternDecl → List Variable
pattern_variables s p = variables_in s.number (sorts_of s.messages p.kind.name) 0 p.variables

abbrev pub pattern_after : Bound → PatternDecl → Bound
pattern_after s p = record {
  messages = s.messages;
  number = s.number + 1;
  variables = types_bound s.variables (pattern_variables s p);
  found = first_of s.found (again_faults s.variables (pattern_variables s p) ++ pattern_faults s.messages p ++ at_most 8 s.number p.kind.place);
}

abbrev pub rule_after : Rules → RuleDecl → Rules
rule_after s rule = record {
  messages = s.messages;
  actors = s.actors;
  number = s.number + 1;
  found = first_of s.found (rule_faults s.messages.now.decls.now s.actors.now rule ++ at_most 16 s.number rule.place);
}

-- The plan that a script says: each name is replaced by the number of its declaration, and each variable by its place.
-- A name without a declaration stands for 0: a tree where that happens has a fault, and its plan is not looked at.
use Rattle.std.specs.Prelude.{ℕ, ℤ, ◌-◌, unsigned_abs, false, List, [], ◌∷◌, Option, None, Some, map}
use Rattle.std.specs.Option.{option_map}
use Rattle.join_base.specs.declared.message.Sort.{Sort}
use Rattle.join_base.specs.declared.message.Sort.TheVariants as sort
use Rattle.guard_eval.specs.Condition.{Condition, Never, Compares, Negated, Grouped, Either}
use Rattle.guard_eval.specs.declared.term.Place.{Place}
use Rattle.guard_eval.specs.declared.term.Leaf.{Leaf}
use Rattle.guard_eval.specs.declared.term.Leaf.TheVariants as leaf
use Rattle.guard_eval.specs.declared.term.Signed.{Signed}
use Rattle.guard_eval.specs.declared.term.Operand.{Operand}
use Rattle.guard_eval.specs.declared.term.Operand.TheVariants as operand
use Rattle.guard_eval.specs.declared.term.WordsLeaf.TheVariants as words
use Rattle.pattern_core.specs.declared.definition.Definition.{Definition}
use Rattle.script_grammar.specs.Atoms.{Atom, Atoms, compares, negated, grouped, no_atoms, either}
use Rattle.script_grammar.specs.declared.tree.FieldDecl.{FieldDecl}
use Rattle.script_grammar.specs.declared.tree.MessageDecl.{MessageDecl}
use Rattle.script_grammar.specs.declared.tree.PatternDecl.{PatternDecl}
use Rattle.script_grammar.specs.declared.tree.Part.{Part}
use Rattle.script_grammar.specs.declared.tree.Part.TheVariants as part
use Rattle.script_grammar.specs.declared.tree.LeafDecl.{LeafDecl}
use Rattle.script_grammar.specs.declared.operand.OperandDecl.{OperandDecl}
use Rattle.script_grammar.specs.Operands as o
use Rattle.script_grammar.specs.declared.tree.ItemDecl.{ItemDecl}
use Rattle.script_grammar.specs.declared.tree.ItemDecl.TheVariants as i
use Rattle.script_grammar.specs.declared.tree.StatementDecl.{StatementDecl}
use Rattle.script_grammar.specs.declared.tree.StatementDecl.TheVariants as s
use Rattle.script_grammar.specs.declared.tree.RuleDecl.{RuleDecl}
use Rattle.script_grammar.specs.declared.tree.ActorDecl.{ActorDecl}
use Rattle.script_grammar.specs.declared.tree.Tree.{Tree}
use Rattle.script_names.specs.declared.scope.Slot.{Slot}
use Rattle.script_names.specs.Names.{item_of}
use Rattle.script_names.specs.Scope.{Variable, actor_number, message_number, only_name, sort_of, variables_of}
use Rattle.script_types.specs.declared.plan.Kind.{Kind}
use Rattle.script_types.specs.declared.plan.Item.{Item}
use Rattle.script_types.specs.declared.plan.Item.TheVariants as item
use Rattle.script_types.specs.declared.plan.Statement.{Statement}
use Rattle.script_types.specs.declared.plan.Statement.TheVariants as statement
use Rattle.script_types.specs.declared.plan.Rule.{Rule}
use Rattle.script_types.specs.declared.plan.ActorPlan.{ActorPlan}
use Rattle.script_types.specs.declared.plan.Plan.{Plan}

-- ---- what a name stands for

-- the number that was found
abbrev pub or_zero : Option ℕ → ℕ
or_zero None = 0
or_zero (Some number) = number

abbrev pub kind_number : Tree → List ℕ → ℕ
kind_number tree name = or_zero (message_number tree.messages name)

abbrev pub target_number : Tree → List ℕ → ℕ
target_number tree name = or_zero (actor_number tree.actors name)

abbrev pub slot_place : Option Slot → Place
slot_place None = record { pattern = 0; field = 0 }
slot_place (Some slot) = record { pattern = slot.pattern; field = slot.field }

-- the pattern and the field of the variable of a name
abbrev pub place_of : List Variable → List ℕ → Place
place_of variables name = slot_place (item_of name variables)

-- the one of two readings of a name that its type asks for
abbrev pub by_sort : {T : Type 0} → Sort → T → T → T
by_sort sort.Int integer text = integer
by_sort sort.Words integer text = text

-- ---- terms and operands

abbrev pub part_of : List Variable → Part → Leaf
part_of variables (part.Number number) = leaf.Number number
part_of variables (part.Named name) = leaf.Field (place_of variables name)

abbrev pub leaf_of : List Variable → LeafDecl → Signed
leaf_of variables leaf = record { minus = leaf.minus; leaf = part_of variables leaf.part }

-- a term is seen as its leaves
abbrev pub term_of : List Variable → List LeafDecl → List Signed
term_of variables leaves = map (leaf_of variables) leaves

-- a term that is one name is a text where its variable is one
abbrev pub sum_operand : List Variable → List LeafDecl → Option (List ℕ) → Operand
sum_operand variables leaves None = operand.Sum (term_of variables leaves)
sum_operand variables leaves (Some name) = by_sort (sort_of variables name) (operand.Sum (term_of variables leaves)) (operand.Words (words.Field (place_of variables name)))

-- a term that is one name without a sign
abbrev pub name_operand : List Variable → List ℕ → Operand
name_operand variables name =
    by_sort (sort_of variables name) (operand.Sum (record { minus = false; leaf = leaf.Field (place_of variables name) } ∷ [])) (operand.Words (words.Field (place_of variables name)))

abbrev pub operand_of : List Variable → OperandDecl → Operand
operand_of variables (o.Fixed place text) = operand.Words (words.Fixed text)
operand_of variables (o.Sum place leaves) = sum_operand variables leaves (only_name leaves)

-- ---- guards

abbrev mutual
  pub atom_of : List Variable → Atom → Condition
  atom_of variables (compares left relation right) = Compares (operand_of variables left) relation (operand_of variables right)
  atom_of variables (negated atom) = Negated (atom_of variables atom)
  atom_of variables (grouped atoms) = Grouped (condition_of variables atoms)

  pub condition_of : List Variable → Atoms → Condition
  condition_of variables no_atoms = Never
  condition_of variables (either atom atoms) = Either (atom_of variables atom) (condition_of variables atoms)

-- ---- bodies

abbrev pub print_item : List Variable → ItemDecl → Item
print_item variables (i.Fixed place text) = item.Words (words.Fixed text)
print_item variables (i.Named spelt) = by_sort (sort_of variables spelt.name) (item.Plain (place_of variables spelt.name)) (item.Words (words.Field (place_of variables spelt.name)))
print_item variables (i.Sum place leaves) = item.Sum (term_of variables leaves)

-- the number of a pattern, which counts from 1 in the text and from 0 in the plan
abbrev pub pattern_number : ℤ → ℕ
pattern_number number = unsigned_abs number - 1

abbrev pub statement_of : Tree → List Variable → StatementDecl → Statement
statement_of tree variables (s.Print place items) = statement.Print (map (print_item variables) items)
statement_of tree variables (s.Post place target kind operands) = statement.Post (target_number tree target.name) (kind_number tree kind.name) (map (operand_of variables) operands)
statement_of tree variables (s.Stop place) = statement.Stop
statement_of tree variables (s.Reply place number_place number value) = statement.Reply (pattern_number number) (operand_of variables value)

-- ---- definitions, actors and messages

-- the kind of message that a pattern takes
abbrev pub pattern_of : Tree → PatternDecl → ℕ
pattern_of tree pattern = kind_number tree pattern.kind.name

-- the variables of a pattern without their places in the text
abbrev pub names_in : PatternDecl → List (Option (List ℕ))
names_in pattern = map (λ (variable : ℕ × Option (List ℕ)). variable.1) pattern.variables

abbrev pub window_of : Option (ℕ × ℤ) → Option ℕ
window_of window = option_map (λ (number : ℕ × ℤ). unsigned_abs number.1) window

abbrev pub definition_of : Tree → List Variable → RuleDecl → Definition
definition_of tree variables rule = record {
  patterns = map (pattern_of tree) rule.patterns;
  conjuncts = map (condition_of variables) rule.guard;
  window = window_of rule.window;
}

-- the rule of a definition that has these variables
abbrev pub rule_with : Tree → List Variable → RuleDecl → Rule
rule_with tree variables rule = record {
  definition = definition_of tree variables rule;
  variables = map names_in rule.patterns;
  body = map (statement_of tree variables) rule.body;
}

unfoldable pub rule_of : Tree → RuleDecl → Rule
rule_of tree rule = rule_with tree (variables_of tree.messages rule) rule

abbrev pub actor_of : Tree → ActorDecl → ActorPlan
actor_of tree actor = record { name = actor.name.name; rules = map (rule_of tree) actor.rules }

abbrev pub field_of : FieldDecl → List ℕ × Sort
field_of field = (field.name.name, field.sort)

abbrev pub kind_of : MessageDecl → Kind
kind_of message = record { name = message.name.name; fields = map field_of message.fields }

abbrev pub plan_of : Tree → Plan
plan_of tree = record { kinds = map kind_of tree.messages; actors = map (actor_of tree) tree.actors }

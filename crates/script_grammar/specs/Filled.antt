-- A tree without gaps: a definition has a pattern, a term a leaf, a print an item, and a script an actor.
use Rattle.std.specs.Prelude.{◌≤◌, length}
use Rattle.std.specs.List.{AllByRecursion}
use Rattle.script_grammar.specs.Atoms.{Atom, Atoms, compares, negated, grouped, no_atoms, either}
use Rattle.script_grammar.specs.declared.operand.OperandDecl.{OperandDecl}
use Rattle.script_grammar.specs.Operands as o
use Rattle.script_grammar.specs.declared.tree.ItemDecl.{ItemDecl}
use Rattle.script_grammar.specs.declared.tree.ItemDecl.TheVariants as i
use Rattle.script_grammar.specs.declared.tree.StatementDecl.{StatementDecl}
use Rattle.script_grammar.specs.declared.tree.StatementDecl.TheVariants as s
use Rattle.script_grammar.specs.declared.tree.RuleDecl.{RuleDecl}
use Rattle.script_grammar.specs.declared.tree.ActorDecl.{ActorDecl}
use Rattle.script_grammar.specs.declared.tree.Tree.{Tree}
use Rattle.script_grammar.specs.Grammar.{Tokens, IsScript}

-- a term has a leaf
abbrev pub OperandFilled : OperandDecl → Type 0
OperandFilled (o.Fixed place words) = Unit {0}
OperandFilled (o.Sum place leaves) = 1 ≤ length leaves

-- each operand of an atom is filled, at any depth
abbrev mutual
  pub AtomFilled : Atom → Type 0
  AtomFilled (compares left relation right) = OperandFilled left × OperandFilled right
  AtomFilled (negated a) = AtomFilled a
  AtomFilled (grouped as') = AtomsFilled as'

  pub AtomsFilled : Atoms → Type 0
  AtomsFilled no_atoms = Unit {0}
  AtomsFilled (either a as') = AtomFilled a × AtomsFilled as'

abbrev pub ItemFilled : ItemDecl → Type 0
ItemFilled (i.Fixed place words) = Unit {0}
ItemFilled (i.Named spelt) = Unit {0}
ItemFilled (i.Sum place leaves) = 1 ≤ length leaves

-- a print has an item
abbrev pub StatementFilled : StatementDecl → Type 0
StatementFilled (s.Print place items) = (1 ≤ length items) × AllByRecursion ItemFilled items
StatementFilled (s.Post place target kind operands) = AllByRecursion OperandFilled operands
StatementFilled (s.Stop place) = Unit {0}
StatementFilled (s.Reply place number_place pattern operand) = OperandFilled operand

-- a definition has a pattern
pub record RuleFilled (rule : RuleDecl) : Type 0 where
  pub patterns : 1 ≤ length rule.patterns
  pub guard : AllByRecursion AtomsFilled rule.guard
  pub body : AllByRecursion StatementFilled rule.body

abbrev pub ActorFilled : ActorDecl → Type 0
ActorFilled a = AllByRecursion RuleFilled a.rules

-- a script has an actor
pub record IsFilled (tree : Tree) : Type 0 where
  pub actor : 1 ≤ length tree.actors
  pub actors : AllByRecursion ActorFilled tree.actors

-- the grammar gives no other trees
abbrev pub ScriptsAreFilled : Type 0
ScriptsAreFilled = (tree : Tree) (tokens : Tokens) → IsScript tree tokens → IsFilled tree

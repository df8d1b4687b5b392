-- The sizes within which a script has a plan: its numbers fit, and its terms can be made.
use Rattle.std.specs.Prelude.{◌<◌, ◌≤◌, ℕ, ℤ, unsigned_abs, List, length, Option, None, Some}
use Rattle.std.specs.List.{AllByRecursion}
use Rattle.script_grammar.specs.Atoms.{Atom, Atoms, compares, negated, grouped, no_atoms, either}
use Rattle.script_grammar.specs.declared.tree.PatternDecl.{PatternDecl}
use Rattle.script_grammar.specs.declared.tree.LeafDecl.{LeafDecl}
use Rattle.script_grammar.specs.declared.operand.OperandDecl.{OperandDecl}
use Rattle.script_grammar.specs.Operands as o
use Rattle.script_grammar.specs.declared.tree.ItemDecl.{ItemDecl}
use Rattle.script_grammar.specs.declared.tree.ItemDecl.TheVariants as i
use Rattle.script_grammar.specs.declared.tree.StatementDecl.{StatementDecl}
use Rattle.script_grammar.specs.declared.tree.StatementDecl.TheVariants as s
use Rattle.script_grammar.specs.declared.tree.RuleDecl.{RuleDecl}
use Rattle.script_grammar.specs.declared.tree.ActorDecl.{ActorDecl}
use Rattle.script_grammar.specs.declared.tree.Tree.{Tree}
use Rattle.script_names.specs.Scope.{Variable}

pub record IsSmallTerm (leaves : List LeafDecl) : Type 0 where
  pub some : 1 ≤ length leaves
  pub few : length leaves ≤ 64

abbrev pub IsSmallOperand : OperandDecl → Type 0
IsSmallOperand (o.Fixed place words) = Unit
IsSmallOperand (o.Sum place leaves) = IsSmallTerm leaves

abbrev mutual
  pub IsSmallAtom : Atom → Type 0
  IsSmallAtom (compares left relation right) = IsSmallOperand left × IsSmallOperand right
  IsSmallAtom (negated atom) = IsSmallAtom atom
  IsSmallAtom (grouped atoms) = AreSmallAtoms atoms

  pub AreSmallAtoms : Atoms → Type 0
  AreSmallAtoms no_atoms = Unit
  AreSmallAtoms (either atom atoms) = IsSmallAtom atom × AreSmallAtoms atoms

abbrev pub IsSmallItem : ItemDecl → Type 0
IsSmallItem (i.Fixed place words) = Unit
IsSmallItem (i.Named spelt) = Unit
IsSmallItem (i.Sum place leaves) = IsSmallTerm leaves

abbrev pub IsSmallStatement : StatementDecl → Type 0
IsSmallStatement (s.Print place items) = AllByRecursion IsSmallItem items
IsSmallStatement (s.Post place target kind operands) = AllByRecursion IsSmallOperand operands
IsSmallStatement (s.Stop place) = Unit
IsSmallStatement (s.Reply place number_place number operand) = (unsigned_abs number ≤ 8) × IsSmallOperand operand

abbrev pub IsSmallPattern : PatternDecl → Type 0
IsSmallPattern pattern = length pattern.variables ≤ 8

abbrev pub IsSmallWindow : Option (ℕ × ℤ) → Type 0
IsSmallWindow None = Unit
IsSmallWindow (Some window) = unsigned_abs window.1 ≤ 1000000

pub record IsSmallRule (rule : RuleDecl) : Type 0 where
  pub few : length rule.patterns ≤ 8
  pub patterns : AllByRecursion IsSmallPattern rule.patterns
  pub window : IsSmallWindow rule.window
  pub guard : AllByRecursion AreSmallAtoms rule.guard
  pub body : AllByRecursion IsSmallStatement rule.body

abbrev pub IsSmallActor : ActorDecl → Type 0
IsSmallActor actor = AllByRecursion IsSmallRule actor.rules

pub record IsSmall (tree : Tree) : Type 0 where
  pub messages : length tree.messages ≤ 64
  pub actors : length tree.actors ≤ 32
  pub each : AllByRecursion IsSmallActor tree.actors

-- a variable of one of the first 8 patterns, and of one of the first 8 fields
abbrev pub IsWithin : Variable → Type 0
IsWithin variable = (variable.1.pattern < 8) × (variable.1.field < 8)

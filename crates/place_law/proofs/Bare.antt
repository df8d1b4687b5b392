-- The parts of a tree with each place 0. Two parts differ in places alone where these are equal.
use Rattle.std.proofs.Common.{inl, inr, ℕ, ℤ, List, map, Option}
use Rattle.std.specs.Option.{option_map}
use Rattle.script_grammar.specs.Atoms.{Atom, Atoms, compares, negated, grouped, no_atoms, either}
use Rattle.script_grammar.specs.Grammar.{Declaration}
use Rattle.script_grammar.specs.declared.tree.Spelt.{Spelt}
use Rattle.script_grammar.specs.declared.tree.FieldDecl.{FieldDecl}
use Rattle.script_grammar.specs.declared.tree.MessageDecl.{MessageDecl}
use Rattle.script_grammar.specs.declared.tree.PatternDecl.{PatternDecl}
use Rattle.script_grammar.specs.declared.tree.LeafDecl.{LeafDecl}
use Rattle.script_grammar.specs.declared.operand.OperandDecl.{OperandDecl}
use Rattle.script_grammar.specs.Operands as o
use Rattle.script_grammar.specs.declared.tree.ItemDecl.{ItemDecl}
use Rattle.script_grammar.specs.declared.tree.ItemDecl.TheVariants as i
use Rattle.script_grammar.specs.declared.tree.StatementDecl.{StatementDecl}
use Rattle.script_grammar.specs.declared.tree.StatementDecl.TheVariants as s
use Rattle.script_grammar.specs.declared.tree.RuleDecl.{RuleDecl}
use Rattle.script_grammar.specs.declared.tree.ActorDecl.{ActorDecl}
use Rattle.script_grammar.specs.declared.tree.Tree.{Tree}
use Rattle.script_names.specs.declared.scope.Slot.{Slot}
use Rattle.script_names.specs.Scope.{Variable}
use Rattle.script_faults.specs.Faults.{Comparing}

abbrev pub bare_place : ℕ → ℕ
bare_place place = 0

-- something with its place
abbrev pub bare_pair : {T : Type 0} → ℕ × T → ℕ × T
bare_pair pair = (0, pair.1)

abbrev pub bare_spelt : Spelt → Spelt
bare_spelt spelt = record { name = spelt.name; place = 0 }

-- ---- messages and patterns

abbrev pub bare_field : FieldDecl → FieldDecl
bare_field field = record { name = bare_spelt field.name; sort = field.sort }

abbrev pub bare_message : MessageDecl → MessageDecl
bare_message message = record { name = bare_spelt message.name; fields = map bare_field message.fields }

abbrev pub bare_pattern : PatternDecl → PatternDecl
bare_pattern pattern = record { kind = bare_spelt pattern.kind; variables = map bare_pair pattern.variables }

-- ---- terms and guards

abbrev pub bare_leaf : LeafDecl → LeafDecl
bare_leaf leaf = record { place = 0; minus = leaf.minus; part = leaf.part }

abbrev pub bare_operand : OperandDecl → OperandDecl
bare_operand (o.Fixed place words) = o.Fixed 0 words
bare_operand (o.Sum place leaves) = o.Sum 0 (map bare_leaf leaves)

abbrev mutual
  pub bare_atom : Atom → Atom
  bare_atom (compares left relation right) = compares (bare_operand left) relation (bare_operand right)
  bare_atom (negated atom) = negated (bare_atom atom)
  bare_atom (grouped atoms) = grouped (bare_atoms atoms)

  pub bare_atoms : Atoms → Atoms
  bare_atoms no_atoms = no_atoms
  bare_atoms (either atom atoms) = either (bare_atom atom) (bare_atoms atoms)

abbrev pub bare_comparing : Comparing → Comparing
bare_comparing c = record { left = bare_operand c.left; relation = c.relation; right = bare_operand c.right }

-- ---- bodies

abbrev pub bare_item : ItemDecl → ItemDecl
bare_item (i.Fixed place words) = i.Fixed 0 words
bare_item (i.Named spelt) = i.Named (bare_spelt spelt)
bare_item (i.Sum place leaves) = i.Sum 0 (map bare_leaf leaves)

abbrev pub bare_statement : StatementDecl → StatementDecl
bare_statement (s.Print place items) = s.Print 0 (map bare_item items)
bare_statement (s.Post place target kind operands) = s.Post 0 (bare_spelt target) (bare_spelt kind) (map bare_operand operands)
bare_statement (s.Stop place) = s.Stop 0
bare_statement (s.Reply place number_place number operand) = s.Reply 0 0 number (bare_operand operand)

-- ---- definitions, actors and trees

abbrev pub bare_window : Option (ℕ × ℤ) → Option (ℕ × ℤ)
bare_window window = option_map bare_pair window

abbrev pub bare_rule : RuleDecl → RuleDecl
bare_rule rule = record { place = 0; patterns = map bare_pattern rule.patterns; window = bare_window rule.window; guard = map bare_atoms rule.guard; body = map bare_statement rule.body }

abbrev pub bare_actor : ActorDecl → ActorDecl
bare_actor actor = record { name = bare_spelt actor.name; rules = map bare_rule actor.rules }

abbrev pub bare_declaration : Declaration → Declaration
bare_declaration (inl message) = inl (bare_message message)
bare_declaration (inr actor) = inr (bare_actor actor)

abbrev pub bare_messages : List MessageDecl → List MessageDecl
bare_messages messages = map bare_message messages

abbrev pub bare_tree : Tree → Tree
bare_tree tree = record { messages = bare_messages tree.messages; actors = map bare_actor tree.actors }

-- ---- names

-- a name, and what is seen of what stands beside it
abbrev pub beside : {T : Type 0} → (T → T) → List ℕ × T → List ℕ × T
beside f row = (row.0, f row.1)

-- names with their places in the text
abbrev pub bare_rows : List (List ℕ × ℕ) → List (List ℕ × ℕ)
bare_rows rows = map (beside bare_place) rows

abbrev pub bare_slot : Slot → Slot
bare_slot slot = record { place = 0; pattern = slot.pattern; field = slot.field; sort = slot.sort }

-- the variables of a definition
abbrev pub bare_variables : List Variable → List Variable
bare_variables variables = map (beside bare_slot) variables

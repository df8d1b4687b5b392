-- The faults of a tree: the places where it breaks a rule of names and types, and which.
use Rattle.std.specs.Prelude.{ℕ, ℤ, ◌+◌, ◌-◌, nat_le, unsigned_abs, take, slice_get, Bool, true, false, not, ◌&&◌, ◌==◌, List, [], ◌∷◌, ◌++◌, length, Option, None, Some}
use Rattle.std.specs.List.{flat_map, list_any}
use Rattle.std.specs.Option.{is_none, option_map}
use Rattle.std.proofs.Common.{Bor}
use Rattle.join_base.specs.declared.message.Sort.{Sort}
use Rattle.join_base.specs.declared.message.Sort.TheVariants as sort
use Rattle.join_base.specs.declared.message.Relation.{Relation}
use Rattle.join_base.specs.declared.message.Relation.TheVariants as relation
use Rattle.script_grammar.specs.declared.fault.ScriptCause.TheVariants.{TwiceDeclared, UnknownMessage, UnknownActor, UnknownName, WrongCount, WrongType, StopNotLast, BadWindow, BadReply}
use Rattle.script_grammar.specs.Atoms.{Atom, Atoms, compares, negated, grouped, no_atoms, either}
use Rattle.script_grammar.specs.declared.tree.Spelt.{Spelt}
use Rattle.script_grammar.specs.declared.tree.FieldDecl.{FieldDecl}
use Rattle.script_grammar.specs.declared.tree.MessageDecl.{MessageDecl}
use Rattle.script_grammar.specs.declared.tree.PatternDecl.{PatternDecl}
use Rattle.script_grammar.specs.declared.tree.Part.{Part}
use Rattle.script_grammar.specs.declared.tree.Part.TheVariants as part
use Rattle.script_grammar.specs.declared.tree.LeafDecl.{LeafDecl}
use Rattle.script_grammar.specs.declared.operand.OperandDecl.{OperandDecl}
use Rattle.script_grammar.specs.Operands as operand
pub use Rattle.script_grammar.specs.Operands.{item_place, operand_place}
use Rattle.script_grammar.specs.declared.tree.ItemDecl.{ItemDecl}
use Rattle.script_grammar.specs.declared.tree.ItemDecl.TheVariants as item
use Rattle.script_grammar.specs.declared.tree.StatementDecl.{StatementDecl}
use Rattle.script_grammar.specs.declared.tree.StatementDecl.TheVariants as statement
use Rattle.script_grammar.specs.declared.tree.RuleDecl.{RuleDecl}
use Rattle.script_grammar.specs.declared.tree.ActorDecl.{ActorDecl}
use Rattle.script_grammar.specs.declared.tree.Tree.{Tree}
use Rattle.script_names.specs.declared.scope.Slot.{Slot}
use Rattle.script_names.specs.Names.{item_of, names_of, number_of}
use Rattle.script_names.specs.Scope.{Variable, actor_rows, field_rows, message_of, message_rows, operand_sort, variables_of}
use Rattle.script_faults.specs.declared.first.Fault.{Fault}
use Rattle.script_faults.specs.First.{fault, fault_if, first_of, too_many}

-- ---- places

abbrev pub statement_place : StatementDecl → ℕ
statement_place (statement.Print place items) = place
statement_place (statement.Post place target kind operands) = place
statement_place (statement.Stop place) = place
statement_place (statement.Reply place number_place number operand) = place

-- ---- declarations

-- a name was declared before where it stands for another row than its own
abbrev pub is_other : ℕ → Option ℕ → Bool
is_other number None = false
is_other number (Some first) = not (first == number)

-- the rows from this number on
abbrev pub twice_from : {T : Type 0} → (T → ℕ) → List (List ℕ) → ℕ → List (List ℕ × T) → List Fault
twice_from place names number [] = []
twice_from place names number (row ∷ rows) =
    fault_if (is_other number (number_of row.0 names)) TwiceDeclared (place row.1) ++ twice_from place names (number + 1) rows

abbrev pub twice_declared : {T : Type 0} → (T → ℕ) → List (List ℕ × T) → List Fault
twice_declared place rows = twice_from place (names_of rows) 0 rows

abbrev pub own_place : ℕ → ℕ
own_place place = place

abbrev pub message_faults : MessageDecl → List Fault
message_faults message = too_many 8 (λ (f : FieldDecl). f.name.place) message.fields ++ twice_declared own_place (field_rows message.fields)

-- ---- kinds

-- the fields of the message of a name
abbrev pub fields_of : List MessageDecl → List ℕ → Option (List FieldDecl)
fields_of messages name = option_map (λ (m : MessageDecl). m.fields) (message_of messages name)

abbrev pub fields_or_none : Option (List FieldDecl) → List FieldDecl
fields_or_none None = []
fields_or_none (Some fields) = fields

-- the kind of a pattern or of a post, of which so many values are given
abbrev pub count_faults : Option (List FieldDecl) → Spelt → ℕ → List Fault
count_faults None kind count = fault UnknownMessage kind.place ∷ []
count_faults (Some fields) kind count = fault_if (not (length fields == count)) WrongCount kind.place

abbrev pub pattern_faults : List MessageDecl → PatternDecl → List Fault
pattern_faults messages p = count_faults (fields_of messages p.kind.name) p.kind (length p.variables)

-- fields that were found
abbrev pub fields_among : Option (Bor (List FieldDecl)) → Option (List FieldDecl)
fields_among fields = option_map (λ (f : Bor (List FieldDecl)). f.now) fields

abbrev pub field_among : Option (Bor FieldDecl) → Option FieldDecl
field_among field = option_map (λ (f : Bor FieldDecl). f.now) field

abbrev pub patterns_faults : List MessageDecl → List PatternDecl → List Fault
patterns_faults messages patterns = too_many 8 (λ (p : PatternDecl). p.kind.place) patterns ++ flat_map (pattern_faults messages) patterns

-- ---- terms and operands

abbrev pub is_words : Sort → Bool
is_words sort.Int = false
is_words sort.Words = true

-- a name; a text may stand alone
abbrev pub name_faults : Bool → ℕ → Option Slot → List Fault
name_faults alone place None = fault UnknownName place ∷ []
name_faults alone place (Some slot) = fault_if (not alone && is_words slot.sort) WrongType place

abbrev pub part_faults : List Variable → Bool → ℕ → Part → List Fault
part_faults variables alone place (part.Number n) = []
part_faults variables alone place (part.Named name) = name_faults alone place (item_of name variables)

abbrev pub leaf_faults : List Variable → Bool → LeafDecl → List Fault
leaf_faults variables alone leaf = part_faults variables (alone && not leaf.minus) leaf.place leaf.part

-- in a print a text may not stand in parentheses
abbrev pub term_faults : List Variable → Bool → List LeafDecl → List Fault
term_faults variables bare leaves = too_many 64 (λ (l : LeafDecl). l.place) leaves ++ flat_map (leaf_faults variables (bare && length leaves == 1)) leaves

abbrev pub operand_faults : List Variable → OperandDecl → List Fault
operand_faults variables (operand.Fixed place words) = []
operand_faults variables (operand.Sum place leaves) = term_faults variables true leaves

-- ---- guards

-- two operands and what is between them
pub record Comparing : Type 0 where
  pub left : OperandDecl
  pub relation : Relation
  pub right : OperandDecl

abbrev mutual
  pub atom_comparisons : Atom → List Comparing
  atom_comparisons (compares l r o) = record { left = l; relation = r; right = o } ∷ []
  atom_comparisons (negated a) = atom_comparisons a
  atom_comparisons (grouped atoms) = comparisons atoms

  pub comparisons : Atoms → List Comparing
  comparisons no_atoms = []
  comparisons (either a atoms) = atom_comparisons a ++ comparisons atoms

-- texts have no order
abbrev pub is_order : Relation → Bool
is_order relation.Equal = false
is_order relation.NotEqual = false
is_order relation.Less = true
is_order relation.LessEqual = true
is_order relation.Greater = true
is_order relation.GreaterEqual = true

abbrev pub is_same : Sort → Sort → Bool
is_same sort.Int sort.Int = true
is_same sort.Words sort.Words = true
is_same sort.Int sort.Words = false
is_same sort.Words sort.Int = false

abbrev pub comparison_faults : List Variable → Comparing → List Fault
comparison_faults variables c =
    operand_faults variables c.left ++ operand_faults variables c.right
    ++ fault_if (is_order c.relation && is_words (operand_sort variables c.left)) WrongType (operand_place c.left)
    ++ fault_if (not (is_same (operand_sort variables c.left) (operand_sort variables c.right))) WrongType (operand_place c.right)

abbrev pub guard_comparisons : List Atoms → List Comparing
guard_comparisons guard = flat_map comparisons guard

abbrev pub guard_faults : List Variable → List Comparing → List Fault
guard_faults variables cs = too_many 64 (λ (c : Comparing). operand_place c.left) cs ++ flat_map (comparison_faults variables) cs

-- ---- windows

-- a number of the text has no sign
abbrev pub is_window : ℕ → Bool
is_window number = nat_le 1 number && nat_le number 1000000

abbrev pub window_faults : Option (ℕ × ℤ) → List Fault
window_faults None = []
window_faults (Some window) = fault_if (not (is_window (unsigned_abs window.1))) BadWindow window.0

-- ---- bodies

abbrev pub item_faults : List Variable → ItemDecl → List Fault
item_faults variables (item.Fixed place words) = []
item_faults variables (item.Named spelt) = name_faults true spelt.place (item_of spelt.name variables)
item_faults variables (item.Sum place leaves) = term_faults variables false leaves

-- an operand that has not the type of its field; where there are too many operands is a fault of its own
abbrev pub wrong_type : List Variable → Option FieldDecl → OperandDecl → List Fault
wrong_type variables None o = []
wrong_type variables (Some field) o = fault_if (not (is_same field.sort (operand_sort variables o))) WrongType (operand_place o)

-- the operands for the fields from this number on
abbrev pub type_faults : List Variable → List FieldDecl → ℕ → List OperandDecl → List Fault
type_faults variables fields number [] = []
type_faults variables fields number (o ∷ os) = wrong_type variables (slice_get fields number) o ++ type_faults variables fields (number + 1) os

abbrev pub print_faults : List Variable → List ItemDecl → List Fault
print_faults variables items = too_many 16 item_place items ++ flat_map (item_faults variables) items

module _ (messages : List MessageDecl) (actors : List (List ℕ × ℕ)) where
  abbrev pub post_faults : List Variable → Spelt → Spelt → List OperandDecl → List Fault
  post_faults variables target kind operands =
      fault_if (is_none (number_of target.name (names_of actors))) UnknownActor target.place ++ count_faults (fields_of messages kind.name) kind (length operands)
      ++ type_faults variables (fields_or_none (fields_of messages kind.name)) 0 operands ++ flat_map (operand_faults variables) operands

  abbrev pub statement_faults : List Variable → StatementDecl → List Fault
  statement_faults variables (statement.Print place items) = print_faults variables items
  statement_faults variables (statement.Post place target kind operands) = post_faults variables target kind operands
  statement_faults variables (statement.Stop place) = []
  statement_faults variables (statement.Reply place number_place number operand) = operand_faults variables operand

abbrev pub stop_fault : StatementDecl → List Fault
stop_fault (statement.Print place items) = []
stop_fault (statement.Post place target kind operands) = []
stop_fault (statement.Stop place) = fault StopNotLast place ∷ []
stop_fault (statement.Reply place number_place number operand) = []

-- each `stop` among the statements before the last
abbrev pub stop_faults : List StatementDecl → List Fault
stop_faults body = flat_map stop_fault (take (length body - 1) body)

-- a reply may name the number, from 1, of one of so many patterns, where no earlier reply named it
abbrev pub may_reply : ℕ → List ℕ → ℕ → Bool
may_reply patterns earlier number = nat_le 1 number && (nat_le number patterns && not (list_any (λ other. number == other) earlier))

abbrev pub reply_fault : ℕ → List ℕ → StatementDecl → List Fault
reply_fault patterns earlier (statement.Print place items) = []
reply_fault patterns earlier (statement.Post place target kind operands) = []
reply_fault patterns earlier (statement.Stop place) = []
reply_fault patterns earlier (statement.Reply place number_place number operand) = fault_if (not (may_reply patterns earlier (unsigned_abs number))) BadReply number_place

-- the numbers that replies named, with that of this statement
abbrev pub with_number : List ℕ → StatementDecl → List ℕ
with_number earlier (statement.Print place items) = earlier
with_number earlier (statement.Post place target kind operands) = earlier
with_number earlier (statement.Stop place) = earlier
with_number earlier (statement.Reply place number_place number operand) = unsigned_abs number ∷ earlier

-- the replies among the statements that name a wrong number, where earlier ones named these
abbrev pub reply_faults : ℕ → List ℕ → List StatementDecl → List Fault
reply_faults patterns earlier [] = []
reply_faults patterns earlier (x ∷ body) = reply_fault patterns earlier x ++ reply_faults patterns (with_number earlier x) body

module _ (messages : List MessageDecl) (actors : List (List ℕ × ℕ)) where
  abbrev pub body_faults : List Variable → List StatementDecl → List Fault
  body_faults variables body = too_many 16 statement_place body ++ stop_faults body ++ flat_map (statement_faults messages actors variables) body

  -- ---- definitions and actors

  abbrev pub rule_faults : RuleDecl → List Fault
  rule_faults rule =
      let variables = variables_of messages rule in
      patterns_faults messages rule.patterns ++ twice_declared (λ (slot : Slot). slot.place) variables
      ++ guard_faults variables (guard_comparisons rule.guard) ++ body_faults variables rule.body
      ++ window_faults rule.window ++ reply_faults (length rule.patterns) [] rule.body

  abbrev pub actor_faults : ActorDecl → List Fault
  actor_faults actor = too_many 16 (λ (r : RuleDecl). r.place) actor.rules ++ flat_map rule_faults actor.rules

-- the faults of a tree, in no order
abbrev pub faults_of : Tree → List Fault
faults_of tree =
    too_many 64 (λ (m : MessageDecl). m.name.place) tree.messages ++ twice_declared own_place (message_rows tree.messages) ++ flat_map message_faults tree.messages
    ++ too_many 32 (λ (a : ActorDecl). a.name.place) tree.actors ++ twice_declared own_place (actor_rows tree.actors) ++ flat_map (actor_faults tree.messages (actor_rows tree.actors)) tree.actors

-- the fault that is reported, if there is one
abbrev pub first_fault : Tree → Option Fault
first_fault tree = first_of None (faults_of tree)

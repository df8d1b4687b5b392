-- What the names of a script mean: a message, and a variable of a definition. A name means its first declaration,
-- which may stand later in the text.
use Rattle.std.specs.Prelude.{ℕ, ◌+◌, Bool, false, List, [], ◌∷◌, ◌++◌, Option, None, Some, map, slice_get}
use Rattle.std.proofs.Common.{Bor}
use Rattle.std.specs.Option.{option_map, option_and_then}
use Rattle.join_base.specs.declared.message.Sort.{Sort}
use Rattle.join_base.specs.declared.message.Sort.TheVariants as sort
use Rattle.script_names.specs.declared.scope.Slot.{Slot}
use Rattle.script_grammar.specs.declared.tree.Spelt.{Spelt}
use Rattle.script_grammar.specs.declared.tree.MessageDecl.{MessageDecl}
use Rattle.script_grammar.specs.declared.tree.FieldDecl.{FieldDecl}
use Rattle.script_grammar.specs.declared.tree.ActorDecl.{ActorDecl}
use Rattle.script_grammar.specs.declared.tree.PatternDecl.{PatternDecl}
use Rattle.script_grammar.specs.declared.tree.Part.{Part}
use Rattle.script_grammar.specs.declared.tree.Part.TheVariants as part
use Rattle.script_grammar.specs.declared.tree.LeafDecl.{LeafDecl}
use Rattle.script_grammar.specs.declared.operand.OperandDecl.{OperandDecl}
use Rattle.script_grammar.specs.Operands as operand
use Rattle.script_grammar.specs.declared.tree.RuleDecl.{RuleDecl}
use Rattle.script_names.specs.Names.{bound_all, item_of, names_of, number_of}

-- names with their places in the text
abbrev pub message_rows : List MessageDecl → List (List ℕ × ℕ)
message_rows messages = map (λ (m : MessageDecl). (m.name.name, m.name.place)) messages

abbrev pub spelt_rows : List Spelt → List (List ℕ × ℕ)
spelt_rows names = map (λ (s : Spelt). (s.name, s.place)) names

abbrev pub actor_rows : List ActorDecl → List (List ℕ × ℕ)
actor_rows actors = map (λ (a : ActorDecl). (a.name.name, a.name.place)) actors

abbrev pub field_rows : List FieldDecl → List (List ℕ × ℕ)
field_rows fields = map (λ (f : FieldDecl). (f.name.name, f.name.place)) fields

-- the number of the message, or of the actor, of a name
abbrev pub message_number : List MessageDecl → List ℕ → Option ℕ
message_number messages name = number_of name (names_of (message_rows messages))

abbrev pub actor_number : List ActorDecl → List ℕ → Option ℕ
actor_number actors name = number_of name (names_of (actor_rows actors))

abbrev pub message_of : List MessageDecl → List ℕ → Option MessageDecl
message_of messages name = option_and_then (slice_get messages) (message_number messages name)

abbrev pub field_sorts : List FieldDecl → List Sort
field_sorts fields = map (λ (f : FieldDecl). f.sort) fields

-- the types of the fields of the message of a name, and none where no message has it
abbrev pub sorts_in : Option MessageDecl → List Sort
sorts_in None = []
sorts_in (Some message) = field_sorts message.fields

-- the same of fields that were found
abbrev pub sorts_among : Option (Bor (List FieldDecl)) → List Sort
sorts_among None = []
sorts_among (Some fields) = field_sorts fields.now

abbrev pub sorts_of : List MessageDecl → List ℕ → List Sort
sorts_of messages name = sorts_in (message_of messages name)

-- a field that the message has not counts as an integer
abbrev pub sort_in : Option Sort → Sort
sort_in None = sort.Int
sort_in (Some s) = s

abbrev pub sort_at : List Sort → ℕ → Sort
sort_at sorts field = sort_in (slice_get sorts field)

-- a variable of a definition: its name, with its place and the field that it stands for
abbrev pub Variable : Type 0
Variable = List ℕ × Slot

-- the blank declares nothing
abbrev pub variable_at : Slot → Option (List ℕ) → List Variable
variable_at slot None = []
variable_at slot (Some name) = (name, slot) ∷ []

-- the variables of a pattern of this number, from this field on
abbrev pub variables_in : ℕ → List Sort → ℕ → List (ℕ × Option (List ℕ)) → List Variable
variables_in pattern sorts field [] = []
variables_in pattern sorts field (v ∷ vs) =
    variable_at (record { place = v.0; pattern = pattern; field = field; sort = sort_at sorts field }) v.1 ++ variables_in pattern sorts (field + 1) vs

-- the variables of these patterns, which are numbered from here on
abbrev pub variables_from : List MessageDecl → ℕ → List PatternDecl → List Variable
variables_from messages pattern [] = []
variables_from messages pattern (p ∷ ps) = variables_in pattern (sorts_of messages p.kind.name) 0 p.variables ++ variables_from messages (pattern + 1) ps

-- the variables of a definition, in order
abbrev pub variables_of : List MessageDecl → RuleDecl → List Variable
variables_of messages rule = variables_from messages 0 rule.patterns

-- what stands for a variable of which the type alone is known
abbrev pub sort_slot : Sort → Slot
sort_slot s = record { place = 0; pattern = 0; field = 0; sort = s }

abbrev pub type_alone : Slot → Slot
type_alone slot = sort_slot slot.sort

abbrev pub typed : Variable → Variable
typed variable = (variable.0, type_alone variable.1)

-- the rows with the types of these variables, of each name the first
abbrev pub types_bound : List Variable → List Variable → List Variable
types_bound rows variables = bound_all rows (map typed variables)

-- the type of the variable of a name; a name that no variable has counts as an integer
abbrev pub sort_of : List Variable → List ℕ → Sort
sort_of variables name = sort_in (option_map (λ (slot : Slot). slot.sort) (item_of name variables))

-- the name that a term is, where it is one name without a sign
abbrev pub name_in : Bool → Part → Option (List ℕ)
name_in false (part.Named name) = Some name
name_in _ _ = None

abbrev pub only_name : List LeafDecl → Option (List ℕ)
only_name (leaf ∷ []) = name_in leaf.minus leaf.part
only_name _ = None

-- a term is a text where it is the name of a text variable
abbrev pub name_sort : List Variable → Option (List ℕ) → Sort
name_sort variables None = sort.Int
name_sort variables (Some name) = sort_of variables name

abbrev pub operand_sort : List Variable → OperandDecl → Sort
operand_sort variables (operand.Fixed place words) = sort.Words
operand_sort variables (operand.Sum place leaves) = name_sort variables (only_name leaves)

-- What a name means does not hang on places.
use Rattle.std.proofs.Common.{◌≡◌, ◌∙◌, ℕ, ◌+◌, List, [], ◌∷◌, ◌++◌, map, Option, None, Some, refl, sym, ap}
use Rattle.std.specs.Prelude.{slice_get}
use Rattle.std.specs.Option.{option_and_then, option_map}
use Rattle.std.proofs.lemmas.List.{map-append}
use Rattle.std.proofs.lemmas.Option.{slice_get-map}
use Rattle.join_base.specs.declared.message.Sort.{Sort}
use Rattle.script_grammar.specs.declared.tree.FieldDecl.{FieldDecl}
use Rattle.script_grammar.specs.declared.tree.MessageDecl.{MessageDecl}
use Rattle.script_grammar.specs.declared.tree.PatternDecl.{PatternDecl}
use Rattle.script_grammar.specs.declared.tree.LeafDecl.{LeafDecl}
use Rattle.script_grammar.specs.declared.operand.OperandDecl.{OperandDecl}
use Rattle.script_grammar.specs.Operands as o
use Rattle.script_grammar.specs.declared.tree.RuleDecl.{RuleDecl}
use Rattle.script_grammar.specs.declared.tree.ActorDecl.{ActorDecl}
use Rattle.script_names.specs.declared.scope.Slot.{Slot}
use Rattle.script_names.specs.Names.{item_of, names_of, number_of}
use Rattle.script_names.specs.Scope.{Variable, actor_number, actor_rows, field_rows, message_number, message_of, message_rows, name_sort, only_name, operand_sort, sort_at, sort_in, sort_of, sorts_in, sorts_of, variable_at, variables_from, variables_in, variables_of}
use Rattle.place_law.proofs.Bare.{bare_place, bare_pair, bare_field, bare_message, bare_messages, bare_rows, bare_pattern, bare_leaf, bare_operand, bare_rule, bare_actor, bare_slot, bare_variables, beside}

-- ---- lists

-- mapping what was mapped before, where each item comes to the same
pub map_same : {A B C : Type 0} (f : B → C) (g : A → B) (h : A → C) → ((a : A) → f (g a) ≡ h a) → (xs : List A) → map f (map g xs) ≡ map h xs
map_same f g h is [] = refl
map_same f g h is (x ∷ xs) = ap (λ c. c ∷ map f (map g xs)) (is x) ∙ ap (λ cs. h x ∷ cs) (map_same f g h is xs)

pub map-commutes : {A B C D : Type 0} (f : B → D) (g : A → B) (h : C → D) (k : A → C) → ((a : A) → f (g a) ≡ h (k a)) → (xs : List A) → map f (map g xs) ≡ map h (map k xs)
map-commutes f g h k is xs = map_same f g (λ a. h (k a)) is xs ∙ sym (map_same h k (λ a. h (k a)) (λ a. refl) xs)

-- the item of a number that may be missing
at-map : {A B : Type 0} (f : A → B) (xs : List A) (number : Option ℕ) → option_and_then (slice_get (map f xs)) number ≡ option_map f (option_and_then (slice_get xs) number)
at-map f xs None = refl
at-map f xs (Some number) = slice_get-map f xs number

pub append-maps : {A B : Type 0} (f : A → B) (front back : List B) (xs ys : List A) → front ≡ map f xs → back ≡ map f ys → front ++ back ≡ map f (xs ++ ys)
append-maps f front back xs ys one other = ap (λ bs. bs ++ back) one ∙ ap (λ bs. map f xs ++ bs) other ∙ sym (map-append f xs ys)

-- ---- names in a list

module _ {T : Type 0} (f : T → T) where
  pub names-beside : (rows : List (List ℕ × T)) → names_of (map (beside f) rows) ≡ names_of rows
  names-beside rows = map_same (λ (row : List ℕ × T). row.0) (beside f) (λ (row : List ℕ × T). row.0) (λ row. refl) rows

  second-beside : (found : Option (List ℕ × T)) → option_map (λ (row : List ℕ × T). row.1) (option_map (beside f) found) ≡ option_map f (option_map (λ (row : List ℕ × T). row.1) found)
  second-beside None = refl
  second-beside (Some row) = refl

  pub item_of-beside : (name : List ℕ) (rows : List (List ℕ × T)) → item_of name (map (beside f) rows) ≡ option_map f (item_of name rows)
  item_of-beside name rows =
      let number = number_of name (names_of rows) in
      ap (λ (names : List (List ℕ)). option_map (λ (row : List ℕ × T). row.1) (option_and_then (slice_get (map (beside f) rows)) (number_of name names))) (names-beside rows)
      ∙ ap (option_map (λ (row : List ℕ × T). row.1)) (at-map (beside f) rows number)
      ∙ second-beside (option_and_then (slice_get rows) number)

-- ---- messages and actors

pub message_rows-bare : (messages : List MessageDecl) → message_rows (bare_messages messages) ≡ bare_rows (message_rows messages)
message_rows-bare messages =
    map-commutes (λ (m : MessageDecl). (m.name.name, m.name.place)) bare_message (beside bare_place) (λ (m : MessageDecl). (m.name.name, m.name.place)) (λ m. refl) messages

pub actor_rows-bare : (actors : List ActorDecl) → actor_rows (map bare_actor actors) ≡ bare_rows (actor_rows actors)
actor_rows-bare actors =
    map-commutes (λ (a : ActorDecl). (a.name.name, a.name.place)) bare_actor (beside bare_place) (λ (a : ActorDecl). (a.name.name, a.name.place)) (λ a. refl) actors

pub field_rows-bare : (fields : List FieldDecl) → field_rows (map bare_field fields) ≡ bare_rows (field_rows fields)
field_rows-bare fields =
    map-commutes (λ (f : FieldDecl). (f.name.name, f.name.place)) bare_field (beside bare_place) (λ (f : FieldDecl). (f.name.name, f.name.place)) (λ f. refl) fields

pub message_number-bare : (messages : List MessageDecl) (name : List ℕ) → message_number (bare_messages messages) name ≡ message_number messages name
message_number-bare messages name =
    ap (λ (rows : List (List ℕ × ℕ)). number_of name (names_of rows)) (message_rows-bare messages) ∙ ap (number_of name) (names-beside bare_place (message_rows messages))

pub actor_number-bare : (actors : List ActorDecl) (name : List ℕ) → actor_number (map bare_actor actors) name ≡ actor_number actors name
actor_number-bare actors name =
    ap (λ (rows : List (List ℕ × ℕ)). number_of name (names_of rows)) (actor_rows-bare actors) ∙ ap (number_of name) (names-beside bare_place (actor_rows actors))

pub message_of-bare : (messages : List MessageDecl) (name : List ℕ) → message_of (bare_messages messages) name ≡ option_map bare_message (message_of messages name)
message_of-bare messages name =
    ap (option_and_then (slice_get (bare_messages messages))) (message_number-bare messages name) ∙ at-map bare_message messages (message_number messages name)

sorts_in-bare : (found : Option MessageDecl) → sorts_in (option_map bare_message found) ≡ sorts_in found
sorts_in-bare None = refl
sorts_in-bare (Some message) = map_same (λ (f : FieldDecl). f.sort) bare_field (λ (f : FieldDecl). f.sort) (λ f. refl) message.fields

sorts_of-bare : (messages : List MessageDecl) (name : List ℕ) → sorts_of (bare_messages messages) name ≡ sorts_of messages name
sorts_of-bare messages name = ap sorts_in (message_of-bare messages name) ∙ sorts_in-bare (message_of messages name)

-- ---- the variables of a definition

variable_at-bare : (slot : Slot) (name : Option (List ℕ)) → variable_at (bare_slot slot) name ≡ bare_variables (variable_at slot name)
variable_at-bare slot None = refl
variable_at-bare slot (Some name) = refl

variables_in-bare : (pattern : ℕ) (sorts : List Sort) (field : ℕ) (vs : List (ℕ × Option (List ℕ))) → variables_in pattern sorts field (map bare_pair vs) ≡ bare_variables (variables_in pattern sorts field vs)
variables_in-bare pattern sorts field [] = refl
variables_in-bare pattern sorts field (v ∷ vs) =
    let slot : Slot = record { place = v.0; pattern = pattern; field = field; sort = sort_at sorts field } in
    append-maps (beside bare_slot) (variable_at (bare_slot slot) v.1) (variables_in pattern sorts (field + 1) (map bare_pair vs)) (variable_at slot v.1) (variables_in pattern sorts (field + 1) vs)
    (variable_at-bare slot v.1) (variables_in-bare pattern sorts (field + 1) vs)

variables_from-bare : (messages : List MessageDecl) (pattern : ℕ) (ps : List PatternDecl)
    → variables_from (bare_messages messages) pattern (map bare_pattern ps) ≡ bare_variables (variables_from messages pattern ps)
variables_from-bare messages pattern [] = refl
variables_from-bare messages pattern (p ∷ ps) =
    let sorts = sorts_of messages p.kind.name in
    append-maps (beside bare_slot) (variables_in pattern (sorts_of (bare_messages messages) p.kind.name) 0 (map bare_pair p.variables)) (variables_from (bare_messages messages) (pattern + 1) (map bare_pattern ps))
    (variables_in pattern sorts 0 p.variables) (variables_from messages (pattern + 1) ps)
    (ap (λ (s : List Sort). variables_in pattern s 0 (map bare_pair p.variables)) (sorts_of-bare messages p.kind.name) ∙ variables_in-bare pattern sorts 0 p.variables)
    (variables_from-bare messages (pattern + 1) ps)

pub variables_of-bare : (messages : List MessageDecl) (rule : RuleDecl) → variables_of (bare_messages messages) (bare_rule rule) ≡ bare_variables (variables_of messages rule)
variables_of-bare messages rule = variables_from-bare messages 0 rule.patterns

-- ---- the type of a name, of a term and of an operand

slot_sort-bare : (found : Option Slot) → option_map (λ (slot : Slot). slot.sort) (option_map bare_slot found) ≡ option_map (λ (slot : Slot). slot.sort) found
slot_sort-bare None = refl
slot_sort-bare (Some slot) = refl

pub only_name-bare : (leaves : List LeafDecl) → only_name (map bare_leaf leaves) ≡ only_name leaves
only_name-bare [] = refl
only_name-bare (leaf ∷ []) = refl
only_name-bare (leaf ∷ next ∷ leaves) = refl

module _ (variables : List Variable) where
  pub sort_of-bare : (name : List ℕ) → sort_of (bare_variables variables) name ≡ sort_of variables name
  sort_of-bare name =
      ap (λ (found : Option Slot). sort_in (option_map (λ (slot : Slot). slot.sort) found)) (item_of-beside bare_slot name variables) ∙ ap sort_in (slot_sort-bare (item_of name variables))

  name_sort-bare : (name : Option (List ℕ)) → name_sort (bare_variables variables) name ≡ name_sort variables name
  name_sort-bare None = refl
  name_sort-bare (Some name) = sort_of-bare name

  pub operand_sort-bare : (x : OperandDecl) → operand_sort (bare_variables variables) (bare_operand x) ≡ operand_sort variables x
  operand_sort-bare (o.Fixed place words) = refl
  operand_sort-bare (o.Sum place leaves) = ap (name_sort (bare_variables variables)) (only_name-bare leaves) ∙ name_sort-bare (only_name leaves)

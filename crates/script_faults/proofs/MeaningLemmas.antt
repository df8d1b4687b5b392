-- Variables of which the types alone are known have the same faults.
use Rattle.std.proofs.Common.{◌≡◌, ◌++◌, ◌+◌, ◌&&◌, ◌==◌, ℕ, Bool, true, false, not, List, [], ◌∷◌, length, Option, None, Some, refl, ap, ◌∙◌}
use Rattle.std.specs.Prelude.{slice_get}
use Rattle.std.specs.List.{flat_map}
use Rattle.std.specs.Option.{is_none, option_map}
use Rattle.join_base.specs.declared.message.Sort.{Sort}
use Rattle.script_grammar.specs.Operands as o
use Rattle.script_grammar.specs.Operands.{item_place, leaf_place, operand_place}
use Rattle.script_grammar.specs.declared.fault.ScriptCause.TheVariants.{UnknownActor, WrongType}
use Rattle.script_grammar.specs.declared.operand.OperandDecl.{OperandDecl}
use Rattle.script_grammar.specs.declared.tree.FieldDecl.{FieldDecl}
use Rattle.script_grammar.specs.declared.tree.ItemDecl.{ItemDecl}
use Rattle.script_grammar.specs.declared.tree.ItemDecl.TheVariants as item
use Rattle.script_grammar.specs.declared.tree.LeafDecl.{LeafDecl}
use Rattle.script_grammar.specs.declared.tree.MessageDecl.{MessageDecl}
use Rattle.script_grammar.specs.declared.tree.Part.{Part}
use Rattle.script_grammar.specs.declared.tree.Part.TheVariants as part
use Rattle.script_grammar.specs.declared.tree.StatementDecl.{StatementDecl}
use Rattle.script_grammar.specs.declared.tree.StatementDecl.TheVariants as statement
use Rattle.script_names.specs.declared.scope.Slot.{Slot}
use Rattle.script_names.specs.Names.{item_of, names_of, number_of}
use Rattle.script_names.specs.Scope.{Variable, name_sort, only_name, operand_sort, sort_in, type_alone}
use Rattle.script_faults.specs.declared.first.Fault.{Fault}
use Rattle.script_faults.specs.First.{fault_if, too_many}
use Rattle.script_faults.specs.Faults.{Comparing, body_faults, comparison_faults, count_faults, fields_of, fields_or_none, guard_faults, is_order, is_same, is_words, item_faults, leaf_faults, name_faults, operand_faults, part_faults, statement_faults, statement_place, stop_faults, term_faults, type_faults, wrong_type}

each_same : {X : Type 0} (f g : X → List Fault) → ((x : X) → f x ≡ g x) → (xs : List X) → flat_map f xs ≡ flat_map g xs
each_same f g same [] = refl
each_same f g same (x ∷ xs) = λ i. same x i ++ each_same f g same xs i

same_found : (alone : Bool) (place : ℕ) (found : Option Slot) → name_faults alone place (option_map type_alone found) ≡ name_faults alone place found
same_found alone place None = refl
same_found alone place (Some slot) = refl

same_sort_found : (found : Option Slot) → sort_in (option_map (λ (slot : Slot). slot.sort) (option_map type_alone found)) ≡ sort_in (option_map (λ (slot : Slot). slot.sort) found)
same_sort_found None = refl
same_sort_found (Some slot) = refl

module _ (one other : List Variable) (same : (name : List ℕ) → item_of name one ≡ option_map type_alone (item_of name other)) where
  same_named : (alone : Bool) (place : ℕ) (name : List ℕ) → name_faults alone place (item_of name one) ≡ name_faults alone place (item_of name other)
  same_named alone place name = ap (name_faults alone place) (same name) ∙ same_found alone place (item_of name other)

  same_part : (alone : Bool) (place : ℕ) (x : Part) → part_faults one alone place x ≡ part_faults other alone place x
  same_part alone place (part.Number n) = refl
  same_part alone place (part.Named name) = same_named alone place name

  same_leaf : (alone : Bool) (leaf : LeafDecl) → leaf_faults one alone leaf ≡ leaf_faults other alone leaf
  same_leaf alone leaf = same_part (alone && not leaf.minus) leaf.place leaf.part

  same_term : (bare : Bool) (leaves : List LeafDecl) → term_faults one bare leaves ≡ term_faults other bare leaves
  same_term bare leaves =
      let alone = bare && (length leaves == 1) in
      ap (λ (l : List Fault). too_many 64 leaf_place leaves ++ l) (each_same (leaf_faults one alone) (leaf_faults other alone) (same_leaf alone) leaves)

  same_operand : (x : OperandDecl) → operand_faults one x ≡ operand_faults other x
  same_operand (o.Fixed place words) = refl
  same_operand (o.Sum place leaves) = same_term true leaves

  same_name_sort : (name : Option (List ℕ)) → name_sort one name ≡ name_sort other name
  same_name_sort None = refl
  same_name_sort (Some name) = ap (λ (s : Option Slot). sort_in (option_map (λ (slot : Slot). slot.sort) s)) (same name) ∙ same_sort_found (item_of name other)

  same_sort : (x : OperandDecl) → operand_sort one x ≡ operand_sort other x
  same_sort (o.Fixed place words) = refl
  same_sort (o.Sum place leaves) = same_name_sort (only_name leaves)

  same_comparison : (c : Comparing) → comparison_faults one c ≡ comparison_faults other c
  same_comparison c = λ i.
      same_operand c.left i ++ same_operand c.right i
      ++ fault_if (is_order c.relation && is_words (same_sort c.left i)) WrongType (operand_place c.left)
      ++ fault_if (not (is_same (same_sort c.left i) (same_sort c.right i))) WrongType (operand_place c.right)

  pub same_guard : (cs : List Comparing) → guard_faults one cs ≡ guard_faults other cs
  same_guard cs =
      ap (λ (l : List Fault). too_many 64 (λ (c : Comparing). operand_place c.left) cs ++ l) (each_same (comparison_faults one) (comparison_faults other) same_comparison cs)

  same_item : (x : ItemDecl) → item_faults one x ≡ item_faults other x
  same_item (item.Fixed place words) = refl
  same_item (item.Named spelt) = same_named true spelt.place spelt.name
  same_item (item.Sum place leaves) = same_term false leaves

  same_wrong : (field : Option FieldDecl) (x : OperandDecl) → wrong_type one field x ≡ wrong_type other field x
  same_wrong None x = refl
  same_wrong (Some field) x = ap (λ (s : Sort). fault_if (not (is_same field.sort s)) WrongType (operand_place x)) (same_sort x)

  same_types : (fields : List FieldDecl) (number : ℕ) (xs : List OperandDecl) → type_faults one fields number xs ≡ type_faults other fields number xs
  same_types fields number [] = refl
  same_types fields number (x ∷ xs) = λ i. same_wrong (slice_get fields number) x i ++ same_types fields (number + 1) xs i

  module _ (messages : List MessageDecl) (actors : List (List ℕ × ℕ)) where
    same_statement : (x : StatementDecl) → statement_faults messages actors one x ≡ statement_faults messages actors other x
    same_statement (statement.Print place items) = ap (λ (l : List Fault). too_many 16 item_place items ++ l) (each_same (item_faults one) (item_faults other) same_item items)
    same_statement (statement.Post place target kind operands) = λ i.
        fault_if (is_none (number_of target.name (names_of actors))) UnknownActor target.place ++ count_faults (fields_of messages kind.name) kind (length operands)
        ++ same_types (fields_or_none (fields_of messages kind.name)) 0 operands i ++ each_same (operand_faults one) (operand_faults other) same_operand operands i
    same_statement (statement.Stop place) = refl
    same_statement (statement.Reply place number_place number x) = same_operand x

    pub same_body : (body : List StatementDecl) → body_faults messages actors one body ≡ body_faults messages actors other body
    same_body body =
        ap (λ (l : List Fault). too_many 16 statement_place body ++ stop_faults body ++ l)
        (each_same (statement_faults messages actors one) (statement_faults messages actors other) same_statement body)

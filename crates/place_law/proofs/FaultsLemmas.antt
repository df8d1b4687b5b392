-- A tree has the same faults as one that differs in places alone, each at a place of its own.
use Rattle.std.proofs.Common.{◌≡◌, ◌∙◌, ℕ, ℤ, ◌+◌, ◌-◌, Bool, true, false, List, [], ◌∷◌, ◌++◌, length, map, take, Option, None, Some, refl, sym, ap, subst}
use Rattle.std.specs.Prelude.{not, ◌&&◌, ◌==◌, slice_get, unsigned_abs}
use Rattle.std.specs.List.{flat_map}
use Rattle.std.specs.Option.{is_none, option_map}
use Rattle.std.proofs.lemmas.List.{length-map, map-append, take-map}
use Rattle.std.proofs.lemmas.Option.{slice_get-map}
use Rattle.join_base.specs.declared.message.Sort.{Sort}
use Rattle.script_grammar.specs.declared.fault.ScriptCause.{ScriptCause}
use Rattle.script_grammar.specs.declared.fault.ScriptCause.TheVariants.{BadReply, BadWindow, TwiceDeclared, UnknownActor, WrongCount, WrongType}
use Rattle.script_grammar.specs.Atoms.{Atom, Atoms, compares, negated, grouped, no_atoms, either}
use Rattle.script_grammar.specs.declared.tree.Spelt.{Spelt}
use Rattle.script_grammar.specs.declared.tree.FieldDecl.{FieldDecl}
use Rattle.script_grammar.specs.declared.tree.MessageDecl.{MessageDecl}
use Rattle.script_grammar.specs.declared.tree.PatternDecl.{PatternDecl}
use Rattle.script_grammar.specs.declared.tree.Part.{Part}
use Rattle.script_grammar.specs.declared.tree.Part.TheVariants as part
use Rattle.script_grammar.specs.declared.tree.LeafDecl.{LeafDecl}
use Rattle.script_grammar.specs.declared.operand.OperandDecl.{OperandDecl}
use Rattle.script_grammar.specs.Operands as o
use Rattle.script_grammar.specs.declared.tree.ItemDecl.{ItemDecl}
use Rattle.script_grammar.specs.declared.tree.ItemDecl.TheVariants as i
use Rattle.script_grammar.specs.declared.tree.StatementDecl.{StatementDecl}
use Rattle.script_grammar.specs.declared.tree.StatementDecl.TheVariants as s
use Rattle.script_grammar.specs.declared.tree.RuleDecl.{RuleDecl}
use Rattle.script_grammar.specs.declared.tree.ActorDecl.{ActorDecl}
use Rattle.script_grammar.specs.declared.tree.Tree.{Tree}
use Rattle.script_names.specs.declared.scope.Slot.{Slot}
use Rattle.script_names.specs.Names.{item_of, names_of, number_of}
use Rattle.script_names.specs.Scope.{Variable, actor_rows, field_rows, message_of, message_rows, operand_sort, variables_of}
use Rattle.script_faults.specs.declared.first.Fault.{Fault}
use Rattle.script_faults.specs.First.{fault_if, one_too_many, too_many}
use Rattle.script_faults.specs.Faults.{Comparing, actor_faults, atom_comparisons, body_faults, comparison_faults, comparisons, count_faults, faults_of, fields_of, fields_or_none, guard_comparisons, guard_faults, is_order, is_other, is_same, is_window, is_words, item_faults, item_place, leaf_faults, may_reply, message_faults, name_faults, operand_faults, operand_place, own_place, part_faults, pattern_faults, patterns_faults, print_faults, reply_faults, rule_faults, statement_faults, statement_place, stop_fault, stop_faults, term_faults, twice_declared, twice_from, type_faults, window_faults, wrong_type}
use Rattle.place_law.proofs.Bare.{bare_place, bare_pair, bare_spelt, bare_field, bare_message, bare_messages, bare_rows, bare_pattern, bare_leaf, bare_operand, bare_atom, bare_atoms, bare_comparing, bare_item, bare_statement, bare_window, bare_rule, bare_actor, bare_tree, bare_slot, bare_variables, beside}
use Rattle.place_law.proofs.NamesLemmas.{actor_rows-bare, append-maps, field_rows-bare, item_of-beside, message_of-bare, message_rows-bare, names-beside, operand_sort-bare, variables_of-bare}

-- ---- faults of the same causes

abbrev pub cause_of : Fault → ScriptCause
cause_of fault = fault.cause

pub record SameCauses (faults others : List Fault) : Type 0 where
  pub same : map cause_of faults ≡ map cause_of others

none_same : SameCauses [] []
none_same = record { same = refl }

pub turned : {faults others : List Fault} → SameCauses faults others → SameCauses others faults
turned same = record { same = sym same.same }

-- where one has no fault, the other has none
pub no_fault : (faults others : List Fault) → SameCauses faults others → others ≡ [] → faults ≡ []
no_fault [] others same none = refl
no_fault (f ∷ faults) [] same none = let causes = same.same in absurd cc
no_fault (f ∷ faults) (g ∷ others) same none = absurd cc

joined : {one other some more : List Fault} → SameCauses one some → SameCauses other more → SameCauses (one ++ other) (some ++ more)
joined {one} {other} {some} {more} p q = record { same = map-append cause_of one other ∙ append-maps cause_of (map cause_of one) (map cause_of other) some more p.same q.same }

-- a fault where the same test is true
by-test : (b : Bool) (cause : ScriptCause) (place other : ℕ) → SameCauses (fault_if b cause place) (fault_if b cause other)
by-test true cause place other = record { same = refl }
by-test false cause place other = none_same

by-tests : (a b : Bool) (cause : ScriptCause) (place other : ℕ) → a ≡ b → SameCauses (fault_if a cause place) (fault_if b cause other)
by-tests a b cause place other is = subst (λ (c : Bool). SameCauses (fault_if c cause place) (fault_if b cause other)) (sym is) (by-test b cause place other)

-- ---- lists

-- faults of the items of a list, and of an item too many, are the same where the items are
module _ {X : Type 0} (bare : X → X) where
  each-same : (faults others : X → List Fault) → ((x : X) → SameCauses (faults (bare x)) (others x)) → (xs : List X) → SameCauses (flat_map faults (map bare xs)) (flat_map others xs)
  each-same faults others same [] = none_same
  each-same faults others same (x ∷ xs) = joined (same x) (each-same faults others same xs)

  one_too_many-same : (place other : X → ℕ) (found : Option X) → SameCauses (one_too_many place (option_map bare found)) (one_too_many other found)
  one_too_many-same place other None = none_same
  one_too_many-same place other (Some x) = record { same = refl }

  too_many-same : (most : ℕ) (place other : X → ℕ) (xs : List X) → SameCauses (too_many most place (map bare xs)) (too_many most other xs)
  too_many-same most place other xs =
      subst (λ (found : Option X). SameCauses (one_too_many place found) (too_many most other xs)) (sym (slice_get-map bare xs most)) (one_too_many-same place other (slice_get xs most))

-- ---- declarations

module _ {T : Type 0} (f : T → T) (place : T → ℕ) where
  twice_from-same : (names : List (List ℕ)) (number : ℕ) (rows : List (List ℕ × T)) → SameCauses (twice_from place names number (map (beside f) rows)) (twice_from place names number rows)
  twice_from-same names number [] = none_same
  twice_from-same names number (row ∷ rows) =
      joined (by-test (is_other number (number_of row.0 names)) TwiceDeclared (place (f row.1)) (place row.1)) (twice_from-same names (number + 1) rows)

  twice_declared-same : (rows : List (List ℕ × T)) → SameCauses (twice_declared place (map (beside f) rows)) (twice_declared place rows)
  twice_declared-same rows =
      subst (λ (names : List (List ℕ)). SameCauses (twice_from place names 0 (map (beside f) rows)) (twice_declared place rows)) (sym (names-beside f rows)) (twice_from-same (names_of rows) 0 rows)

rows-same : (moved rows : List (List ℕ × ℕ)) → moved ≡ bare_rows rows → SameCauses (twice_declared own_place moved) (twice_declared own_place rows)
rows-same moved rows is =
    subst (λ (others : List (List ℕ × ℕ)). SameCauses (twice_declared own_place others) (twice_declared own_place rows)) (sym is) (twice_declared-same bare_place own_place rows)

abbrev field_place : FieldDecl → ℕ
field_place field = field.name.place

message-same : (message : MessageDecl) → SameCauses (message_faults (bare_message message)) (message_faults message)
message-same message =
    joined (too_many-same bare_field 8 field_place field_place message.fields) (rows-same (field_rows (map bare_field message.fields)) (field_rows message.fields) (field_rows-bare message.fields))

-- ---- kinds

-- the fields of a kind are the same but for their places
found_fields-bare : (found : Option MessageDecl) → option_map (λ (m : MessageDecl). m.fields) (option_map bare_message found) ≡ option_map (map bare_field) (option_map (λ (m : MessageDecl). m.fields) found)
found_fields-bare None = refl
found_fields-bare (Some message) = refl

fields_of-bare : (messages : List MessageDecl) (name : List ℕ) → fields_of (bare_messages messages) name ≡ option_map (map bare_field) (fields_of messages name)
fields_of-bare messages name = ap (option_map (λ (m : MessageDecl). m.fields)) (message_of-bare messages name) ∙ found_fields-bare (message_of messages name)

-- as many values are given as before
count-same : (found : Option (List FieldDecl)) (kind : Spelt) (other count : ℕ) → other ≡ count
    → SameCauses (count_faults (option_map (map bare_field) found) (bare_spelt kind) other) (count_faults found kind count)
count-same None kind other count is = record { same = refl }
count-same (Some fields) kind other count is =
    let test : (length (map bare_field fields) == other) ≡ (length fields == count) = ap (λ (n : ℕ). n == other) (length-map fields bare_field) ∙ ap (λ (n : ℕ). length fields == n) is in
    by-tests (not (length (map bare_field fields) == other)) (not (length fields == count)) WrongCount 0 kind.place (ap not test)

module _ (messages : List MessageDecl) where
  kind-same : (kind : Spelt) (other count : ℕ) → other ≡ count
      → SameCauses (count_faults (fields_of (bare_messages messages) kind.name) (bare_spelt kind) other) (count_faults (fields_of messages kind.name) kind count)
  kind-same kind other count is =
      subst (λ (found : Option (List FieldDecl)). SameCauses (count_faults found (bare_spelt kind) other) (count_faults (fields_of messages kind.name) kind count))
      (sym (fields_of-bare messages kind.name)) (count-same (fields_of messages kind.name) kind other count is)

  pattern-same : (p : PatternDecl) → SameCauses (pattern_faults (bare_messages messages) (bare_pattern p)) (pattern_faults messages p)
  pattern-same p = kind-same p.kind (length (map bare_pair p.variables)) (length p.variables) (length-map p.variables bare_pair)

  abbrev pattern_place : PatternDecl → ℕ
  pattern_place p = p.kind.place

  patterns-same : (ps : List PatternDecl) → SameCauses (patterns_faults (bare_messages messages) (map bare_pattern ps)) (patterns_faults messages ps)
  patterns-same ps =
      joined (too_many-same bare_pattern 8 pattern_place pattern_place ps) (each-same bare_pattern (pattern_faults (bare_messages messages)) (pattern_faults messages) pattern-same ps)

-- ---- terms and operands

slot-same : (alone : Bool) (place other : ℕ) (found : Option Slot) → SameCauses (name_faults alone place (option_map bare_slot found)) (name_faults alone other found)
slot-same alone place other None = record { same = refl }
slot-same alone place other (Some slot) = by-test (not alone && is_words slot.sort) WrongType place other

module _ (variables : List Variable) where
  name-same : (alone : Bool) (place other : ℕ) (name : List ℕ) → SameCauses (name_faults alone place (item_of name (bare_variables variables))) (name_faults alone other (item_of name variables))
  name-same alone place other name =
      subst (λ (found : Option Slot). SameCauses (name_faults alone place found) (name_faults alone other (item_of name variables))) (sym (item_of-beside bare_slot name variables))
      (slot-same alone place other (item_of name variables))

  part-same : (alone : Bool) (place other : ℕ) (p : Part) → SameCauses (part_faults (bare_variables variables) alone place p) (part_faults variables alone other p)
  part-same alone place other (part.Number n) = none_same
  part-same alone place other (part.Named name) = name-same alone place other name

  leaf-same : (alone : Bool) (leaf : LeafDecl) → SameCauses (leaf_faults (bare_variables variables) alone (bare_leaf leaf)) (leaf_faults variables alone leaf)
  leaf-same alone leaf = part-same (alone && not leaf.minus) 0 leaf.place leaf.part

  abbrev leaf_place : LeafDecl → ℕ
  leaf_place leaf = leaf.place

  term-same : (plain : Bool) (leaves : List LeafDecl) → SameCauses (term_faults (bare_variables variables) plain (map bare_leaf leaves)) (term_faults variables plain leaves)
  term-same plain leaves =
      let alone = plain && length leaves == 1 in
      let others = flat_map (leaf_faults variables alone) leaves in
      joined (too_many-same bare_leaf 64 leaf_place leaf_place leaves)
      (subst (λ (count : ℕ). SameCauses (flat_map (leaf_faults (bare_variables variables) (plain && count == 1)) (map bare_leaf leaves)) others) (sym (length-map leaves bare_leaf))
      (each-same bare_leaf (leaf_faults (bare_variables variables) alone) (leaf_faults variables alone) (leaf-same alone) leaves))

  operand-same : (x : OperandDecl) → SameCauses (operand_faults (bare_variables variables) (bare_operand x)) (operand_faults variables x)
  operand-same (o.Fixed place words) = none_same
  operand-same (o.Sum place leaves) = term-same true leaves

  operands-same : (xs : List OperandDecl) → SameCauses (flat_map (operand_faults (bare_variables variables)) (map bare_operand xs)) (flat_map (operand_faults variables) xs)
  operands-same xs = each-same bare_operand (operand_faults (bare_variables variables)) (operand_faults variables) operand-same xs

-- ---- guards

mutual
  atom_comparisons-bare : (a : Atom) → atom_comparisons (bare_atom a) ≡ map bare_comparing (atom_comparisons a)
  atom_comparisons-bare (compares left relation right) = refl
  atom_comparisons-bare (negated a) = atom_comparisons-bare a
  atom_comparisons-bare (grouped atoms) = comparisons-bare atoms

  comparisons-bare : (atoms : Atoms) → comparisons (bare_atoms atoms) ≡ map bare_comparing (comparisons atoms)
  comparisons-bare no_atoms = refl
  comparisons-bare (either a atoms) =
      append-maps bare_comparing (atom_comparisons (bare_atom a)) (comparisons (bare_atoms atoms)) (atom_comparisons a) (comparisons atoms) (atom_comparisons-bare a) (comparisons-bare atoms)

guard_comparisons-bare : (guard : List Atoms) → guard_comparisons (map bare_atoms guard) ≡ map bare_comparing (guard_comparisons guard)
guard_comparisons-bare [] = refl
guard_comparisons-bare (atoms ∷ guard) =
    append-maps bare_comparing (comparisons (bare_atoms atoms)) (guard_comparisons (map bare_atoms guard)) (comparisons atoms) (guard_comparisons guard)
    (comparisons-bare atoms) (guard_comparisons-bare guard)

abbrev comparing_place : Comparing → ℕ
comparing_place c = operand_place c.left

module _ (variables : List Variable) where
  comparison-same : (c : Comparing) → SameCauses (comparison_faults (bare_variables variables) (bare_comparing c)) (comparison_faults variables c)
  comparison-same c =
      let left = operand_sort variables c.left in
      let right = operand_sort variables c.right in
      let left_moved = operand_sort (bare_variables variables) (bare_operand c.left) in
      let right_moved = operand_sort (bare_variables variables) (bare_operand c.right) in
      let left_is = operand_sort-bare variables c.left in
      let right_is = operand_sort-bare variables c.right in
      joined (joined (joined (operand-same variables c.left) (operand-same variables c.right))
      (by-tests (is_order c.relation && is_words left_moved) (is_order c.relation && is_words left) WrongType (operand_place (bare_operand c.left)) (operand_place c.left)
      (ap (λ (sort : Sort). is_order c.relation && is_words sort) left_is)))
      (by-tests (not (is_same left_moved right_moved)) (not (is_same left right)) WrongType (operand_place (bare_operand c.right)) (operand_place c.right)
      (ap (λ (sort : Sort). not (is_same sort right_moved)) left_is ∙ ap (λ (sort : Sort). not (is_same left sort)) right_is))

  guard-same : (guard : List Atoms) → SameCauses (guard_faults (bare_variables variables) (guard_comparisons (map bare_atoms guard))) (guard_faults variables (guard_comparisons guard))
  guard-same guard =
      let cs = guard_comparisons guard in
      subst (λ (others : List Comparing). SameCauses (guard_faults (bare_variables variables) others) (guard_faults variables cs)) (sym (guard_comparisons-bare guard))
      (joined (too_many-same bare_comparing 64 comparing_place comparing_place cs) (each-same bare_comparing (comparison_faults (bare_variables variables)) (comparison_faults variables) comparison-same cs))

  -- ---- bodies

  item-same : (x : ItemDecl) → SameCauses (item_faults (bare_variables variables) (bare_item x)) (item_faults variables x)
  item-same (i.Fixed place words) = none_same
  item-same (i.Named spelt) = name-same variables true 0 spelt.place spelt.name
  item-same (i.Sum place leaves) = term-same variables false leaves

  print-same : (items : List ItemDecl) → SameCauses (print_faults (bare_variables variables) (map bare_item items)) (print_faults variables items)
  print-same items = joined (too_many-same bare_item 16 item_place item_place items) (each-same bare_item (item_faults (bare_variables variables)) (item_faults variables) item-same items)

  wrong_type-same : (field : Option FieldDecl) (x : OperandDecl) → SameCauses (wrong_type (bare_variables variables) (option_map bare_field field) (bare_operand x)) (wrong_type variables field x)
  wrong_type-same None x = none_same
  wrong_type-same (Some field) x =
      by-tests (not (is_same field.sort (operand_sort (bare_variables variables) (bare_operand x)))) (not (is_same field.sort (operand_sort variables x))) WrongType (operand_place (bare_operand x)) (operand_place x)
      (ap (λ (sort : Sort). not (is_same field.sort sort)) (operand_sort-bare variables x))

  type_faults-same : (fields : List FieldDecl) (number : ℕ) (xs : List OperandDecl)
      → SameCauses (type_faults (bare_variables variables) (map bare_field fields) number (map bare_operand xs)) (type_faults variables fields number xs)
  type_faults-same fields number [] = none_same
  type_faults-same fields number (x ∷ xs) =
      joined
      (subst (λ (field : Option FieldDecl). SameCauses (wrong_type (bare_variables variables) field (bare_operand x)) (wrong_type variables (slice_get fields number) x))
      (sym (slice_get-map bare_field fields number)) (wrong_type-same (slice_get fields number) x))
      (type_faults-same fields (number + 1) xs)

  -- the fields of the kind of a post
  found_types-same : (found : Option (List FieldDecl)) (xs : List OperandDecl)
      → SameCauses (type_faults (bare_variables variables) (fields_or_none (option_map (map bare_field) found)) 0 (map bare_operand xs)) (type_faults variables (fields_or_none found) 0 xs)
  found_types-same None xs = type_faults-same [] 0 xs
  found_types-same (Some fields) xs = type_faults-same fields 0 xs

stop-same : (x : StatementDecl) → SameCauses (stop_fault (bare_statement x)) (stop_fault x)
stop-same (s.Print place items) = none_same
stop-same (s.Post place target kind operands) = none_same
stop-same (s.Stop place) = record { same = refl }
stop-same (s.Reply place number_place number operand) = none_same

stops-same : (body : List StatementDecl) → SameCauses (stop_faults (map bare_statement body)) (stop_faults body)
stops-same body =
    let front = take (length body - 1) body in
    let is : take (length (map bare_statement body) - 1) (map bare_statement body) ≡ map bare_statement front =
    ap (λ (n : ℕ). take (n - 1) (map bare_statement body)) (length-map body bare_statement) ∙ take-map bare_statement (length body - 1) body in
    subst (λ (others : List StatementDecl). SameCauses (flat_map stop_fault others) (stop_faults body)) (sym is) (each-same bare_statement stop_fault stop_fault stop-same front)

module _ (messages : List MessageDecl) (actors : List (List ℕ × ℕ)) where
  target-same : (target : Spelt) → SameCauses (fault_if (is_none (number_of target.name (names_of (bare_rows actors)))) UnknownActor 0) (fault_if (is_none (number_of target.name (names_of actors))) UnknownActor target.place)
  target-same target =
      by-tests (is_none (number_of target.name (names_of (bare_rows actors)))) (is_none (number_of target.name (names_of actors))) UnknownActor 0 target.place
      (ap (λ (names : List (List ℕ)). is_none (number_of target.name names)) (names-beside bare_place actors))

  module _ (variables : List Variable) where
    types-same : (kind : Spelt) (xs : List OperandDecl)
        → SameCauses (type_faults (bare_variables variables) (fields_or_none (fields_of (bare_messages messages) kind.name)) 0 (map bare_operand xs)) (type_faults variables (fields_or_none (fields_of messages kind.name)) 0 xs)
    types-same kind xs =
        subst (λ (found : Option (List FieldDecl)). SameCauses (type_faults (bare_variables variables) (fields_or_none found) 0 (map bare_operand xs)) (type_faults variables (fields_or_none (fields_of messages kind.name)) 0 xs))
        (sym (fields_of-bare messages kind.name)) (found_types-same variables (fields_of messages kind.name) xs)

    statement-same : (x : StatementDecl) → SameCauses (statement_faults (bare_messages messages) (bare_rows actors) (bare_variables variables) (bare_statement x)) (statement_faults messages actors variables x)
    statement-same (s.Print place items) = print-same variables items
    statement-same (s.Post place target kind operands) =
        joined (joined (joined (target-same target) (kind-same messages kind (length (map bare_operand operands)) (length operands) (length-map operands bare_operand))) (types-same kind operands)) (operands-same variables operands)
    statement-same (s.Stop place) = none_same
    statement-same (s.Reply place number_place number operand) = operand-same variables operand

    body-same : (body : List StatementDecl) → SameCauses (body_faults (bare_messages messages) (bare_rows actors) (bare_variables variables) (map bare_statement body)) (body_faults messages actors variables body)
    body-same body =
        joined (joined (too_many-same bare_statement 16 statement_place statement_place body) (stops-same body))
        (each-same bare_statement (statement_faults (bare_messages messages) (bare_rows actors) (bare_variables variables)) (statement_faults messages actors variables) statement-same body)

  -- ---- windows and replies

  window-same : (window : Option (ℕ × ℤ)) → SameCauses (window_faults (bare_window window)) (window_faults window)
  window-same None = none_same
  window-same (Some number) = by-test (not (is_window (unsigned_abs number.1))) BadWindow 0 number.0

  replies-same : (patterns : ℕ) (earlier : List ℕ) (body : List StatementDecl) → SameCauses (reply_faults patterns earlier (map bare_statement body)) (reply_faults patterns earlier body)
  replies-same patterns earlier [] = none_same
  replies-same patterns earlier (s.Print place items ∷ body) = replies-same patterns earlier body
  replies-same patterns earlier (s.Post place target kind operands ∷ body) = replies-same patterns earlier body
  replies-same patterns earlier (s.Stop place ∷ body) = replies-same patterns earlier body
  replies-same patterns earlier (s.Reply place number_place number operand ∷ body) =
      let n = unsigned_abs number in joined (by-test (not (may_reply patterns earlier n)) BadReply 0 number_place) (replies-same patterns (n ∷ earlier) body)

  rule_replies-same : (rule : RuleDecl) → SameCauses (reply_faults (length (map bare_pattern rule.patterns)) [] (map bare_statement rule.body)) (reply_faults (length rule.patterns) [] rule.body)
  rule_replies-same rule =
      subst (λ (n : ℕ). SameCauses (reply_faults n [] (map bare_statement rule.body)) (reply_faults (length rule.patterns) [] rule.body)) (sym (length-map rule.patterns bare_pattern))
      (replies-same (length rule.patterns) [] rule.body)

  -- ---- definitions and actors

  abbrev slot_place : Slot → ℕ
  slot_place slot = slot.place

  rule-same : (rule : RuleDecl) → SameCauses (rule_faults (bare_messages messages) (bare_rows actors) (bare_rule rule)) (rule_faults messages actors rule)
  rule-same rule =
      let variables = variables_of messages rule in
      subst (λ (others : List Variable). SameCauses
      (patterns_faults (bare_messages messages) (map bare_pattern rule.patterns) ++ twice_declared slot_place others
      ++ guard_faults others (guard_comparisons (map bare_atoms rule.guard)) ++ body_faults (bare_messages messages) (bare_rows actors) others (map bare_statement rule.body)
      ++ window_faults (bare_window rule.window) ++ reply_faults (length (map bare_pattern rule.patterns)) [] (map bare_statement rule.body))
      (rule_faults messages actors rule))
      (sym (variables_of-bare messages rule))
      (joined (joined (joined (joined (joined (patterns-same messages rule.patterns) (twice_declared-same bare_slot slot_place variables)) (guard-same variables rule.guard)) (body-same variables rule.body))
      (window-same rule.window)) (rule_replies-same rule))

  abbrev rule_place : RuleDecl → ℕ
  rule_place rule = rule.place

  actor-same : (actor : ActorDecl) → SameCauses (actor_faults (bare_messages messages) (bare_rows actors) (bare_actor actor)) (actor_faults messages actors actor)
  actor-same actor =
      joined (too_many-same bare_rule 16 rule_place rule_place actor.rules) (each-same bare_rule (rule_faults (bare_messages messages) (bare_rows actors)) (rule_faults messages actors) rule-same actor.rules)

-- ---- trees

abbrev message_place : MessageDecl → ℕ
message_place message = message.name.place

abbrev actor_place : ActorDecl → ℕ
actor_place actor = actor.name.place

actors-same : (messages : List MessageDecl) (actors : List ActorDecl) (rows : List (List ℕ × ℕ))
    → SameCauses (flat_map (actor_faults (bare_messages messages) (bare_rows rows)) (map bare_actor actors)) (flat_map (actor_faults messages rows) actors)
actors-same messages actors rows =
    each-same bare_actor (actor_faults (bare_messages messages) (bare_rows rows)) (actor_faults messages rows) (actor-same messages rows) actors

-- a tree and its bare tree have faults of the same causes
pub tree-same : (tree : Tree) → SameCauses (faults_of (bare_tree tree)) (faults_of tree)
tree-same tree =
    let rows = actor_rows tree.actors in
    joined (joined (joined (joined (joined
    (too_many-same bare_message 64 message_place message_place tree.messages)
    (rows-same (message_rows (bare_messages tree.messages)) (message_rows tree.messages) (message_rows-bare tree.messages)))
    (each-same bare_message message_faults message_faults message-same tree.messages))
    (too_many-same bare_actor 32 actor_place actor_place tree.actors))
    (rows-same (actor_rows (map bare_actor tree.actors)) rows (actor_rows-bare tree.actors)))
    (subst (λ (others : List (List ℕ × ℕ)). SameCauses (flat_map (actor_faults (bare_messages tree.messages) others) (map bare_actor tree.actors)) (flat_map (actor_faults tree.messages rows) tree.actors))
    (sym (actor_rows-bare tree.actors)) (actors-same tree.messages tree.actors rows))

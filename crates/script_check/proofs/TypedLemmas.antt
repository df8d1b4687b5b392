-- The plan of a definition without faults is well typed.
use Rattle.std.proofs.Common.{◌≡◌, ◌∙◌, ℕ, suc, ◌≤◌, Bool, true, false, List, [], ◌∷◌, ◌++◌, length, map, Option, None, Some, refl, sym, ap, subst, arith}
use Rattle.std.specs.Prelude.{not, ◌&&◌, ◌==◌}
use Rattle.std.specs.Option.{option_map}
use Rattle.std.specs.List.{AllByRecursion, flat_map}
use Rattle.std.proofs.lemmas.Bool.Decides.{nat_tests}
use Rattle.std.proofs.lemmas.List.{length-map}
use Rattle.join_base.specs.declared.message.Sort.{Sort}
use Rattle.join_base.specs.declared.message.Sort.TheVariants as sort
use Rattle.join_base.specs.declared.message.Relation.{Relation}
use Rattle.join_base.specs.declared.message.Relation.TheVariants as relation
use Rattle.guard_eval.specs.declared.term.Signed.{Signed}
use Rattle.guard_eval.specs.declared.term.Operand.{Operand}
use Rattle.guard_eval.specs.declared.term.Operand.TheVariants as operand
use Rattle.guard_eval.specs.declared.term.WordsLeaf.TheVariants as words
use Rattle.script_grammar.specs.Atoms.{Atom, Atoms, compares, negated, grouped, no_atoms, either}
use Rattle.script_grammar.specs.Filled.{OperandFilled, AtomFilled, AtomsFilled, ItemFilled}
use Rattle.script_grammar.specs.declared.tree.Part.{Part}
use Rattle.script_grammar.specs.declared.tree.Part.TheVariants as part
use Rattle.script_grammar.specs.declared.tree.LeafDecl.{LeafDecl}
use Rattle.script_grammar.specs.declared.operand.OperandDecl.{OperandDecl}
use Rattle.script_grammar.specs.Operands as o
use Rattle.script_grammar.specs.declared.tree.ItemDecl.{ItemDecl}
use Rattle.script_grammar.specs.declared.tree.ItemDecl.TheVariants as i
use Rattle.script_grammar.specs.declared.tree.RuleDecl.{RuleDecl}
use Rattle.script_grammar.specs.declared.tree.Tree.{Tree}
use Rattle.script_names.specs.declared.scope.Slot.{Slot}
use Rattle.script_names.specs.Names.{item_of}
use Rattle.script_names.specs.Scope.{Variable, name_in, name_sort, only_name, operand_sort, sort_in, sort_of, variables_of}
use Rattle.script_grammar.specs.declared.fault.ScriptCause.TheVariants.{WrongType}
use Rattle.script_types.specs.declared.plan.Item.{Item}
use Rattle.script_types.specs.declared.plan.Item.TheVariants as item
use Rattle.script_faults.specs.First.{fault_if, too_many}
use Rattle.script_faults.specs.Faults.{Comparing, atom_comparisons, comparison_faults, comparisons, guard_comparisons, is_order, is_same, is_words, item_faults, leaf_faults, name_faults, operand_faults, operand_place, part_faults, term_faults}
use Rattle.script_plan.specs.PlanOf.{atom_of, by_sort, condition_of, leaf_of, operand_of, part_of, pattern_of, place_of, print_item, slot_place, sum_operand, term_of}
use Rattle.script_types.specs.Typed.{HasType, IsTypedComparison, IsTypedCondition, IsTypedItem, IsTypedLeaf, IsTypedOperand, IsTypedTerm, MayCompare, type_of}
use Rattle.script_check.proofs.NumberLemmas.{left_none, right_none}
use Rattle.script_check.proofs.SmallLemmas.{each_left, each_right, few}
use Rattle.script_check.proofs.VariableLemmas.{IsField, slot_of_name, sorts_by, typed_slot}

-- ---- what no fault of type says of types

int_of : (s : Sort) (place : ℕ) → fault_if (is_words s) WrongType place ≡ [] → s ≡ sort.Int
int_of sort.Int place none = refl
int_of sort.Words place none = absurd cc

pub same_of : (a b : Sort) (place : ℕ) → fault_if (not (is_same a b)) WrongType place ≡ [] → a ≡ b
same_of sort.Int sort.Int place none = refl
same_of sort.Words sort.Words place none = refl
same_of sort.Int sort.Words place none = absurd cc
same_of sort.Words sort.Int place none = absurd cc

may_compare : (s : Sort) (given : Relation) (place : ℕ) → fault_if (is_order given && is_words s) WrongType place ≡ [] → MayCompare s given
may_compare sort.Int given place none = tt
may_compare sort.Words relation.Equal place none = tt
may_compare sort.Words relation.NotEqual place none = tt
may_compare sort.Words relation.Less place none = absurd cc
may_compare sort.Words relation.LessEqual place none = absurd cc
may_compare sort.Words relation.Greater place none = absurd cc
may_compare sort.Words relation.GreaterEqual place none = absurd cc

int_slot : (alone : Bool) (slot : Slot) (place : ℕ) → (alone ≡ true → slot.sort ≡ sort.Int) → fault_if (not alone && is_words slot.sort) WrongType place ≡ [] → slot.sort ≡ sort.Int
int_slot true slot place int none = int refl
int_slot false slot place int none = int_of slot.sort place none

sort_found : Option Slot → Sort
sort_found o = sort_in (option_map (λ (slot : Slot). slot.sort) o)

-- ---- names, terms and operands of a definition

abbrev variables : Tree → RuleDecl → List Variable
variables tree rule = variables_of tree.messages rule

abbrev kinds : Tree → RuleDecl → List ℕ
kinds tree rule = map (pattern_of tree) rule.patterns

abbrev pub AreFields : Tree → RuleDecl → Type 0
AreFields tree rule = AllByRecursion (λ (v : Variable). IsField tree.messages rule.patterns 0 v.1) (variables_of tree.messages rule)

abbrev NameHas : Tree → RuleDecl → Sort → List ℕ → Type 0
NameHas tree rule s name = HasType (sorts_by tree.messages) (kinds tree rule) s (place_of (variables tree rule) name)

typed_name : (tree : Tree) (rule : RuleDecl) → AreFields tree rule → (name : List ℕ) (slot : Slot) → item_of name (variables tree rule) ≡ Some slot → NameHas tree rule slot.sort name
typed_name tree rule fields name slot is =
    subst (λ (found : Option Slot). HasType (sorts_by tree.messages) (kinds tree rule) slot.sort (slot_place found)) (sym is)
    (typed_slot tree rule.patterns slot (slot_of_name (IsField tree.messages rule.patterns 0) (variables tree rule) name slot fields is))

-- a name that is known has the type of its variable
known_name : (tree : Tree) (rule : RuleDecl) → AreFields tree rule → (name : List ℕ) (alone : Bool) (place : ℕ) (found : Option Slot) → item_of name (variables tree rule) ≡ found
    → name_faults alone place found ≡ [] → NameHas tree rule (sort_of (variables tree rule) name) name
known_name tree rule fields name alone place None is none = absurd cc
known_name tree rule fields name alone place (Some slot) is none =
    subst (λ (s : Sort). NameHas tree rule s name) (sym (ap (λ (found : Option Slot). sort_in (option_map (λ (s : Slot). s.sort) found)) is)) (typed_name tree rule fields name slot is)

int_name : (variables : List Variable) (name : List ℕ) (alone : Bool) (place : ℕ) (found : Option Slot) → item_of name variables ≡ found → (alone ≡ true → sort_of variables name ≡ sort.Int)
    → name_faults alone place found ≡ [] → sort_of variables name ≡ sort.Int
int_name variables name alone place None is int none = absurd cc
int_name variables name alone place (Some slot) is int none =
    let sorts : sort_of variables name ≡ slot.sort = ap (λ (found : Option Slot). sort_in (option_map (λ (s : Slot). s.sort) found)) is in
    sorts ∙ int_slot alone slot place (λ e. sym sorts ∙ int e) none

typed_part : (tree : Tree) (rule : RuleDecl) → AreFields tree rule → (alone : Bool) (place : ℕ) (p : Part) → part_faults (variables tree rule) alone place p ≡ []
    → (alone ≡ true → (name : List ℕ) → p ≡ part.Named name → sort_of (variables tree rule) name ≡ sort.Int) → IsTypedLeaf (sorts_by tree.messages) (kinds tree rule) (part_of (variables tree rule) p)
typed_part tree rule fields alone place (part.Number n) none int = tt
typed_part tree rule fields alone place (part.Named name) none int =
    let found = item_of name (variables tree rule) in
    subst (λ (s : Sort). NameHas tree rule s name) (int_name (variables tree rule) name alone place found refl (λ e. int e name refl) none) (known_name tree rule fields name alone place found refl none)

module _ (tree : Tree) (rule : RuleDecl) (fields : AreFields tree rule) where
  abbrev LeafTyped : LeafDecl → Type 0
  LeafTyped leaf = IsTypedLeaf (sorts_by tree.messages) (kinds tree rule) (part_of (variables tree rule) leaf.part)

  no_true : {A : Type 0} → false ≡ true → A
  no_true e = absurd cc

  -- a leaf beside others, or in parentheses
  typed_other : (leaf : LeafDecl) → leaf_faults (variables tree rule) false leaf ≡ [] → LeafTyped leaf
  typed_other leaf none = typed_part tree rule fields false leaf.place leaf.part none (λ e name is. no_true e)

  typed_signed : (minus : Bool) (place : ℕ) (p : Part) → part_faults (variables tree rule) (not minus) place p ≡ [] → name_sort (variables tree rule) (name_in minus p) ≡ sort.Int
      → IsTypedLeaf (sorts_by tree.messages) (kinds tree rule) (part_of (variables tree rule) p)
  typed_signed true place p none int = typed_part tree rule fields false place p none (λ e name is. no_true e)
  typed_signed false place p none int =
      typed_part tree rule fields true place p none (λ e name is. sym (ap (λ (q : Part). name_sort (variables tree rule) (name_in false q)) is) ∙ int)

  typed_others : (leaves : List LeafDecl) → flat_map (leaf_faults (variables tree rule) false) leaves ≡ []
      → AllByRecursion (λ (signed : Signed). IsTypedLeaf (sorts_by tree.messages) (kinds tree rule) signed.leaf) (term_of (variables tree rule) leaves)
  typed_others [] none = tt
  typed_others (leaf ∷ leaves) none =
      let first = leaf_faults (variables tree rule) false leaf in
      let others = flat_map (leaf_faults (variables tree rule) false) leaves in
      (typed_other leaf (left_none first others none), typed_others leaves (right_none first others none))

long : (n : ℕ) → (suc (suc n) == 1) ≡ false
long n = grind (arith, nat_tests)

never : (bare b : Bool) → b ≡ false → (bare && b) ≡ false
never true b is = is
never false b is = refl

module _ (tree : Tree) (rule : RuleDecl) (fields : AreFields tree rule) where
  abbrev TermTyped : List LeafDecl → Type 0
  TermTyped leaves = IsTypedTerm (sorts_by tree.messages) (kinds tree rule) (term_of (variables tree rule) leaves)

  many_typed : (leaves : List LeafDecl) → 1 ≤ length leaves → length leaves ≤ 64 → flat_map (leaf_faults (variables tree rule) false) leaves ≡ [] → TermTyped leaves
  many_typed leaves some few none =
      let count = length-map leaves (leaf_of (variables tree rule)) in
      record { some = omega (arith, count, some); few = omega (arith, count, few); each = typed_others tree rule fields leaves none }

  one_typed : (leaf : LeafDecl) → part_faults (variables tree rule) (not leaf.minus) leaf.place leaf.part ≡ [] → name_sort (variables tree rule) (name_in leaf.minus leaf.part) ≡ sort.Int → TermTyped (leaf ∷ [])
  one_typed leaf none int = record { some = omega arith; few = omega arith; each = (typed_signed tree rule fields leaf.minus leaf.place leaf.part none int, tt) }

  typed_term : (bare : Bool) (leaves : List LeafDecl) → 1 ≤ length leaves → term_faults (variables tree rule) bare leaves ≡ []
      → (bare ≡ true → name_sort (variables tree rule) (only_name leaves) ≡ sort.Int) → TermTyped leaves
  typed_term bare [] some none int = absurd (omega (arith, some))
  typed_term false (leaf ∷ []) some none int =
      many_typed (leaf ∷ []) (omega arith) (omega arith) (right_none (too_many 64 (λ (l : LeafDecl). l.place) (leaf ∷ [])) (flat_map (leaf_faults (variables tree rule) false) (leaf ∷ [])) none)
  typed_term true (leaf ∷ []) some none int =
      let faults = leaf_faults (variables tree rule) true leaf in
      one_typed leaf (left_none faults [] (right_none (too_many 64 (λ (l : LeafDecl). l.place) (leaf ∷ [])) (faults ++ []) none)) (int refl)
  typed_term bare (leaf ∷ next ∷ more) some none int =
      let leaves = leaf ∷ next ∷ more in
      let many = too_many 64 (λ (l : LeafDecl). l.place) leaves in
      let alone = bare && length leaves == 1 in
      let others = right_none many (flat_map (leaf_faults (variables tree rule) alone) leaves) none in
      many_typed leaves some (few 64 (λ (l : LeafDecl). l.place) leaves (left_none many (flat_map (leaf_faults (variables tree rule) alone) leaves) none))
      (subst (λ (b : Bool). flat_map (leaf_faults (variables tree rule) b) leaves ≡ []) (never bare (length leaves == 1) (long (length more))) others)

  -- a name of one of the two types
  by_type : {A : Type 0} (P : A → Type 0) (s : Sort) (integer text : A) → (s ≡ sort.Int → P integer) → (s ≡ sort.Words → P text) → P (by_sort s integer text)
  by_type P sort.Int integer text int words = int refl
  by_type P sort.Words integer text int words = words refl

  words_name : (name : List ℕ) (found : Option Slot) → item_of name (variables tree rule) ≡ found → sort_of (variables tree rule) name ≡ sort.Words → NameHas tree rule sort.Words name
  words_name name None is words = let e : sort.Int ≡ sort.Words = sym (ap (λ (found : Option Slot). sort_in (option_map (λ (s : Slot). s.sort) found)) is) ∙ words in absurd cc
  words_name name (Some slot) is words =
      let same : slot.sort ≡ sort.Words = sym (ap (λ (found : Option Slot). sort_in (option_map (λ (s : Slot). s.sort) found)) is) ∙ words in
      subst (λ (s : Sort). NameHas tree rule s name) same (typed_name tree rule fields name slot is)

  abbrev OperandTyped : Operand → Type 0
  OperandTyped x = IsTypedOperand (sorts_by tree.messages) (kinds tree rule) x

  typed_sum : (leaves : List LeafDecl) → 1 ≤ length leaves → term_faults (variables tree rule) true leaves ≡ [] → (name : Option (List ℕ)) → only_name leaves ≡ name
      → OperandTyped (sum_operand (variables tree rule) leaves name)
  typed_sum leaves some none None is = typed_term true leaves some none (λ e. ap (name_sort (variables tree rule)) is)
  typed_sum leaves some none (Some name) is =
      by_type OperandTyped (sort_of (variables tree rule) name) (operand.Sum (term_of (variables tree rule) leaves)) (operand.Words (words.Field (place_of (variables tree rule) name)))
      (λ int. typed_term true leaves some none (λ e. ap (name_sort (variables tree rule)) is ∙ int)) (λ text. words_name name (item_of name (variables tree rule)) refl text)

  pub typed_operand : (x : OperandDecl) → OperandFilled x → operand_faults (variables tree rule) x ≡ [] → OperandTyped (operand_of (variables tree rule) x)
  typed_operand (o.Fixed place text) filled none = tt
  typed_operand (o.Sum place leaves) filled none = typed_sum leaves filled none (only_name leaves) refl

sum_type : (vs : List Variable) (leaves : List LeafDecl) (name : Option (List ℕ)) → type_of (sum_operand vs leaves name) ≡ name_sort vs name
sum_type vs leaves None = refl
sum_type vs leaves (Some name) = by-sort (sort_of vs name)
  where
    by-sort : (s : Sort) → type_of (by_sort s (operand.Sum (term_of vs leaves)) (operand.Words (words.Field (place_of vs name)))) ≡ s
    by-sort sort.Int = refl
    by-sort sort.Words = refl

pub operand_type : (vs : List Variable) (x : OperandDecl) → type_of (operand_of vs x) ≡ operand_sort vs x
operand_type vs (o.Fixed place text) = refl
operand_type vs (o.Sum place leaves) = sum_type vs leaves (only_name leaves)

-- ---- guards

comparison_typed : (tree : Tree) (rule : RuleDecl) → AreFields tree rule → (left : OperandDecl) (given : Relation) (right : OperandDecl) → OperandFilled left → OperandFilled right
    → comparison_faults (variables tree rule) (record { left = left; relation = given; right = right }) ≡ []
    → IsTypedComparison (sorts_by tree.messages) (kinds tree rule) (operand_of (variables tree rule) left) given (operand_of (variables tree rule) right)
comparison_typed tree rule fields left given right left_filled right_filled none =
    let vs = variables tree rule in
    let a = operand_faults vs left in
    let b = operand_faults vs right in
    let c = fault_if (is_order given && is_words (operand_sort vs left)) WrongType (operand_place left) in
    let d = fault_if (not (is_same (operand_sort vs left) (operand_sort vs right))) WrongType (operand_place right) in
    let three = left_none (a ++ b ++ c) d none in
    let two = left_none (a ++ b) c three in
    record {
      left_typed = typed_operand tree rule fields left left_filled (left_none a b two);
      right_typed = typed_operand tree rule fields right right_filled (right_none a b two);
      one_type = operand_type vs left ∙ same_of (operand_sort vs left) (operand_sort vs right) (operand_place right) (right_none (a ++ b ++ c) d none) ∙ sym (operand_type vs right);
      may_compare = subst (λ (s : Sort). MayCompare s given) (sym (operand_type vs left)) (may_compare (operand_sort vs left) given (operand_place left) (right_none (a ++ b) c three));
    }

mutual
  typed_atom : (tree : Tree) (rule : RuleDecl) → AreFields tree rule → (a : Atom) → AtomFilled a → AllByRecursion (λ (c : Comparing). comparison_faults (variables tree rule) c ≡ []) (atom_comparisons a)
      → IsTypedCondition (sorts_by tree.messages) (kinds tree rule) (atom_of (variables tree rule) a)
  typed_atom tree rule fields (compares left given right) filled each = comparison_typed tree rule fields left given right filled.0 filled.1 each.0
  typed_atom tree rule fields (negated a) filled each = typed_atom tree rule fields a filled each
  typed_atom tree rule fields (grouped atoms) filled each = typed_atoms tree rule fields atoms filled each

  typed_atoms : (tree : Tree) (rule : RuleDecl) → AreFields tree rule → (atoms : Atoms) → AtomsFilled atoms → AllByRecursion (λ (c : Comparing). comparison_faults (variables tree rule) c ≡ []) (comparisons atoms)
      → IsTypedCondition (sorts_by tree.messages) (kinds tree rule) (condition_of (variables tree rule) atoms)
  typed_atoms tree rule fields no_atoms filled each = tt
  typed_atoms tree rule fields (either a atoms) filled each =
      let P : Comparing → Type 0 = λ (c : Comparing). comparison_faults (variables tree rule) c ≡ [] in
      (typed_atom tree rule fields a filled.0 (each_left P (atom_comparisons a) (comparisons atoms) each), typed_atoms tree rule fields atoms filled.1 (each_right P (atom_comparisons a) (comparisons atoms) each))

pub typed_guard : (tree : Tree) (rule : RuleDecl) → AreFields tree rule → (guard : List Atoms) → AllByRecursion AtomsFilled guard
    → AllByRecursion (λ (c : Comparing). comparison_faults (variables tree rule) c ≡ []) (guard_comparisons guard)
    → AllByRecursion (IsTypedCondition (sorts_by tree.messages) (kinds tree rule)) (map (condition_of (variables tree rule)) guard)
typed_guard tree rule fields [] filled each = tt
typed_guard tree rule fields (atoms ∷ guard) filled each =
    let P : Comparing → Type 0 = λ (c : Comparing). comparison_faults (variables tree rule) c ≡ [] in
    (typed_atoms tree rule fields atoms filled.0 (each_left P (comparisons atoms) (guard_comparisons guard) each), typed_guard tree rule fields guard filled.1 (each_right P (comparisons atoms) (guard_comparisons guard) each))

-- ---- prints

module _ (tree : Tree) (rule : RuleDecl) (fields : AreFields tree rule) where
  abbrev ItemTyped : Item → Type 0
  ItemTyped x = IsTypedItem (sorts_by tree.messages) (kinds tree rule) x

  named_item : (name : List ℕ) (s : Sort) → NameHas tree rule s name
      → ItemTyped (by_sort s (item.Plain (place_of (variables tree rule) name)) (item.Words (words.Field (place_of (variables tree rule) name))))
  named_item name sort.Int has = has
  named_item name sort.Words has = has

  pub typed_item : (x : ItemDecl) → ItemFilled x → item_faults (variables tree rule) x ≡ [] → ItemTyped (print_item (variables tree rule) x)
  typed_item (i.Fixed place text) filled none = tt
  typed_item (i.Named spelt) filled none =
      named_item spelt.name (sort_of (variables tree rule) spelt.name) (known_name tree rule fields spelt.name true spelt.place (item_of spelt.name (variables tree rule)) refl none)
  typed_item (i.Sum place leaves) filled none = typed_term tree rule fields false leaves filled none (λ e. absurd cc)

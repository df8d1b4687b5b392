-- What a variable stands for: a field of the kind of its pattern, with its type.
use Rattle.std.proofs.Common.{◌≡◌, ◌∙◌, ℕ, zero, suc, ◌+◌, ◌<◌, ◌≤◌, List, [], ◌∷◌, length, map, Option, None, Some, refl, ap, subst, arith}
use Rattle.std.specs.Prelude.{slice_get}
use Rattle.std.specs.Option.{option_and_then, option_map}
use Rattle.std.specs.List.{AllByRecursion}
use Rattle.std.proofs.lemmas.Option.{slice_get-map}
use Rattle.join_base.specs.declared.message.Sort.{Sort}
use Rattle.script_grammar.specs.declared.tree.FieldDecl.{FieldDecl}
use Rattle.script_grammar.specs.declared.tree.MessageDecl.{MessageDecl}
use Rattle.script_grammar.specs.declared.tree.PatternDecl.{PatternDecl}
use Rattle.script_grammar.specs.declared.tree.Tree.{Tree}
use Rattle.script_names.specs.declared.scope.Slot.{Slot}
use Rattle.script_names.specs.Names.{item_of, names_of, number_of}
use Rattle.script_names.specs.Scope.{Variable, field_sorts, message_number, sort_at, sorts_in, sorts_of, variable_at, variables_from, variables_in}
use Rattle.script_plan.specs.PlanOf.{field_of, kind_of, or_zero, pattern_of, slot_place}
use Rattle.script_plan.proofs.SmallLemmas.{each_append}
use Rattle.script_check.proofs.SmallLemmas.{at_number, each_one}
use Rattle.script_types.specs.Typed.{HasType, Sorts, kind_types}

-- ---- the fields of a kind

pub field_types-of : (fields : List FieldDecl) → map (λ (f : List ℕ × Sort). f.1) (map field_of fields) ≡ field_sorts fields
field_types-of [] = refl
field_types-of (f ∷ fields) = ap (λ (ss : List Sort). f.sort ∷ ss) (field_types-of fields)

-- the types of the kinds of a plan
abbrev pub sorts_by : List MessageDecl → Sorts
sorts_by messages = kind_types (map kind_of messages)

kind_at : (messages : List MessageDecl) (number field : ℕ) (s : Sort) → slice_get (sorts_in (slice_get messages number)) field ≡ Some s
    → option_and_then (λ types. slice_get types field) (slice_get (sorts_by messages) number) ≡ Some s
kind_at [] number field s is = absurd cc
kind_at (m ∷ ms) zero field s is = ap (λ (types : List Sort). slice_get types field) (field_types-of m.fields) ∙ is
kind_at (m ∷ ms) (suc number) field s is = kind_at ms number field s is

known_kind : (messages : List MessageDecl) (number : Option ℕ) (field : ℕ) (s : Sort) → slice_get (sorts_in (option_and_then (slice_get messages) number)) field ≡ Some s
    → option_and_then (λ types. slice_get types field) (slice_get (sorts_by messages) (or_zero number)) ≡ Some s
known_kind messages None field s is = absurd cc
known_kind messages (Some number) field s is = kind_at messages number field s is

-- ---- the slots of a definition

-- the field of a slot is one of the kind of its pattern, with its type; patterns are numbered from the offset on
pub record IsField (messages : List MessageDecl) (patterns : List PatternDecl) (offset : ℕ) (slot : Slot) : Type 0 where
  pub index : ℕ
  pub decl : PatternDecl
  pub pattern_is : slot.pattern ≡ offset + index
  pub decl_is : slice_get patterns index ≡ Some decl
  pub sort_is : slice_get (sorts_of messages decl.kind.name) slot.field ≡ Some slot.sort

-- a pattern has no more variables than its kind has fields
abbrev pub HasFields : List MessageDecl → PatternDecl → Type 0
HasFields messages p = length p.variables ≤ length (sorts_of messages p.kind.name)

there : (sorts : List Sort) (field : ℕ) → field < length sorts → slice_get sorts field ≡ Some (sort_at sorts field)
there [] field within = absurd (omega arith)
there (s ∷ sorts) zero within = refl
there (s ∷ sorts) (suc field) within = there sorts field (omega arith)

abbrev IsIn : ℕ → List Sort → Variable → Type 0
IsIn pattern sorts v = (v.1.pattern ≡ pattern) × (slice_get sorts v.1.field ≡ Some v.1.sort)

one_in : (pattern : ℕ) (sorts : List Sort) (place field : ℕ) (name : Option (List ℕ)) → field < length sorts
    → AllByRecursion (IsIn pattern sorts) (variable_at (record { place = place; pattern = pattern; field = field; sort = sort_at sorts field }) name)
one_in pattern sorts place field None within = tt
one_in pattern sorts place field (Some name) within = ((refl, there sorts field within), tt)

all_in : (pattern : ℕ) (sorts : List Sort) (field : ℕ) (vs : List (ℕ × Option (List ℕ))) → field + length vs ≤ length sorts → AllByRecursion (IsIn pattern sorts) (variables_in pattern sorts field vs)
all_in pattern sorts field [] within = tt
all_in pattern sorts field (v ∷ vs) within =
    each_append (IsIn pattern sorts) (variable_at (record { place = v.0; pattern = pattern; field = field; sort = sort_at sorts field }) v.1) (variables_in pattern sorts (field + 1) vs)
    (one_in pattern sorts v.0 field v.1 (omega (arith, within))) (all_in pattern sorts (field + 1) vs (omega (arith, within)))

module _ (messages : List MessageDecl) where
  abbrev IsFieldOf : List PatternDecl → ℕ → Variable → Type 0
  IsFieldOf patterns offset v = IsField messages patterns offset v.1

  first_pattern : (d : PatternDecl) (ds : List PatternDecl) (offset : ℕ) (v : Variable) → IsIn offset (sorts_of messages d.kind.name) v → IsFieldOf (d ∷ ds) offset v
  first_pattern d ds offset v i = record { index = 0; decl = d; pattern_is = omega (arith, i.0); decl_is = refl; sort_is = i.1 }

  later_pattern : (d : PatternDecl) (ds : List PatternDecl) (offset : ℕ) (v : Variable) → IsFieldOf ds (offset + 1) v → IsFieldOf (d ∷ ds) offset v
  later_pattern d ds offset v f = record { index = suc f.index; decl = f.decl; pattern_is = omega (arith, f.pattern_is); decl_is = f.decl_is; sort_is = f.sort_is }

  pub all_fields : (patterns : List PatternDecl) (offset : ℕ) → AllByRecursion (HasFields messages) patterns → AllByRecursion (IsFieldOf patterns offset) (variables_from messages offset patterns)
  all_fields [] offset has = tt
  all_fields (d ∷ ds) offset has =
      let sorts = sorts_of messages d.kind.name in
      let within : 0 + length d.variables ≤ length sorts = omega (arith, has.0) in
      each_append (IsFieldOf (d ∷ ds) offset) (variables_in offset sorts 0 d.variables) (variables_from messages (offset + 1) ds)
      (each_one (IsIn offset sorts) (IsFieldOf (d ∷ ds) offset) (first_pattern d ds offset) (variables_in offset sorts 0 d.variables) (all_in offset sorts 0 d.variables within))
      (each_one (IsFieldOf ds (offset + 1)) (IsFieldOf (d ∷ ds) offset) (later_pattern d ds offset) (variables_from messages (offset + 1) ds) (all_fields ds (offset + 1) has.1))

-- ---- the slot of a name

slot_at : (P : Slot → Type 0) (variables : List Variable) (number : Option ℕ) (found : Option Variable) (slot : Slot) → AllByRecursion (λ (v : Variable). P v.1) variables
    → option_and_then (slice_get variables) number ≡ found → option_map (λ (v : Variable). v.1) found ≡ Some slot → P slot
slot_at P variables number None slot each at is = absurd cc
slot_at P variables None (Some v) slot each at is = absurd cc
slot_at P variables (Some n) (Some v) slot each at is = let same : v.1 ≡ slot = cc in subst P same (at_number (λ (v : Variable). P v.1) variables n v each at)

pub slot_of_name : (P : Slot → Type 0) (variables : List Variable) (name : List ℕ) (slot : Slot) → AllByRecursion (λ (v : Variable). P v.1) variables → item_of name variables ≡ Some slot → P slot
slot_of_name P variables name slot each is = slot_at P variables (number_of name (names_of variables)) (option_and_then (slice_get variables) (number_of name (names_of variables))) slot each refl is

-- ---- the type at the place of a slot

pub typed_slot : (tree : Tree) (patterns : List PatternDecl) (slot : Slot) → IsField tree.messages patterns 0 slot
    → HasType (sorts_by tree.messages) (map (pattern_of tree) patterns) slot.sort (slot_place (Some slot))
typed_slot tree patterns slot f =
    let index : slot.pattern ≡ f.index = omega (arith, f.pattern_is) in
    let at : slice_get (map (pattern_of tree) patterns) slot.pattern ≡ Some (pattern_of tree f.decl) =
    ap (slice_get (map (pattern_of tree) patterns)) index ∙ slice_get-map (pattern_of tree) patterns f.index ∙ ap (option_map (pattern_of tree)) f.decl_is in
    ap (λ (k : Option ℕ). option_and_then (λ (types : List Sort). slice_get types slot.field) (option_and_then (slice_get (sorts_by tree.messages)) k)) at
    ∙ known_kind tree.messages (message_number tree.messages f.decl.kind.name) slot.field slot.sort f.sort_is

-- Names of a message's fields that are declared more than once.
use Rattle.std.proofs.Common.{◌≡◌, ◌∙◌, ◌++◌, ◌+◌, ◌<◌, ℕ, List, [], ◌∷◌, length, drop, get_or, map, Option, refl, sym, ap}
use Rattle.script_grammar.specs.declared.fault.ScriptCause.TheVariants.{TwiceDeclared}
use Rattle.script_grammar.specs.declared.tree.FieldDecl.{FieldDecl}
use Rattle.script_names.specs.Names.{names_of, number_of}
use Rattle.script_names.specs.Scope.{Variable, field_rows, types_bound}
use Rattle.script_faults.specs.declared.first.Fault.{Fault}
use Rattle.script_faults.specs.Again.{again_faults, field_variable}
use Rattle.script_faults.specs.First.{fault_if, first_of}
use Rattle.script_faults.specs.Faults.{is_other, own_place, twice_declared, twice_from}
use Rattle.script_faults.proofs.BindingLemmas.{again-append, again_twice, slot_place}
use Rattle.script_faults.proofs.FirstLemmas.{drop_next, first_of-append}

-- ---- fields as variables

same_names : (fields : List FieldDecl) → names_of (map field_variable fields) ≡ names_of (field_rows fields)
same_names [] = refl
same_names (f ∷ fields) = ap (λ (names : List (List ℕ)). f.name.name ∷ names) (same_names fields)

same_twice : (names : List (List ℕ)) (number : ℕ) (fields : List FieldDecl) → twice_from slot_place names number (map field_variable fields) ≡ twice_from own_place names number (field_rows fields)
same_twice names number [] = refl
same_twice names number (f ∷ fields) =
    ap (λ (l : List Fault). fault_if (is_other number (number_of f.name.name names)) TwiceDeclared f.name.place ++ l) (same_twice names (number + 1) fields)

pub fields_again : (fields : List FieldDecl) → again_faults [] (map field_variable fields) ≡ twice_declared own_place (field_rows fields)
fields_again fields =
    again_twice (map field_variable fields)
    ∙ ap (λ (names : List (List ℕ)). twice_from slot_place names 0 (map field_variable fields)) (same_names fields)
    ∙ same_twice (names_of (field_rows fields)) 0 fields

-- ---- one field more

pub field_noted : (fields : List FieldDecl) (i : ℕ) (x : FieldDecl) → i < length fields → x ≡ get_or fields i x → (rows bound' : List Variable) (before after last : Option Fault)
    → after ≡ first_of before (again_faults rows (field_variable x ∷ [])) → bound' ≡ types_bound rows (field_variable x ∷ [])
    → first_of before (again_faults rows (map field_variable (drop i fields))) ≡ last → first_of after (again_faults bound' (map field_variable (drop (i + 1) fields))) ≡ last
field_noted fields i x within is rows bound' before after last is-after is-bound is-last =
    let v = field_variable x in
    let rest = map field_variable (drop (i + 1) fields) in
    (λ j. first_of (is-after j) (again_faults (is-bound j) rest))
    ∙ sym (first_of-append before (again_faults rows (v ∷ [])) (again_faults (types_bound rows (v ∷ [])) rest))
    ∙ ap (first_of before) (sym (again-append rows (v ∷ []) rest))
    ∙ ap (λ (fs : List FieldDecl). first_of before (again_faults rows (map field_variable fs))) (sym (drop_next fields i x within (sym is)))
    ∙ is-last

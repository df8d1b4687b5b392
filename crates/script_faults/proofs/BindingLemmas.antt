-- Names that are bound more than once, from the rows that are bound so far.
use Rattle.std.proofs.Common.{◌≡◌, ◌∙◌, ◌++◌, ◌+◌, ℕ, suc, Bool, true, false, cond, not, List, [], ◌∷◌, length, map, Option, None, Some, Decides, refl, sym, ap, append_assoc, length-append, arith}
use Rattle.std.specs.Prelude.{◌==◌}
use Rattle.std.specs.Option.{is_some, option_map}
use Rattle.std.specs.Str.{bytes_eq}
use Rattle.std.proofs.lemmas.Bool.Decides.{nat_tests}
use Rattle.std.proofs.lemmas.List.{map-append, length-map}
use Rattle.std.proofs.lemmas.Slice.Eq.{bytes_eq-Decides}
use Rattle.script_grammar.specs.declared.fault.ScriptCause.TheVariants.{TwiceDeclared}
use Rattle.script_names.specs.declared.scope.Slot.{Slot}
use Rattle.script_names.specs.Names.{bound, item_of, names_of, number_of}
use Rattle.script_names.specs.Scope.{Variable, typed, types_bound}
use Rattle.script_names.proofs.RowLemmas.{bound_all_item, item_of-number}
use Rattle.script_faults.specs.declared.first.Fault.{Fault}
use Rattle.script_faults.specs.Again.{again_faults}
use Rattle.script_faults.specs.First.{fault_if}
use Rattle.script_faults.specs.Faults.{is_other, twice_declared, twice_from}

pub types_bound-append : (rows some more : List Variable) → types_bound rows (some ++ more) ≡ types_bound (types_bound rows some) more
types_bound-append rows [] more = refl
types_bound-append rows (v ∷ some) more = types_bound-append (bound rows (typed v)) some more

pub again-append : (rows some more : List Variable) → again_faults rows (some ++ more) ≡ again_faults rows some ++ again_faults (types_bound rows some) more
again-append rows [] more = refl
again-append rows (v ∷ some) more =
    let one = fault_if (is_some (item_of v.0 rows)) TwiceDeclared v.1.place in
    ap (λ (l : List Fault). one ++ l) (again-append (bound rows (typed v)) some more)
    ∙ sym (append_assoc one (again_faults (bound rows (typed v)) some) (again_faults (types_bound (bound rows (typed v)) some) more))

-- ---- the first of a name among names

same_self : (name : List ℕ) → bytes_eq name name ≡ true
same_self name = by (bytes_eq name name) (bytes_eq-Decides name name)
  where
    by : (b : Bool) → Decides b (name ≡ name) → b ≡ true
    by true d = refl
    by false d = d.1 refl

next_same : (n m : ℕ) → not (m + 1 == suc n) ≡ not (m == n)
next_same n m = by (m == n) refl
  where
    by : (b : Bool) → (m == n) ≡ b → not (m + 1 == suc n) ≡ not b
    by true is = ap not (let more : (m + 1 == suc n) ≡ true = grind (arith, nat_tests) in more)
    by false is = ap not (let more : (m + 1 == suc n) ≡ false = grind (arith, nat_tests) in more)

zero_other : (n : ℕ) → not (0 == suc n) ≡ true
zero_other n = ap not (let apart : (0 == suc n) ≡ false = grind (arith, nat_tests) in apart)

-- a name behind these stands for another row where it is among them
other_is : (names rest : List (List ℕ)) (name : List ℕ) → is_other (length names) (number_of name (names ++ name ∷ rest)) ≡ is_some (number_of name names)
other_is [] rest name = ap (λ (b : Bool). is_other 0 (cond b (Some 0) (option_map (λ (n : ℕ). n + 1) (number_of name rest)))) (same_self name)
other_is (first ∷ names) rest name = by (bytes_eq name first) (number_of name (names ++ name ∷ rest)) (number_of name names) (other_is names rest name)
  where
    by : (b : Bool) (o p : Option ℕ) → is_other (length names) o ≡ is_some p
        → is_other (suc (length names)) (cond b (Some 0) (option_map (λ (n : ℕ). n + 1) o)) ≡ is_some (cond b (Some 0) (option_map (λ (n : ℕ). n + 1) p))
    by true o p same = zero_other (length names)
    by false None None same = refl
    by false None (Some n) same = same
    by false (Some m) None same = next_same (length names) m ∙ same
    by false (Some m) (Some n) same = next_same (length names) m ∙ same

abbrev pub slot_place : Slot → ℕ
slot_place slot = slot.place

typed_names : (rows : List Variable) → names_of (map typed rows) ≡ names_of rows
typed_names [] = refl
typed_names (v ∷ rows) = ap (λ (names : List (List ℕ)). v.0 ∷ names) (typed_names rows)

-- whether a name is bound is whether it is among the names
is_bound_in : (name : List ℕ) (rows : List Variable) → is_some (number_of name (names_of rows)) ≡ is_some (item_of name (types_bound [] rows))
is_bound_in name rows =
    ap (λ (names : List (List ℕ)). is_some (number_of name names)) (sym (typed_names rows))
    ∙ sym (item_of-number name (map typed rows))
    ∙ ap is_some (sym (bound_all_item name [] (map typed rows)))

-- the rows in front are bound, and those behind are told
twice_behind : (front rest : List Variable)
    → twice_from slot_place (names_of (front ++ rest)) (length front) rest ≡ again_faults (types_bound [] front) rest
twice_behind front [] = refl
twice_behind front (v ∷ rest) =
    let names : names_of (front ++ v ∷ rest) ≡ names_of front ++ v.0 ∷ names_of rest = map-append (λ (row : Variable). row.0) front (v ∷ rest) in
    let size : length front ≡ length (names_of front) = sym (length-map front (λ (row : Variable). row.0)) in
    let here : is_other (length front) (number_of v.0 (names_of (front ++ v ∷ rest))) ≡ is_some (item_of v.0 (types_bound [] front)) =
    (λ i. is_other (size i) (number_of v.0 (names i))) ∙ other_is (names_of front) (names_of rest) v.0 ∙ is_bound_in v.0 front in
    let regrouped : (front ++ v ∷ []) ++ rest ≡ front ++ v ∷ rest = append_assoc front (v ∷ []) rest in
    let longer : length (front ++ v ∷ []) ≡ length front + 1 = length-append front (v ∷ []) in
    let behind : twice_from slot_place (names_of (front ++ v ∷ rest)) (length front + 1) rest ≡ again_faults (bound (types_bound [] front) (typed v)) rest =
    sym (λ i. twice_from slot_place (names_of (regrouped i)) (longer i) rest) ∙ twice_behind (front ++ v ∷ []) rest
    ∙ ap (λ (rows : List Variable). again_faults rows rest) (types_bound-append [] front (v ∷ [])) in
    λ i. fault_if (here i) TwiceDeclared v.1.place ++ behind i

pub again_twice : (rows : List Variable) → again_faults [] rows ≡ twice_declared slot_place rows
again_twice rows = sym (twice_behind [] rows)

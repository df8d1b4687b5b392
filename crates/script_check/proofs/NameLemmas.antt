-- Where no name is declared twice, no two names of the plan are one.
use Rattle.std.proofs.Common.{◌≡◌, ◌∙◌, ℕ, ◌+◌, Bool, true, false, cond, not, ◌==◌, List, [], ◌∷◌, map, Option, None, Some, refl, sym, ap, subst, arith}
use Rattle.std.specs.Option.{option_map}
use Rattle.std.specs.List.{AllByRecursion}
use Rattle.std.specs.Str.{bytes_eq}
use Rattle.std.proofs.lemmas.Bool.Decides.{nat_tests}
use Rattle.join_base.specs.declared.message.Sort.{Sort}
use Rattle.script_grammar.specs.declared.tree.FieldDecl.{FieldDecl}
use Rattle.script_grammar.specs.declared.tree.MessageDecl.{MessageDecl}
use Rattle.script_grammar.specs.declared.tree.ActorDecl.{ActorDecl}
use Rattle.script_grammar.specs.declared.tree.Tree.{Tree}
use Rattle.script_names.specs.Names.{names_of, number_of}
use Rattle.script_names.specs.Scope.{actor_rows, field_rows, message_rows}
use Rattle.script_names.proofs.NameLemmas.{eq_sym}
use Rattle.script_grammar.specs.declared.fault.ScriptCause.TheVariants.{TwiceDeclared}
use Rattle.script_types.specs.Names.{AreApart, AreNames, AreOwnNames, actor_names, field_names, kind_names}
use Rattle.script_faults.specs.First.{fault_if}
use Rattle.script_faults.specs.Faults.{is_other, own_place, twice_declared, twice_from}
use Rattle.script_plan.specs.PlanOf.{actor_of, field_of, kind_of}
use Rattle.script_check.proofs.NumberLemmas.{left_none, right_none}

-- each of these names, numbered from here on, was declared nowhere before
abbrev AreFirst : List (List ℕ) → ℕ → List (List ℕ) → Type 0
AreFirst names number [] = Unit {0}
AreFirst names number (x ∷ xs) = (is_other number (number_of x names) ≡ false) × AreFirst names (number + 1) xs

not_other : (b : Bool) (place : ℕ) → fault_if b TwiceDeclared place ≡ [] → b ≡ false
not_other false place none = refl
not_other true place none = absurd cc

are_first : (names : List (List ℕ)) (number : ℕ) (rows : List (List ℕ × ℕ)) → twice_from own_place names number rows ≡ [] → AreFirst names number (names_of rows)
are_first names number [] none = tt
are_first names number (row ∷ rows) none =
    let here = fault_if (is_other number (number_of row.0 names)) TwiceDeclared row.1 in
    let others = twice_from own_place names (number + 1) rows in
    (not_other (is_other number (number_of row.0 names)) row.1 (left_none here others none), are_first names (number + 1) rows (right_none here others none))

-- ---- a name in front of others

zero_other : (number : ℕ) → not (0 == number + 1) ≡ true
zero_other number = grind (arith, nat_tests)

one_less : (a b : ℕ) → (a + 1 == b + 1) ≡ (a == b)
one_less a b = grind (arith, nat_tests)

apart_from : (number : ℕ) (b : Bool) (found : Option ℕ) → is_other (number + 1) (cond b (Some 0) found) ≡ false → b ≡ false
apart_from number false found first = refl
apart_from number true found first = let other = zero_other number in absurd cc

first_among : (number : ℕ) (found : Option ℕ) → is_other (number + 1) (option_map (λ (n : ℕ). n + 1) found) ≡ false → is_other number found ≡ false
first_among number None first = refl
first_among number (Some n) first = ap not (sym (one_less n number)) ∙ first

module _ (name : List ℕ) (names : List (List ℕ)) where
  apart_of : (number : ℕ) (xs : List (List ℕ)) → AreFirst (name ∷ names) (number + 1) xs → AllByRecursion (λ (other : List ℕ). bytes_eq name other ≡ false) xs
  apart_of number [] first = tt
  apart_of number (x ∷ xs) first =
      (eq_sym name x ∙ apart_from number (bytes_eq x name) (option_map (λ (n : ℕ). n + 1) (number_of x names)) first.0, apart_of (number + 1) xs first.1)

  others_of : (number : ℕ) (xs : List (List ℕ)) → AreFirst (name ∷ names) (number + 1) xs → AreFirst names number xs
  others_of number [] first = tt
  others_of number (x ∷ xs) first =
      let found = option_map (λ (n : ℕ). n + 1) (number_of x names) in
      let apart = apart_from number (bytes_eq x name) found first.0 in
      (first_among number (number_of x names) (subst (λ (b : Bool). is_other (number + 1) (cond b (Some 0) found) ≡ false) apart first.0), others_of (number + 1) xs first.1)

all_apart : (names : List (List ℕ)) → AreFirst names 0 names → AreApart names
all_apart [] first = tt
all_apart (name ∷ names) first = (apart_of name names 0 names first.1, all_apart names (others_of name names 0 names first.1))

own_names : (rows : List (List ℕ × ℕ)) (names : List (List ℕ)) → names_of rows ≡ names → twice_declared own_place rows ≡ [] → AreNames names → AreOwnNames names
own_names rows names are none each = record { each = each; apart = subst AreApart are (all_apart (names_of rows) (are_first (names_of rows) 0 rows none)) }

-- ---- the names of kinds, fields and actors

kind_rows : (messages : List MessageDecl) → names_of (message_rows messages) ≡ kind_names (map kind_of messages)
kind_rows [] = refl
kind_rows (m ∷ messages) = ap (λ (names : List (List ℕ)). m.name.name ∷ names) (kind_rows messages)

rows_of_fields : (fields : List FieldDecl) → names_of (field_rows fields) ≡ map (λ (field : List ℕ × Sort). field.0) (map field_of fields)
rows_of_fields [] = refl
rows_of_fields (f ∷ fields) = ap (λ (names : List (List ℕ)). f.name.name ∷ names) (rows_of_fields fields)

rows_of_actors : (tree : Tree) (actors : List ActorDecl) → names_of (actor_rows actors) ≡ actor_names (map (actor_of tree) actors)
rows_of_actors tree [] = refl
rows_of_actors tree (a ∷ actors) = ap (λ (names : List (List ℕ)). a.name.name ∷ names) (rows_of_actors tree actors)

pub own_kinds : (messages : List MessageDecl) → twice_declared own_place (message_rows messages) ≡ [] → AreNames (kind_names (map kind_of messages)) → AreOwnNames (kind_names (map kind_of messages))
own_kinds messages none each = own_names (message_rows messages) (kind_names (map kind_of messages)) (kind_rows messages) none each

pub own_fields : (m : MessageDecl) → twice_declared own_place (field_rows m.fields) ≡ [] → AreNames (field_names (kind_of m)) → AreOwnNames (field_names (kind_of m))
own_fields m none each = own_names (field_rows m.fields) (field_names (kind_of m)) (rows_of_fields m.fields) none each

pub own_actors : (tree : Tree) → twice_declared own_place (actor_rows tree.actors) ≡ [] → AreNames (actor_names (map (actor_of tree) tree.actors)) → AreOwnNames (actor_names (map (actor_of tree) tree.actors))
own_actors tree none each = own_names (actor_rows tree.actors) (actor_names (map (actor_of tree) tree.actors)) (rows_of_actors tree tree.actors) none each

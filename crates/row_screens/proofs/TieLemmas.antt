-- Which patterns a conjunct names. One without a field of a pattern stands where the pattern has a number as it does where
-- it has none.
use Rattle.std.proofs.Common.{◌≡◌, ◌∙◌, inl, inr, ℕ, zero, suc, ◌+◌, ◌<◌, List, [], ◌∷◌, ◌++◌, length, drop, get_or, set, slice_get, min, ◌≤◌, Bool, true, false, not, ◌&&◌, ◌||◌, Option, Some, refl, sym, ap, subst, arith}
use Rattle.std.specs.Prelude.{◌==◌, nat_le, nat_lt}
use Rattle.std.specs.List.{list_all, AllByRecursion}
use Rattle.std.proofs.lemmas.Bool.Decides.{nat_tests}
use Rattle.join_base.specs.declared.message.Message.{Message}
use Rattle.std.proofs.lemmas.Bool.{cases_eq, cases_lt}
use Rattle.std.proofs.lemmas.Option.{slice_get_past}
use Rattle.std.proofs.lemmas.List.{drop_more}
use Rattle.guard_eval.specs.declared.conjunct.Atom.{Atom}
use Rattle.guard_eval.specs.Condition.{Condition}
use Rattle.guard_eval.specs.Meaning.{Assignment, Need, number_at, needs_of, has_some, is_slot_filled, is_filled, is_decided, is_true}
use Rattle.guard_eval.specs.Shape.{atom_condition, atoms_condition}
use Rattle.guard_eval.proofs.ExtendLemmas.{both_true, is_true-extended}
use Rattle.row_screens.specs.Offers.{is_free}
use Rattle.tree_rows.specs.Routes.{with_number}
use Rattle.row_screens.specs.PlaceSet.{has}
use Rattle.row_screens.specs.Ties.{AreNaming, names, needs_in, needs_at}
use Rattle.row_screens.specs.declared.place_set.PlaceSet.{PlaceSet}
use Rattle.row_screens.proofs.SlotsLemmas.{extends_one}

one_more : (a both first second : Bool) → both ≡ (first || second) → (a || both) ≡ ((a || first) || second)
one_more true both first second is = refl
one_more false both first second is = is

pub names_append : (p : ℕ) (xs ys : List Need) → names p (xs ++ ys) ≡ (names p xs || names p ys)
names_append p [] ys = refl
names_append p (need ∷ xs) ys = one_more (need.0.pattern == p) (names p (xs ++ ys)) (names p xs) (names p ys) (names_append p xs ys)

-- ---- the atoms of a conjunct

-- an atom without a field of the pattern leaves the others to decide
pub others_name : (p : ℕ) (atoms : List Atom) (i : ℕ) (atom : Atom) → i < length atoms → atom ≡ get_or atoms i atom → names p (needs_of (atom_condition atom)) ≡ false
    → names p (needs_of (atoms_condition (drop (i + 1) atoms))) ≡ names p (needs_of (atoms_condition (drop i atoms)))
others_name p atoms i atom within is none =
    let later : List Need = needs_of (atoms_condition (drop (i + 1) atoms)) in
    let here : names p (needs_of (atom_condition (get_or atoms i atom))) ≡ false = ap (λ (a : Atom). names p (needs_of (atom_condition a))) (sym is) ∙ none in
    sym (ap (λ (as' : List Atom). names p (needs_of (atoms_condition as'))) (drop_more atoms i atom within) ∙ names_append p (needs_of (atom_condition (get_or atoms i atom))) later ∙ ap (λ (b : Bool). b || names p later) here)

-- one with a field decides
pub first_names : (p : ℕ) (atoms : List Atom) (i : ℕ) (atom : Atom) → i < length atoms → atom ≡ get_or atoms i atom → names p (needs_of (atom_condition atom)) ≡ true → names p (needs_of (atoms_condition (drop i atoms))) ≡ true
first_names p atoms i atom within is some =
    let later : List Need = needs_of (atoms_condition (drop (i + 1) atoms)) in
    let here : names p (needs_of (atom_condition (get_or atoms i atom))) ≡ true = ap (λ (a : Atom). names p (needs_of (atom_condition a))) (sym is) ∙ some in
    ap (λ (as' : List Atom). names p (needs_of (atoms_condition as'))) (drop_more atoms i atom within) ∙ names_append p (needs_of (atom_condition (get_or atoms i atom))) later ∙ ap (λ (b : Bool). b || names p later) here

-- ---- a number at a pattern that is not named

neither : (a b : Bool) → (a || b) ≡ false → (a ≡ false) × (b ≡ false)
neither true b e = absurd cc
neither false b e = (refl, e)

-- a number at another pattern is as it was
number_beside : (slots : Assignment) (p n q : ℕ) → (q == p) ≡ false → number_at (with_number slots p n) q ≡ number_at slots q
number_beside [] p n q other = refl
number_beside (slot ∷ slots) zero n zero other = absurd (let same : (0 == 0) ≡ true = refl in let e = sym same ∙ other in cc)
number_beside (slot ∷ slots) zero n (suc q) other = refl
number_beside (slot ∷ slots) (suc p) n zero other = refl
number_beside (slot ∷ slots) (suc p) n (suc q) other = number_beside slots p n q (same_test ∙ other)
  where
    same_test : (q == p) ≡ (suc q == suc p)
    same_test = grind (arith, nat_tests)

module _ (messages : List Message) (slots : Assignment) (p n : ℕ) where
  filled_beside : (needs : List Need) → names p needs ≡ false → list_all (is_filled (with_number slots p n)) needs ≡ list_all (is_filled slots) needs
  filled_beside [] none = refl
  filled_beside (need ∷ needs) none =
      let parts = neither (need.0.pattern == p) (names p needs) none in
      let here = ap is_slot_filled (number_beside slots p n need.0.pattern parts.0) in
      λ i. here i && filled_beside needs parts.1 i

  -- so it is true where it is decided with the number, if it is so without
  pub stands_beside : (c : Condition) → is_free slots p ≡ true → names p (needs_of c) ≡ false → (not (is_decided slots c) || is_true messages slots c) ≡ true
      → (not (is_decided (with_number slots p n) c) || is_true messages (with_number slots p n) c) ≡ true
  stands_beside c free none stands = by (is_decided slots c) refl stands
    where
      same : is_decided (with_number slots p n) c ≡ is_decided slots c
      same = λ i. has_some (needs_of c) && filled_beside (needs_of c) none i

      by : (b : Bool) → is_decided slots c ≡ b → (not b || is_true messages slots c) ≡ true → (not (is_decided (with_number slots p n) c) || is_true messages (with_number slots p n) c) ≡ true
      by false decided holds = λ i. not ((same ∙ decided) i) || is_true messages (with_number slots p n) c
      by true decided holds =
          let filled = (both_true (has_some (needs_of c)) (list_all (is_filled slots) (needs_of c)) decided).1 in
          (λ i. not ((same ∙ decided) i) || is_true messages (with_number slots p n) c) ∙ is_true-extended messages slots (with_number slots p n) (extends_one slots p n free) c filled ∙ holds

-- ---- filled patterns, one after the other

-- the pattern of the variable is filled, or not before this one
abbrev pub is_filled_before : Assignment → ℕ → Need → Bool
is_filled_before slots q need = nat_le q need.0.pattern || is_filled slots need

none_before : (n : ℕ) → nat_le 0 n ≡ true
none_before n = grind (arith, nat_tests)

pub all_before_none : (slots : Assignment) (needs : List Need) → list_all (is_filled_before slots 0) needs ≡ true
all_before_none slots [] = refl
all_before_none slots (need ∷ needs) = (λ i. (none_before need.0.pattern i || is_filled slots need) && list_all (is_filled_before slots 0) needs) ∙ all_before_none slots needs

not_before : (q n : ℕ) → n < q → nat_le q n ≡ false
not_before q n l = grind (arith, nat_tests)

pub all_before_last : (slots : Assignment) (q : ℕ) (needs : List Need) → AllByRecursion (λ n. n.0.pattern < q) needs → list_all (is_filled_before slots q) needs ≡ list_all (is_filled slots) needs
all_before_last slots q [] within = refl
all_before_last slots q (need ∷ needs) within = λ i. (not_before q need.0.pattern within.0 i || is_filled slots need) && all_before_last slots q needs within.1 i

pub and_true : (b : Bool) → b ≡ (b && true)
and_true true = refl
and_true false = refl

pub and_assoc : (a l t : Bool) → ((a && l) && t) ≡ (a && (l && t))
and_assoc true l t = refl
and_assoc false l t = refl

-- where the pattern is filled, a place stays
pub stays : (a f x : Bool) → f ≡ true → a ≡ (a && (f || x))
stays a f x e = and_true a ∙ sym (λ i. a && (e i || x))

-- where it is empty, it stays unless its conjunct has a field of the pattern
pub without_named : (a h f n : Bool) → h ≡ n → f ≡ false → (a && not h) ≡ (a && (f || not n))
without_named a h f n same e = (λ i. a && not (same i)) ∙ sym (λ i. a && (e i || not n))

here_too : (s l n : Bool) → (s && (l && (s || not n))) ≡ (l && (s || not (true || n)))
here_too true true n = refl
here_too true false n = refl
here_too false true n = refl
here_too false false n = refl

named_here : (n q : ℕ) → n ≡ q → (n == q) ≡ true
named_here n q is = grind (arith, nat_tests)

named_there : (n q : ℕ) → (n ≡ q → ⊥) → (n == q) ≡ false
named_there n q other = grind (arith, nat_tests)

from_here : (n q : ℕ) → n ≡ q → nat_le q n ≡ true
from_here n q is = grind (arith, nat_tests)

from_there : (n q : ℕ) → (n ≡ q → ⊥) → nat_le (q + 1) n ≡ nat_le q n
from_there n q other = grind (arith, nat_tests)

-- one pattern more
pub all_before_more : (slots : Assignment) (q : ℕ) (needs : List Need) → list_all (is_filled_before slots (q + 1)) needs ≡ (list_all (is_filled_before slots q) needs && (is_slot_filled (number_at slots q) || not (names q needs)))
all_before_more slots q [] = by (is_slot_filled (number_at slots q))
  where
    by : (b : Bool) → true ≡ (b || true)
    by true = refl
    by false = refl
all_before_more slots q (need ∷ needs) = elim (cases_eq need.0.pattern q) [
  | inl is ↦
      let n : ℕ = need.0.pattern in
      let s : Bool = is_slot_filled (number_at slots q) in
      let filled : is_filled slots need ≡ s = ap (λ (k : ℕ). is_slot_filled (number_at slots k)) is in
      let before : nat_le (q + 1) n ≡ false = not_before (q + 1) n (omega arith) in
      (λ i. (before i || filled i) && all_before_more slots q needs i)
      ∙ here_too s (list_all (is_filled_before slots q) needs) (names q needs)
      ∙ sym (λ i. ((from_here n q is i || is_filled slots need) && list_all (is_filled_before slots q) needs) && (s || not (named_here n q is i || names q needs)))
  | inr other ↦
      let n : ℕ = need.0.pattern in
      let s : Bool = is_slot_filled (number_at slots q) in
      (λ i. (from_there n q other i || is_filled slots need) && all_before_more slots q needs i)
      ∙ sym (and_assoc (nat_le q n || is_filled slots need) (list_all (is_filled_before slots q) needs) (s || not (names q needs)))
      ∙ sym (λ i. ((nat_le q n || is_filled slots need) && list_all (is_filled_before slots q) needs) && (s || not (named_there n q other i || names q needs)))
]

-- ---- the conjunct at a place

-- what is true of the variables of each conjunct
pub needs_there : (P : List Need → Type 0) → P [] → (conjuncts : List Condition) (place : ℕ) → AllByRecursion (λ c. P (needs_of c)) conjuncts → P (needs_at conjuncts place)
needs_there P none [] place h = none
needs_there P none (c ∷ conjuncts) zero h = h.0
needs_there P none (c ∷ conjuncts) (suc place) h = needs_there P none conjuncts place h.1

-- a conjunct with a field of a pattern, whose patterns are all filled, is decided
pub named_decided : (slots : Assignment) (p : ℕ) (c : Condition) → (names p (needs_of c) && list_all (is_filled slots) (needs_of c)) ≡ true → is_decided slots c ≡ true
named_decided slots p c h = by (needs_of c) h
  where
    by : (needs : List Need) → (names p needs && list_all (is_filled slots) needs) ≡ true → (has_some needs && list_all (is_filled slots) needs) ≡ true
    by [] e = absurd cc
    by (need ∷ needs) e = (both_true (names p (need ∷ needs)) (list_all (is_filled slots) (need ∷ needs)) e).1

undecided : (b t : Bool) → (not (b && false) || t) ≡ true
undecided true t = refl
undecided false t = refl

-- one without a field there, or with an empty pattern, stands where it did
pub stands_still : (messages : List Message) (slots : Assignment) (p n : ℕ) (c : Condition) → is_free slots p ≡ true → (not (is_decided slots c) || is_true messages slots c) ≡ true
    → (names p (needs_of c) && list_all (is_filled (with_number slots p n)) (needs_of c)) ≡ false → (not (is_decided (with_number slots p n) c) || is_true messages (with_number slots p n) c) ≡ true
stands_still messages slots p n c free stands not_with = by (names p (needs_of c)) refl (list_all (is_filled (with_number slots p n)) (needs_of c)) refl
  where
    longer : Assignment
    longer = with_number slots p n

    by : (b : Bool) → names p (needs_of c) ≡ b → (f : Bool) → list_all (is_filled longer) (needs_of c) ≡ f → (not (is_decided longer c) || is_true messages longer c) ≡ true
    by false none f filled = stands_beside messages slots p n c free none stands
    by true some true filled = absurd (let bad = sym (λ i. some i && filled i) ∙ not_with in cc)
    by true some false filled = (λ i. not (has_some (needs_of c) && filled i) || is_true messages longer c) ∙ undecided (has_some (needs_of c)) (is_true messages longer c)

-- ---- the sets of a table

-- a place that is added if the conjunct there has a field of the pattern
pub added_named : (a n h : Bool) → n ≡ true → (a || h) ≡ ((a && n) || h)
added_named true n h e = sym (λ i. e i || h)
added_named false n h e = refl

pub added_unnamed : (a n h : Bool) → n ≡ false → h ≡ ((a && n) || h)
added_unnamed true n h e = sym (λ i. e i || h)
added_unnamed false n h e = refl

or_false : (b : Bool) → (b || false) ≡ b
or_false true = refl
or_false false = refl

pub not_below : (k : ℕ) → nat_lt k 0 ≡ false
not_below k = grind (arith, nat_tests)

at_end : (k : ℕ) → nat_lt k k ≡ false
at_end k = grind (arith, nat_tests)

below_end : (k place : ℕ) → k < place → nat_lt k place ≡ true
below_end k place l = grind (arith, nat_tests)

up_to : (k place : ℕ) → (k ≡ place → ⊥) → nat_lt k (place + 1) ≡ nat_lt k place
up_to k place other = grind (arith, nat_tests)

-- the places before one more
pub named_more : (n : ℕ → Bool) (place k : ℕ) → (((k == place) && n place) || (nat_lt k place && n k)) ≡ (nat_lt k (place + 1) && n k)
named_more n place k = elim (cases_eq k place) [
  | inl is ↦
      let here : nat_lt k place ≡ false = ap (λ (x : ℕ). nat_lt k x) (sym is) ∙ at_end k in
      (λ i. (named_here k place is i && n place) || (here i && n k))
      ∙ or_false (n place)
      ∙ ap n (sym is)
      ∙ sym (λ i. below_end k (place + 1) (omega (arith, is)) i && n k)
  | inr other ↦
      (λ i. (named_there k place other i && n place) || (nat_lt k place && n k)) ∙ sym (λ i. up_to k place other i && n k)
]

-- a set of all places below the end
pub named_all : (conjuncts : List Condition) (p : ℕ) (found : PlaceSet) (end : ℕ) → ((k : ℕ) → has found k ≡ (nat_lt k end && names p (needs_at conjuncts k))) → min (length conjuncts) 64 ≤ end → AreNaming conjuncts p found
named_all conjuncts p found end told enough k small = elim (cases_lt k (length conjuncts)) [
  | inl within ↦ told k ∙ (λ i. below_end k end (omega (arith, within, small, enough)) i && names p (needs_at conjuncts k))
  | inr past ↦
      let none : names p (needs_at conjuncts k) ≡ false = ap (λ (c : Option Condition). names p (needs_in c)) (slice_get_past conjuncts k past) in
      told k ∙ (λ i. nat_lt k end && none i) ∙ never (nat_lt k end) ∙ sym none
]
  where
    never : (b : Bool) → (b && false) ≡ false
    never true = refl
    never false = refl

set_there : {X : Type 0} (xs : List X) (i : ℕ) (x y : X) → slice_get (set xs i x) i ≡ Some y → x ≡ y
set_there [] i x y e = absurd cc
set_there (z ∷ xs) zero x y e = cc
set_there (z ∷ xs) (suc i) x y e = set_there xs i x y e

set_elsewhere : {X : Type 0} (xs : List X) (i p : ℕ) (x : X) → (p ≡ i → ⊥) → slice_get (set xs i x) p ≡ slice_get xs p
set_elsewhere [] i p x other = refl
set_elsewhere (z ∷ xs) zero zero x other = absurd (other refl)
set_elsewhere (z ∷ xs) zero (suc p) x other = refl
set_elsewhere (z ∷ xs) (suc i) zero x other = refl
set_elsewhere (z ∷ xs) (suc i) (suc p) x other = set_elsewhere xs i p x (λ e. other (ap suc e))

-- one set more
pub tied_more : (conjuncts : List Condition) (cells : List PlaceSet) (i : ℕ) (new : PlaceSet) → AreNaming conjuncts i new → ((p : ℕ) (places : PlaceSet) → p < i → slice_get cells p ≡ Some places → AreNaming conjuncts p places)
    → (p : ℕ) (places : PlaceSet) → p < i + 1 → slice_get (set cells i new) p ≡ Some places → AreNaming conjuncts p places
tied_more conjuncts cells i new naming before p places below at = elim (cases_eq p i) [
  | inl is ↦
      let same : new ≡ places = set_there cells i new places (ap (slice_get (set cells i new)) (sym is) ∙ at) in
      subst (λ (q : ℕ). AreNaming conjuncts q places) (sym is) (subst (AreNaming conjuncts i) same naming)
  | inr other ↦ before p places (omega arith) (sym (set_elsewhere cells i p new other) ∙ at)
]

-- Marks, one behind the other, and what waits then.
use Rattle.std.proofs.Common.{◌≡◌, ◌∙◌, ◌⊎◌, inl, inr, ℕ, zero, suc, ◌+◌, ◌<◌, Bool, true, false, List, [], ◌∷◌, ◌++◌, length, Option, None, Some, slice_get, refl, sym, ap, subst, arith}
use Rattle.std.specs.Prelude.{if◌then◌else◌, slice_set}
use Rattle.std.proofs.lemmas.List.{length_push, length-set}
use Rattle.std.proofs.lemmas.Option.{slice_get-get_or}
use Rattle.pattern_core.specs.Members.{IsIn}
use Rattle.pattern_core.proofs.MembersLemmas.{IsIn-append_cases, IsIn-append_left, IsIn-append_right}
use Rattle.feed_causes.specs.Search.{all_awaited, all_marked, awaited, is_open, marked}

-- how many places have no mark
abbrev pub open_count : List Bool → ℕ
open_count [] = 0
open_count (true ∷ marks) = open_count marks
open_count (false ∷ marks) = suc (open_count marks)

-- ---- a mark

set_here : (marks : List Bool) (place : ℕ) → slice_get marks place ≡ Some false → slice_get (slice_set marks place true) place ≡ Some true
set_here [] place is = absurd cc
set_here (mark ∷ marks) zero is = refl
set_here (mark ∷ marks) (suc place) is = set_here marks place is

set_keeps : (marks : List Bool) (place other : ℕ) → slice_get marks other ≡ Some true → slice_get (slice_set marks place true) other ≡ Some true
set_keeps [] place other is = absurd cc
set_keeps (mark ∷ marks) zero zero is = refl
set_keeps (mark ∷ marks) zero (suc other) is = is
set_keeps (mark ∷ marks) (suc place) zero is = is
set_keeps (mark ∷ marks) (suc place) (suc other) is = set_keeps marks place other is

set_cases : (marks : List Bool) (place other : ℕ) → slice_get (slice_set marks place true) other ≡ Some true → (slice_get marks other ≡ Some true) ⊎ (place ≡ other)
set_cases [] place other is = inl is
set_cases (mark ∷ marks) zero zero is = inr refl
set_cases (mark ∷ marks) zero (suc other) is = inl is
set_cases (mark ∷ marks) (suc place) zero is = inl is
set_cases (mark ∷ marks) (suc place) (suc other) is = elim (set_cases marks place other is) [ inl had ↦ inl had | inr same ↦ inr (ap (λ (n : ℕ). suc n) same) ]

set_fewer : (marks : List Bool) (place : ℕ) → slice_get marks place ≡ Some false → open_count (slice_set marks place true) + 1 ≡ open_count marks
set_fewer [] place is = absurd cc
set_fewer (true ∷ marks) zero is = absurd cc
set_fewer (false ∷ marks) zero is = omega arith
set_fewer (true ∷ marks) (suc place) is = set_fewer marks place is
set_fewer (false ∷ marks) (suc place) is = let fewer = set_fewer marks place is in omega (arith, fewer)

-- ---- what marking does

-- marks behind marking some places, and what waits
pub record Marks (marks : List Bool) (waiting places : List ℕ) (after : List Bool) (left : List ℕ) : Type 0 where
  pub count : length after ≡ length marks
  pub keeps : (place : ℕ) → slice_get marks place ≡ Some true → slice_get after place ≡ Some true
  pub waits : (place : ℕ) → IsIn place waiting → IsIn place left
  pub has : (place : ℕ) → IsIn place places → place < length marks → slice_get after place ≡ Some true
  pub one_of : (place : ℕ) → slice_get after place ≡ Some true → (slice_get marks place ≡ Some true) ⊎ (IsIn place places × IsIn place left)
  pub among : (place : ℕ) → IsIn place left → IsIn place waiting ⊎ IsIn place places
  pub size : open_count after + length left ≡ open_count marks + length waiting

marks_none : (marks : List Bool) (waiting : List ℕ) → Marks marks waiting [] marks waiting
marks_none marks waiting = record {
  count = refl;
  keeps = λ place is. is;
  waits = λ place at. at;
  has = λ place at less. absurd at;
  one_of = λ place is. inl is;
  among = λ place at. inl at;
  size = refl;
}

marks_then : (marks : List Bool) (waiting places : List ℕ) (after : List Bool) (left others : List ℕ) (last : List Bool) (rest : List ℕ) → Marks marks waiting places after left → Marks after left others last rest
    → Marks marks waiting (places ++ others) last rest
marks_then marks waiting places after left others last rest one two = record {
  count = two.count ∙ one.count;
  keeps = λ place is. two.keeps place (one.keeps place is);
  waits = λ place at. two.waits place (one.waits place at);
  has = λ place at less. elim (IsIn-append_cases place places others at) [
    | inl early ↦ two.keeps place (one.has place early less)
    | inr late ↦ two.has place late (subst (λ (n : ℕ). place < n) (sym one.count) less)
  ];
  one_of = λ place is. elim (two.one_of place is) [
    | inl early ↦ from_first place (one.one_of place early)
    | inr late ↦ inr (IsIn-append_right place places others late.0, late.1)
  ];
  among = λ place at. elim (two.among place at) [
    | inl early ↦ among_first place (one.among place early)
    | inr late ↦ inr (IsIn-append_right place places others late)
  ];
  size = two.size ∙ one.size;
}
  where
    from_first : (place : ℕ) → (slice_get marks place ≡ Some true) ⊎ (IsIn place places × IsIn place left) → (slice_get marks place ≡ Some true) ⊎ (IsIn place (places ++ others) × IsIn place rest)
    from_first place (inl had) = inl had
    from_first place (inr new) = inr (IsIn-append_left place places others new.0, two.waits place new.1)

    among_first : (place : ℕ) → IsIn place waiting ⊎ IsIn place places → IsIn place waiting ⊎ IsIn place (places ++ others)
    among_first place (inl old) = inl old
    among_first place (inr new) = inr (IsIn-append_left place places others new)

-- ---- one place

module _ (marks : List Bool) (place : ℕ) (waiting : List ℕ) where
  -- the place has no mark
  marks_new : slice_get marks place ≡ Some false → Marks marks waiting (place ∷ []) (slice_set marks place true) (waiting ++ place ∷ [])
  marks_new is = record {
    count = length-set marks place true;
    keeps = λ other had. set_keeps marks place other had;
    waits = λ other at. IsIn-append_left other waiting (place ∷ []) at;
    has = λ other at less. elim at [
      | inl same ↦ subst (λ (p : ℕ). slice_get (slice_set marks place true) p ≡ Some true) same (set_here marks place is)
      | inr none ↦ absurd none
    ];
    one_of = λ other has. elim (set_cases marks place other has) [
      | inl had ↦ inl had
      | inr same ↦ inr (inl same, IsIn-append_right other waiting (place ∷ []) (inl same))
    ];
    among = λ other at. IsIn-append_cases other waiting (place ∷ []) at;
    size = let fewer = set_fewer marks place is in let more = length_push waiting place in omega (arith, fewer, more);
  }

  -- it has one, or there is no such place
  marks_old : (place < length marks → slice_get marks place ≡ Some true) → Marks marks waiting (place ∷ []) marks waiting
  marks_old had = record {
    count = refl;
    keeps = λ other is. is;
    waits = λ other at. at;
    has = λ other at less. elim at [
      | inl same ↦ subst (λ (p : ℕ). slice_get marks p ≡ Some true) same (had (subst (λ (p : ℕ). p < length marks) (sym same) less))
      | inr none ↦ absurd none
    ];
    one_of = λ other is. inl is;
    among = λ other at. inl at;
    size = refl;
  }

  marks_one : Marks marks waiting (place ∷ []) (marked marks place) (awaited marks place waiting)
  marks_one = by (slice_get marks place) refl
    where
      by : (mark : Option Bool) → slice_get marks place ≡ mark → Marks marks waiting (place ∷ []) (if is_open mark then slice_set marks place true else marks) (if is_open mark then waiting ++ place ∷ [] else waiting)
      by None is = marks_old (λ less. let there = slice_get-get_or marks place true less in absurd cc)
      by (Some true) is = marks_old (λ less. is)
      by (Some false) is = marks_new is

-- ---- several places

pub marks_all : (marks : List Bool) (waiting places : List ℕ) → Marks marks waiting places (all_marked marks places) (all_awaited marks places waiting)
marks_all marks waiting [] = marks_none marks waiting
marks_all marks waiting (place ∷ places) =
    marks_then marks waiting (place ∷ []) (marked marks place) (awaited marks place waiting) places (all_marked (marked marks place) places) (all_awaited (marked marks place) places (awaited marks place waiting))
    (marks_one marks place waiting) (marks_all (marked marks place) (awaited marks place waiting) places)

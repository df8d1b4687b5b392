-- The pairs that were found, row by row.
use Rattle.std.proofs.Common.{◌≡◌, ◌⊎◌, inl, inr, ⊎_elim, ℕ, ◌+◌, ◌<◌, ◌≤◌, List, [], ◌∷◌, ◌++◌, Option, Some, None, All, Any, AllPairs, length, get_or, refl, sym, ◌∙◌, subst, subst₂, arith, append-nil}
use Rattle.std.specs.List.{cons_option}
use Rattle.std.proofs.lemmas.Bool.{cases_lt}
use Rattle.std.proofs.lemmas.List.Elements.{All-nil, All-push, All-weaker, Contains-append_left}
use Rattle.std.proofs.lemmas.List.Quantifiers.{Any-push, all_pairs_push}
use Rattle.tied_patterns.specs.declared.equality.Equality.{Equality}
use Rattle.tied_patterns.specs.declared.tied.Tied.{Tied}
use Rattle.tied_patterns.specs.Rows.{AreFound, IsBefore, IsFound}
use Rattle.tied_patterns.specs.Tied.{AreTied, AreTiedPairs, IsEarlier, IsPair, IsTied, Lists}

any_before : {X : Type 0} (P : X → Type 0) (xs : List X) (x : X) → Any P xs → Any P (xs ++ x ∷ [])
any_before P xs x any =
    let at = Contains-append_left xs (x ∷ []) any.1 (any.0, any.2, any.3) in
    (at.0, any.1, at.1, at.2, any.4)

-- ---- a pair of patterns after the other

further : (one other first second : ℕ) → IsBefore one other first second → IsBefore one other first (second + 1)
further one other first second (inl less) = inl less
further one other first second (inr (same, less)) = inr (same, omega (arith, less))

-- what comes before the next pair of patterns comes before this one, or is this one
here_or_before : (one other first second : ℕ) → IsBefore one other first (second + 1) → IsBefore one other first second ⊎ ((one ≡ first) × (other ≡ second))
here_or_before one other first second (inl less) = inl (inl less)
here_or_before one other first second (inr (same, less)) = ⊎_elim
    (λ before. inl (inr (same, before)))
    (λ not_before. inr (same, omega (arith, less, not_before)))
    (cases_lt other second)

module _ (es : List Equality) (count first second : ℕ) (pairs : List Tied) (are : AreFound es count first second pairs) (order : first < second) (within : second < count) where
  next_none : (AreTied es first second → ⊥) → AreFound es count first (second + 1) pairs
  next_none none = record {
    tied = are.tied;
    placed = are.placed;
    before = All-weaker (λ (t : Tied). IsBefore t.left.pattern t.right.pattern first second) (λ (t : Tied). IsBefore t.left.pattern t.right.pattern first (second + 1))
        (λ t before. further t.left.pattern t.right.pattern first second before) pairs are.before;
    all = λ one other ordered inside before are_tied. ⊎_elim
        (λ earlier. are.all one other ordered inside earlier are_tied)
        (λ here. absurd (none (subst₂ (λ (f s : ℕ). AreTied es f s) here.0 here.1 are_tied)))
        (here_or_before one other first second before);
    once = are.once;
  }

  next_some : (tied : Tied) → tied.left.pattern ≡ first → tied.right.pattern ≡ second → IsTied es tied → AreFound es count first (second + 1) (pairs ++ tied ∷ [])
  next_some tied of_first of_second is_tied = record {
    tied = All-push (IsTied es) pairs tied are.tied is_tied;
    placed = All-push (IsPair count) pairs tied are.placed (omega (arith, of_first, of_second, order), omega (arith, of_second, within));
    before = All-push (λ (t : Tied). IsBefore t.left.pattern t.right.pattern first (second + 1)) pairs tied
        (All-weaker (λ (t : Tied). IsBefore t.left.pattern t.right.pattern first second) (λ (t : Tied). IsBefore t.left.pattern t.right.pattern first (second + 1))
        (λ t before. further t.left.pattern t.right.pattern first second before) pairs are.before)
        (inr (of_first, omega (arith, of_second)));
    all = λ one other ordered inside before are_tied. ⊎_elim
        (λ earlier. any_before (λ (t : Tied). (t.left.pattern ≡ one) × (t.right.pattern ≡ other)) pairs tied (are.all one other ordered inside earlier are_tied))
        (λ here. Any-push (λ (t : Tied). (t.left.pattern ≡ one) × (t.right.pattern ≡ other)) pairs tied (of_first ∙ sym here.0, of_second ∙ sym here.1))
        (here_or_before one other first second before);
    once = all_pairs_push IsEarlier pairs tied are.once (λ k d inside. earlier_than (get_or pairs k d) (are.before k d inside));
  }
    where
      earlier_than : (t : Tied) → IsBefore t.left.pattern t.right.pattern first second → IsEarlier t tied
      earlier_than t (inl less) = inl (omega (arith, less, of_first))
      earlier_than t (inr (same, less)) = inr (same ∙ sym of_first, omega (arith, less, of_second))

  next : (found : Option Tied) → IsFound es first second found → AreFound es count first (second + 1) (pairs ++ cons_option found [])
  next None none = subst (λ (ps : List Tied). AreFound es count first (second + 1) ps) (sym (append-nil pairs)) (next_none none)
  next (Some tied) some = next_some tied some.0 some.1 some.2

-- the pairs with what the next two patterns come to
pub next_pair : (es : List Equality) (count first second : ℕ) (pairs after : List Tied) (found : Option Tied) → AreFound es count first second pairs → first < second → second < count
    → IsFound es first second found → after ≡ pairs ++ cons_option found [] → AreFound es count first (second + 1) after
next_pair es count first second pairs after found are order within is pushed =
    subst (λ (ps : List Tied). AreFound es count first (second + 1) ps) (sym pushed) (next es count first second pairs are order within found is)

-- ---- rows

-- before the first row there is no pair
pub none_found : (es : List Equality) (count : ℕ) → AreFound es count 0 (0 + 1) []
none_found es count = record {
  tied = All-nil (IsTied es);
  placed = All-nil (IsPair count);
  before = All-nil (λ (t : Tied). IsBefore t.left.pattern t.right.pattern 0 (0 + 1));
  all = λ one other ordered inside before are_tied. absurd (⊎_elim (λ less. omega (arith, less)) (λ here. omega (arith, ordered, here.0, here.1)) before);
  once = λ i j d less inside. absurd (omega (arith, inside));
}

-- behind a row comes the next one
pub next_row : (es : List Equality) (count first : ℕ) (pairs : List Tied) → AreFound es count first count pairs → AreFound es count (first + 1) (first + 1 + 1) pairs
next_row es count first pairs are = record {
  tied = are.tied;
  placed = are.placed;
  before = All-weaker (λ (t : Tied). IsBefore t.left.pattern t.right.pattern first count) (λ (t : Tied). IsBefore t.left.pattern t.right.pattern (first + 1) (first + 1 + 1))
      (λ t before. row_below t.left.pattern t.right.pattern before) pairs are.before;
  all = λ one other ordered inside before are_tied. are.all one other ordered inside (row_done one other ordered inside before) are_tied;
  once = are.once;
}
  where
    row_below : (one other : ℕ) → IsBefore one other first count → IsBefore one other (first + 1) (first + 1 + 1)
    row_below one other (inl less) = inl (omega (arith, less))
    row_below one other (inr (same, less)) = inl (omega (arith, same))

    row_done : (one other : ℕ) → one < other → other < count → IsBefore one other (first + 1) (first + 1 + 1) → IsBefore one other first count
    row_done one other ordered inside (inl less) = ⊎_elim (λ before. inl before) (λ not_before. inr (omega (arith, less, not_before), inside)) (cases_lt one first)
    row_done one other ordered inside (inr (same, less)) = absurd (omega (arith, ordered, same, less))

-- behind the last row all are found
pub all_found : (es : List Equality) (count : ℕ) (pairs : List Tied) → AreFound es count count (count + 1) pairs → AreTiedPairs es count pairs
all_found es count pairs are = record {
  tied = are.tied;
  placed = are.placed;
  all = λ one other ordered inside are_tied. are.all one other ordered inside (inl (omega (arith, ordered, inside))) are_tied;
  once = are.once;
}

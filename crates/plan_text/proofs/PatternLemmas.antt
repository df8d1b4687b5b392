-- The patterns of a definition, one after another.
use Rattle.std.proofs.Common.{◌≡◌, ◌∙◌, ℕ, zero, suc, ◌+◌, ◌<◌, ◌≤◌, List, [], ◌∷◌, ◌++◌, add-one, append_assoc, arith, ap, drop, get_or, length, refl, sym, take}
use Rattle.std.specs.Prelude.{codes}
use Rattle.std.specs.List.{flat_map, join_by}
use Rattle.std.proofs.lemmas.List.{flat_map_more, take_all, take_more}
use Rattle.script_types.specs.declared.plan.Plan.{Plan}
use Rattle.plan_text.specs.PlanNames.{Row, Variables, row_of}
use Rattle.plan_text.specs.PlanText.{pattern_text, patterns_of}
use Rattle.plan_text.proofs.RestLemmas.{rest, rest-cons}

-- a row counted from the second
row_of-next : (rows : Variables) (i : ℕ) → row_of rows (suc i) ≡ row_of (drop 1 rows) i
row_of-next [] i = refl
row_of-next (row ∷ rows) i = refl

-- the first kind has the first row
pub patterns_of-first : (kind : ℕ) (kinds : List ℕ) (rows : Variables) → patterns_of (kind ∷ kinds) rows ≡ (kind, row_of rows 0) ∷ patterns_of kinds (drop 1 rows)
patterns_of-first kind kinds [] = refl
patterns_of-first kind kinds (row ∷ rows) = refl

length-patterns_of : (kinds : List ℕ) (rows : Variables) → length (patterns_of kinds rows) ≡ length kinds
length-patterns_of [] rows = refl
length-patterns_of (kind ∷ kinds) [] = ap suc (length-patterns_of kinds [])
length-patterns_of (kind ∷ kinds) (row ∷ rows) = ap suc (length-patterns_of kinds rows)

patterns_of-at : (kinds : List ℕ) (rows : Variables) (i d : ℕ) (other : ℕ × Row) → i < length kinds → get_or (patterns_of kinds rows) i other ≡ (get_or kinds i d, row_of rows i)
patterns_of-at [] rows i d other within = absurd (omega arith)
patterns_of-at (kind ∷ kinds) [] zero d other within = refl
patterns_of-at (kind ∷ kinds) [] (suc i) d other within = patterns_of-at kinds [] i d other (omega arith)
patterns_of-at (kind ∷ kinds) (row ∷ rows) zero d other within = refl
patterns_of-at (kind ∷ kinds) (row ∷ rows) (suc i) d other within = patterns_of-at kinds rows i d other (omega arith)

-- the patterns up to the one at place i
pub patterns_of-more : (kinds : List ℕ) (rows : Variables) (i d : ℕ) → i < length kinds → take (i + 1) (patterns_of kinds rows) ≡ take i (patterns_of kinds rows) ++ (get_or kinds i d, row_of rows i) ∷ []
patterns_of-more kinds rows i d within =
    let other : ℕ × Row = (0, []) in
    let inside : i < length (patterns_of kinds rows) = omega (arith, length-patterns_of kinds rows) in
    take_more (patterns_of kinds rows) i other inside
    ∙ ap (λ (p : ℕ × Row). take i (patterns_of kinds rows) ++ p ∷ []) (patterns_of-at kinds rows i d other within)

abbrev further_pattern : Plan → (ℕ × Row) → List ℕ
further_pattern plan pattern = codes " & " ++ pattern_text plan pattern

-- a loop's step: ` & ` is appended, then the pattern
pub pattern_written : (plan : Plan) (kinds : List ℕ) (rows : Variables) (i : ℕ) (row : Row) (start so_far joined now : List ℕ) → i < length kinds → row ≡ row_of rows (i + 1)
    → so_far ≡ start ++ flat_map (λ p. codes " & " ++ pattern_text plan p) (take i (patterns_of kinds (drop 1 rows))) → joined ≡ so_far ++ codes " & " → now ≡ joined ++ pattern_text plan (get_or kinds i 0, row)
    → now ≡ start ++ flat_map (λ p. codes " & " ++ pattern_text plan p) (take (i + 1) (patterns_of kinds (drop 1 rows)))
pattern_written plan kinds rows i row start so_far joined now within row_is so_far_is joined_is now_is =
    let before : List (ℕ × Row) = take i (patterns_of kinds (drop 1 rows)) in
    let row_here : row ≡ row_of (drop 1 rows) i = row_is ∙ ap (row_of rows) (add-one i) ∙ row_of-next rows i in
    now_is
    ∙ ap (λ (text : List ℕ). text ++ pattern_text plan (get_or kinds i 0, row)) joined_is
    ∙ append_assoc so_far (codes " & ") (pattern_text plan (get_or kinds i 0, row))
    ∙ ap (λ (text : List ℕ). text ++ further_pattern plan (get_or kinds i 0, row)) so_far_is
    ∙ flat_map_more (further_pattern plan) start before (get_or kinds i 0, row)
    ∙ ap (λ (r : Row). start ++ flat_map (further_pattern plan) (before ++ (get_or kinds i 0, r) ∷ [])) row_here
    ∙ ap (λ (ps : List (ℕ × Row)). start ++ flat_map (further_pattern plan) ps) (sym (patterns_of-more kinds (drop 1 rows) i 0 within))

-- the patterns are written: the first, and then the further ones
pub patterns_written : (plan : Plan) (kinds : List ℕ) (rows : Variables) (i : ℕ) (row : Row) (start begun now : List ℕ) → 1 ≤ length kinds → length (rest kinds) ≤ i → row ≡ row_of rows 0
    → begun ≡ start ++ pattern_text plan (get_or kinds 0 0, row) → now ≡ begun ++ flat_map (λ p. codes " & " ++ pattern_text plan p) (take i (patterns_of (rest kinds) (drop 1 rows)))
    → now ≡ start ++ join_by (pattern_text plan) (codes " & ") (patterns_of kinds rows)
patterns_written plan [] rows i row start begun now some all row_is begun_is now_is = absurd (omega arith)
patterns_written plan (kind ∷ kinds) rows i row start begun now some all row_is begun_is now_is =
    let more : List (ℕ × Row) = patterns_of (rest (kind ∷ kinds)) (drop 1 rows) in
    let whole : take i more ≡ more = take_all i more (omega (arith, length-patterns_of (rest (kind ∷ kinds)) (drop 1 rows))) in
    let same : take i more ≡ patterns_of kinds (drop 1 rows) = whole ∙ ap (λ (ks : List ℕ). patterns_of ks (drop 1 rows)) (rest-cons kind kinds) in
    now_is
    ∙ ap (λ (text : List ℕ). text ++ flat_map (further_pattern plan) (take i more)) (begun_is ∙ ap (λ (r : Row). start ++ pattern_text plan (kind, r)) row_is)
    ∙ append_assoc start (pattern_text plan (kind, row_of rows 0)) (flat_map (further_pattern plan) (take i more))
    ∙ ap (λ (ps : List (ℕ × Row)). start ++ (pattern_text plan (kind, row_of rows 0) ++ flat_map (further_pattern plan) ps)) same
    ∙ ap (λ (ps : List (ℕ × Row)). start ++ join_by (pattern_text plan) (codes " & ") ps) (sym (patterns_of-first kind kinds rows))

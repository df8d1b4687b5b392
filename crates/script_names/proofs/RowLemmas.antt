-- What a name stands for in rows of which each name is kept once.
use Rattle.std.proofs.Common.{◌≡◌, ℕ, suc, ◌+◌, Bool, true, false, cond, List, [], ◌∷◌, ◌++◌, map, Bor, Option, None, Some, is_some, refl, sym, ap, ◌∙◌, append_assoc, arith}
use Rattle.std.proofs.lemmas.List.{append-nil}
use Rattle.std.specs.Option.{option_map, option_and_then, option_or}
use Rattle.std.specs.Prelude.{slice_get}
use Rattle.std.specs.Str.{bytes_eq}
use Rattle.std.proofs.lemmas.Slice.Eq.{bytes_eq-Decides}
use Rattle.std.specs.Map.{lookup}
use Rattle.script_names.specs.Names.{bound, bound_all, item_of, names_of, number_of}
use Rattle.script_names.proofs.NameLemmas.{same_name}

abbrev Row : Type 0 → Type 0
Row T = List ℕ × T

pub none_of : {A : Type 0} (o : Option A) → is_some o ≡ false → o ≡ None
none_of None is = refl
none_of (Some x) is = absurd cc

module _ {T : Type 0} where
  pub item_of-cons : (name : List ℕ) (row : Row T) (rows : List (Row T)) → item_of name (row ∷ rows) ≡ cond (bytes_eq name row.0) (Some row.1) (item_of name rows)
  item_of-cons name row rows = by (bytes_eq name row.0) (number_of name (names_of rows))
    where
      by : (b : Bool) (o : Option ℕ) → option_map (λ (r : Row T). r.1) (option_and_then (slice_get (row ∷ rows)) (cond b (Some 0) (option_map (λ (n : ℕ). n + 1) o)))
          ≡ cond b (Some row.1) (option_map (λ (r : Row T). r.1) (option_and_then (slice_get rows) o))
      by true o = refl
      by false None = refl
      by false (Some n) = let next : n + 1 ≡ suc n = omega arith in ap (λ (k : ℕ). option_map (λ (r : Row T). r.1) (slice_get (row ∷ rows) k)) next

  pub item_of-append : (name : List ℕ) (rows more : List (Row T)) → item_of name (rows ++ more) ≡ option_or (item_of name rows) (item_of name more)
  item_of-append name [] more = refl
  item_of-append name (row ∷ rows) more =
      item_of-cons name row (rows ++ more) ∙ by (bytes_eq name row.0) (item_of-append name rows more)
      ∙ ap (λ (o : Option T). option_or o (item_of name more)) (sym (item_of-cons name row rows))
    where
      by : (b : Bool) → item_of name (rows ++ more) ≡ option_or (item_of name rows) (item_of name more)
          → cond b (Some row.1) (item_of name (rows ++ more)) ≡ option_or (cond b (Some row.1) (item_of name rows)) (item_of name more)
      by true others = refl
      by false others = others

  -- whether a name stands for something is whether it has a number
  pub item_of-number : (name : List ℕ) (rows : List (Row T)) → is_some (item_of name rows) ≡ is_some (number_of name (names_of rows))
  item_of-number name [] = refl
  item_of-number name (row ∷ rows) = ap is_some (item_of-cons name row rows) ∙ by (bytes_eq name row.0) (number_of name (names_of rows)) (item_of-number name rows)
    where
      by : (b : Bool) (o : Option ℕ) → is_some (item_of name rows) ≡ is_some o → is_some (cond b (Some row.1) (item_of name rows)) ≡ is_some (cond b (Some 0) (option_map (λ (n : ℕ). n + 1) o))
      by true o same = refl
      by false None same = same
      by false (Some n) same = same

  -- ---- rows of which each name is kept once

  or_none : (o : Option T) → o ≡ option_or o None
  or_none None = refl
  or_none (Some x) = refl

  or_some : (o p : Option T) → is_some o ≡ true → o ≡ option_or o p
  or_some None p is = absurd cc
  or_some (Some x) p is = refl

  kept : (name : List ℕ) (rows : List (Row T)) (row : Row T) → is_some (item_of row.0 rows) ≡ true → item_of name rows ≡ item_of name (rows ++ row ∷ [])
  kept name rows row there =
      by (bytes_eq name row.0) refl ∙ ap (option_or (item_of name rows)) (sym (item_of-cons name row [])) ∙ sym (item_of-append name rows (row ∷ []))
    where
      by : (b : Bool) → bytes_eq name row.0 ≡ b → item_of name rows ≡ option_or (item_of name rows) (cond b (Some row.1) (item_of name []))
      by true is = or_some (item_of name rows) (Some row.1) (ap (λ (n : List ℕ). is_some (item_of n rows)) (same_name name row.0 (bytes_eq name row.0) (bytes_eq-Decides name row.0) is) ∙ there)
      by false is = or_none (item_of name rows)

  bound_item : (name : List ℕ) (rows : List (Row T)) (row : Row T) → item_of name (bound rows row) ≡ item_of name (rows ++ row ∷ [])
  bound_item name rows row = by (is_some (item_of row.0 rows)) refl
    where
      by : (b : Bool) → is_some (item_of row.0 rows) ≡ b → item_of name (cond b rows (rows ++ row ∷ [])) ≡ item_of name (rows ++ row ∷ [])
      by true there = kept name rows row there
      by false there = refl

  -- a name stands for the same in all rows
  pub bound_all_item : (name : List ℕ) (rows more : List (Row T)) → item_of name (bound_all rows more) ≡ item_of name (rows ++ more)
  bound_all_item name rows [] = ap (item_of name) (sym (append-nil rows))
  bound_all_item name rows (row ∷ more) =
      bound_all_item name (bound rows row) more
      ∙ item_of-append name (bound rows row) more
      ∙ ap (λ (o : Option T). option_or o (item_of name more)) (bound_item name rows row)
      ∙ sym (item_of-append name (rows ++ row ∷ []) more)
      ∙ ap (item_of name) (append_assoc rows (row ∷ []) more)

  -- ---- one row more

  pub not_bound : (rows : List (Row T)) (row : Row T) → is_some (item_of row.0 rows) ≡ true → rows ≡ bound rows row
  not_bound rows row there = ap (λ (b : Bool). cond b rows (rows ++ row ∷ [])) (sym there)

  pub is_bound : (rows : List (Row T)) (row : Row T) → is_some (item_of row.0 rows) ≡ false → rows ++ row ∷ [] ≡ bound rows row
  is_bound rows row absent = ap (λ (b : Bool). cond b rows (rows ++ row ∷ [])) (sym absent)

-- ---- rows of which each item is seen as another

module _ {S T : Type 0} (f : S → T) where
  one_seen : (b : Bool) (x : S) (o : Option S) → option_map f (cond b (Some x) o) ≡ cond b (Some (f x)) (option_map f o)
  one_seen true x o = refl
  one_seen false x o = refl

  pub item_of-map : (name : List ℕ) (rows : List (Row S)) → item_of name (map (λ (row : Row S). (row.0, f row.1)) rows) ≡ option_map f (item_of name rows)
  item_of-map name [] = refl
  item_of-map name (row ∷ rows) =
      item_of-cons name (row.0, f row.1) (map (λ (row : Row S). (row.0, f row.1)) rows)
      ∙ ap (cond (bytes_eq name row.0) (Some (f row.1))) (item_of-map name rows)
      ∙ sym (one_seen (bytes_eq name row.0) row.1 (item_of name rows))
      ∙ ap (option_map f) (sym (item_of-cons name row rows))

  -- the same of rows as a map holds them
  pub item_of-entries : (name : List ℕ) (entries : List (Bor (List ℕ) × S))
      → option_map f (lookup (λ (key : Bor (List ℕ)). bytes_eq name key.now) entries) ≡ item_of name (map (λ (e : Bor (List ℕ) × S). (e.0.now, f e.1)) entries)
  item_of-entries name [] = refl
  item_of-entries name (e ∷ entries) =
      one_seen (bytes_eq name e.0.now) e.1 (lookup (λ (key : Bor (List ℕ)). bytes_eq name key.now) entries)
      ∙ ap (cond (bytes_eq name e.0.now) (Some (f e.1))) (item_of-entries name entries)
      ∙ sym (item_of-cons name (e.0.now, f e.1) (map (λ (e : Bor (List ℕ) × S). (e.0.now, f e.1)) entries))

  some_seen : (o : Option S) → is_some o ≡ is_some (option_map f o)
  some_seen None = refl
  some_seen (Some x) = refl

  pub has_item : (name : List ℕ) (entries : List (Bor (List ℕ) × S))
      → is_some (lookup (λ (key : Bor (List ℕ)). bytes_eq name key.now) entries) ≡ is_some (item_of name (map (λ (e : Bor (List ℕ) × S). (e.0.now, f e.1)) entries))
  has_item name entries = some_seen (lookup (λ (key : Bor (List ℕ)). bytes_eq name key.now) entries) ∙ ap is_some (item_of-entries name entries)

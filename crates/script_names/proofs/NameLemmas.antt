-- The number of a name in a list that has one name more.
use Rattle.std.proofs.Common.{◌≡◌, ℕ, ◌+◌, suc, Bool, true, false, cond, List, [], ◌∷◌, ◌++◌, length, map, Bor, Option, None, Some, Decides, refl, sym, ap, ◌∙◌, arith}
use Rattle.std.specs.Option.{option_map, option_or, is_some}
use Rattle.std.specs.Prelude.{◌<◌, IfSome}
use Rattle.std.specs.Str.{bytes_eq}
use Rattle.std.proofs.lemmas.Slice.Eq.{bytes_eq-Decides}
use Rattle.script_names.specs.Names.{names_of, number_of}

-- where a name would stand behind so many others
abbrev last_number : Bool → ℕ → Option ℕ
last_number b count = cond b (Some count) None

later : (b : Bool) (count : ℕ) (o : Option ℕ) → option_map (λ (n : ℕ). n + 1) (option_or o (last_number b count)) ≡ option_or (option_map (λ (n : ℕ). n + 1) o) (last_number b (suc count))
later true count None = ap (λ (n : ℕ). Some n) (omega arith)
later false count None = refl
later b count (Some n) = refl

pub number_of-push : (name : List ℕ) (names : List (List ℕ)) (new : List ℕ) → number_of name (names ++ new ∷ []) ≡ option_or (number_of name names) (last_number (bytes_eq name new) (length names))
number_of-push name [] new = by-test (bytes_eq name new)
  where
    by-test : (b : Bool) → cond b (Some 0) (option_map (λ (n : ℕ). n + 1) None) ≡ option_or None (last_number b 0)
    by-test true = refl
    by-test false = refl
number_of-push name (first ∷ others) new = by-test (bytes_eq name first) (number_of-push name others new)
  where
    by-test : (b : Bool) → number_of name (others ++ new ∷ []) ≡ option_or (number_of name others) (last_number (bytes_eq name new) (length others))
        → cond b (Some 0) (option_map (λ (n : ℕ). n + 1) (number_of name (others ++ new ∷ []))) ≡ option_or (cond b (Some 0) (option_map (λ (n : ℕ). n + 1) (number_of name others))) (last_number (bytes_eq name new) (suc (length others)))
    by-test true e = refl
    by-test false e = ap (option_map (λ (n : ℕ). n + 1)) e ∙ later (bytes_eq name new) (length others) (number_of name others)

pub same_name : (a b : List ℕ) (t : Bool) → Decides t (a ≡ b) → t ≡ true → a ≡ b
same_name a b t d is = d.0 is

-- a name that was there keeps its number
pub number_kept : (names : List (List ℕ)) (new : List ℕ) → is_some (number_of new names) ≡ true → (name : List ℕ) → number_of name names ≡ number_of name (names ++ new ∷ [])
number_kept names new there name = by-test (bytes_eq name new) refl ∙ sym (number_of-push name names new)
  where
    some : (o : Option ℕ) (p : Option ℕ) → is_some o ≡ true → o ≡ option_or o p
    some None p is = absurd cc
    some (Some n) p is = refl

    none : (o : Option ℕ) → o ≡ option_or o None
    none None = refl
    none (Some n) = refl

    by-test : (b : Bool) → bytes_eq name new ≡ b → number_of name names ≡ option_or (number_of name names) (last_number b (length names))
    by-test true is = some (number_of name names) (Some (length names)) (ap (λ (x : List ℕ). is_some (number_of x names)) (same_name name new (bytes_eq name new) (bytes_eq-Decides name new) is) ∙ there)
    by-test false is = none (number_of name names)

pub eq_sym : (a b : List ℕ) → bytes_eq a b ≡ bytes_eq b a
eq_sym a b = both (bytes_eq a b) (bytes_eq b a) (bytes_eq-Decides a b) (bytes_eq-Decides b a)
  where
    both : (s t : Bool) → Decides s (a ≡ b) → Decides t (b ≡ a) → s ≡ t
    both true true d e = refl
    both false false d e = refl
    both true false d e = sym (e.1 (sym (d.0 refl)))
    both false true d e = d.1 (sym (e.0 refl))

-- a new name stands for the number of names before it, and the others keep theirs
pub number_added : (names : List (List ℕ)) (new : List ℕ) (count : ℕ) → length names ≡ count → is_some (number_of new names) ≡ false
    → (name : List ℕ) → cond (bytes_eq new name) (Some count) (number_of name names) ≡ number_of name (names ++ new ∷ [])
number_added names new count is_count fresh name =
    ap (λ (b : Bool). cond b (Some count) (number_of name names)) (eq_sym new name) ∙ by-test (bytes_eq name new) refl ∙ sym (number_of-push name names new)
  where
    absent : (o : Option ℕ) → is_some o ≡ false → Some count ≡ option_or o (Some (length names))
    absent None is = ap (λ (n : ℕ). Some n) (sym is_count)
    absent (Some n) is = absurd cc

    none : (o : Option ℕ) → o ≡ option_or o None
    none None = refl
    none (Some n) = refl

    by-test : (b : Bool) → bytes_eq name new ≡ b → cond b (Some count) (number_of name names) ≡ option_or (number_of name names) (last_number b (length names))
    by-test true is = absent (number_of name names) (ap (λ (x : List ℕ). is_some (number_of x names)) (same_name name new (bytes_eq name new) (bytes_eq-Decides name new) is) ∙ fresh)
    by-test false is = none (number_of name names)

-- a name stands for one of the list
pub number_within : (name : List ℕ) (names : List (List ℕ)) → IfSome (number_of name names) (λ n. n < length names)
number_within name [] = tt
number_within name (first ∷ others) = by-test (bytes_eq name first) (number_of name others) (number_within name others)
  where
    by-test : (b : Bool) (o : Option ℕ) → IfSome o (λ n. n < length others) → IfSome (cond b (Some 0) (option_map (λ (n : ℕ). n + 1) o)) (λ n. n < suc (length others))
    by-test true o w = omega arith
    by-test false None w = tt
    by-test false (Some n) w = omega (arith, w)

-- the names of a table as its rows hold them, and as they are seen
pub names_of-seen : {T : Type 0} (rows : List (Bor (List ℕ) × T)) → map (λ (r : Bor (List ℕ) × T). r.0.now) rows ≡ names_of (map (λ (r : Bor (List ℕ) × T). (r.0.now, r.1)) rows)
names_of-seen [] = refl
names_of-seen (r ∷ rows) = ap (λ (names : List (List ℕ)). r.0.now ∷ names) (names_of-seen rows)

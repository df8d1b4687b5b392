-- The number of a name is the first place that has it.
use Rattle.std.proofs.Common.{◌≡◌, ◌∙◌, ℕ, ◌+◌, ◌<◌, Bool, true, false, cond, nat_lt, List, [], ◌∷◌, length, map, Option, None, Some, refl, ap, arith}
use Rattle.std.specs.Prelude.{not}
use Rattle.std.specs.Option.{option_map}
use Rattle.std.specs.List.{position, prefix_len}
use Rattle.std.specs.Str.{bytes_eq}
use Rattle.std.proofs.lemmas.Bool.{lt-ltb}
use Rattle.std.proofs.lemmas.Bool.Decides.{nat_tests}
use Rattle.script_names.specs.Names.{number_of}
use Rattle.script_names.proofs.NameLemmas.{eq_sym}

abbrev place_by : ℕ → ℕ → Option ℕ
place_by n count = cond (nat_lt n count) (Some n) None

one_later : (n count : ℕ) (b : Bool) → nat_lt n count ≡ b → place_by (1 + n) (1 + count) ≡ option_map (λ (k : ℕ). k + 1) (cond b (Some n) None)
one_later n count true is =
    let below : n < count = grind (arith, nat_tests) in
    ap (λ (b : Bool). cond b (Some (1 + n)) None) (lt-ltb (1 + n) (1 + count) (omega (arith, below))) ∙ ap (λ (k : ℕ). Some k) (omega arith)
one_later n count false is =
    let above : nat_lt (1 + n) (1 + count) ≡ false = grind (arith, nat_tests) in
    ap (λ (b : Bool). cond b (Some (1 + n)) None) above

pub number_placed : {X : Type 0} (name : X → List ℕ) (wanted : List ℕ) (xs : List X) → position (λ x. bytes_eq (name x) wanted) xs ≡ number_of wanted (map name xs)
number_placed {X} name wanted [] = refl
number_placed {X} name wanted (x ∷ xs) =
    by-test (bytes_eq (name x) wanted) (number_placed name wanted xs)
    ∙ ap (λ (b : Bool). cond b (Some 0) (option_map (λ (k : ℕ). k + 1) (number_of wanted (map name xs)))) (eq_sym (name x) wanted)
  where
    among : ℕ
    among = prefix_len (λ (y : X). not (bytes_eq (name y) wanted)) xs

    count : length (x ∷ xs) ≡ 1 + length xs
    count = omega arith

    by-test : (b : Bool) → place_by among (length xs) ≡ number_of wanted (map name xs)
        → place_by (cond (not b) (1 + among) 0) (length (x ∷ xs)) ≡ cond b (Some 0) (option_map (λ (k : ℕ). k + 1) (number_of wanted (map name xs)))
    by-test true more = ap (λ (b : Bool). cond b (Some 0) None) (lt-ltb 0 (length (x ∷ xs)) (omega arith))
    by-test false more = ap (place_by (1 + among)) count ∙ one_later among (length xs) (nat_lt among (length xs)) refl ∙ ap (option_map (λ (k : ℕ). k + 1)) more

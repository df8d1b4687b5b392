-- Names: what they lack, and which number they have.
use Rattle.std.proofs.Common.{◌≡◌, ◌∙◌, ℕ, zero, suc, ◌+◌, ◌<◌, ◌==◌, Bool, true, false, cond, nat_lt, nat_le, List, [], ◌∷◌, length, map, get_or, Option, None, Some, refl, sym, ap, arith}
use Rattle.std.specs.Prelude.{not, ◌&&◌, slice_get}
use Rattle.std.specs.List.{AllByRecursion, list_all, position, position_or_len}
use Rattle.std.specs.Str.{bytes_eq}
use Rattle.std.proofs.lemmas.Bool.{and_parts, lt-ltb}
use Rattle.std.proofs.lemmas.Bool.Decides.{nat_tests}
use Rattle.std.proofs.lemmas.List.Quantifiers.{position-Some}
use Rattle.std.proofs.lemmas.Option.{slice_get-get_or, slice_get_within}
use Rattle.std.proofs.lemmas.Slice.Eq.{bytes_eq-Decides}
use Rattle.join_base.specs.Text.{begins_word, goes_on_word, is_name, is_reserved}
use Rattle.log_lines.specs.Cut.{lacks}
use Rattle.script_types.specs.Names.{AreApart}

-- ---- a name lacks what no word has

not_byte : (byte b : ℕ) → goes_on_word byte ≡ false → goes_on_word b ≡ true → not (b == byte) ≡ true
not_byte byte b other is = grind (arith, nat_tests)

words_lack : (byte : ℕ) (bytes : List ℕ) → goes_on_word byte ≡ false → list_all goes_on_word bytes ≡ true → lacks byte bytes ≡ true
words_lack byte [] other all = refl
words_lack byte (b ∷ bs) other all =
    let parts = and_parts (goes_on_word b) (list_all goes_on_word bs) all in
    ap (λ (t : Bool). t && lacks byte bs) (not_byte byte b other parts.0) ∙ words_lack byte bs other parts.1

pub name_lacks : (byte : ℕ) (name : List ℕ) → goes_on_word byte ≡ false → is_name name ≡ true → lacks byte name ≡ true
name_lacks byte name other is =
    let word = (and_parts (nat_le (length name) 64 && begins_word (get_or name 0 0) && list_all goes_on_word name) (not (is_reserved name)) is).0 in
    words_lack byte name other ((and_parts (nat_le (length name) 64 && begins_word (get_or name 0 0)) (list_all goes_on_word name) word).1)

-- ---- the number of a name

same_bytes : (bytes : List ℕ) → bytes_eq bytes bytes ≡ true
same_bytes bytes = (bytes_eq-Decides bytes bytes).1 refl

differs : (x : List ℕ) (xs : List (List ℕ)) (i : ℕ) → i < length xs → AllByRecursion (λ y. bytes_eq x y ≡ false) xs → bytes_eq x (get_or xs i []) ≡ false
differs x [] i within all = absurd (omega arith)
differs x (y ∷ ys) zero within all = all.0
differs x (y ∷ ys) (suc i) within all = differs x ys i (omega arith) all.1

module _ {X : Type 0} (name : X → List ℕ) where
  abbrev pub is_called : List ℕ → X → Bool
  is_called wanted x = bytes_eq (name x) wanted

  pub place_is : (xs : List X) (i : ℕ) → i < length xs → AreApart (map name xs) → position_or_len (is_called (get_or (map name xs) i [])) xs ≡ i
  place_is [] i within apart = absurd (omega arith)
  place_is (x ∷ xs) zero within apart = ap (λ (b : Bool). cond (not b) (1 + position_or_len (is_called (name x)) xs) 0) (same_bytes (name x))
  place_is (x ∷ xs) (suc i) within apart =
      let wanted : List ℕ = get_or (map name xs) i [] in
      let one : 1 + i ≡ suc i = omega arith in
      ap (λ (b : Bool). cond (not b) (1 + position_or_len (is_called wanted) xs) 0) (differs (name x) (map name xs) i (rw (map_length xs) (omega arith)) apart.0)
      ∙ ap (λ (n : ℕ). 1 + n) (place_is xs i (omega arith) apart.1)
      ∙ one
    where
      map_length : (xs : List X) → length (map name xs) ≡ length xs
      map_length [] = refl
      map_length (y ∷ ys) = ap suc (map_length ys)

  abbrev pub number_in : List X → List ℕ → Option ℕ
  number_in xs wanted = position (is_called wanted) xs

  map_at : (xs : List X) (i : ℕ) (x : X) → slice_get xs i ≡ Some x → get_or (map name xs) i [] ≡ name x
  map_at [] i x at = absurd cc
  map_at (y ∷ ys) zero x at = let same : y ≡ x = cc in ap name same
  map_at (y ∷ ys) (suc i) x at = map_at ys i x at

  -- the item at a place is found by its name
  pub name_again : (xs : List X) (i : ℕ) (x : X) → slice_get xs i ≡ Some x → AreApart (map name xs) → number_in xs (name x) ≡ Some i
  name_again xs i x at apart =
      let within = slice_get_within xs i x at in
      let here : position_or_len (is_called (name x)) xs ≡ i = ap (λ (wanted : List ℕ). position_or_len (is_called wanted) xs) (sym (map_at xs i x at)) ∙ place_is xs i within apart in
      ap (λ (n : ℕ). cond (nat_lt n (length xs)) (Some n) None) here ∙ ap (λ (b : Bool). cond b (Some i) None) (lt-ltb i (length xs) within)

  pub record IsCalled (xs : List X) (wanted : List ℕ) (i : ℕ) : Type 0 where
    pub within : i < length xs
    pub item : X
    pub at : slice_get xs i ≡ Some item
    pub called : name item ≡ wanted

  pub name_takes : (xs : List X) (wanted : List ℕ) (i : ℕ) → number_in xs wanted ≡ Some i → IsCalled xs wanted i
  name_takes [] wanted i is = absurd cc
  name_takes (y ∷ ys) wanted i is =
      let found = position-Some (is_called wanted) (y ∷ ys) i y is in
      record {
        within = found.0;
        item = get_or (y ∷ ys) i y;
        at = slice_get-get_or (y ∷ ys) i y found.0;
        called = (bytes_eq-Decides (name (get_or (y ∷ ys) i y)) wanted).0 found.1;
      }

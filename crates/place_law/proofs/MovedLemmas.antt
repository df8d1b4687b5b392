-- What a rule holds of is also spelt by tokens at other places, in a value that differs in places alone.
use Rattle.std.proofs.Common.{◌≡◌, ◌∙◌, ℕ, List, [], ◌∷◌, ◌++◌, Option, Some, None, map, refl, ap, subst}
use Rattle.std.specs.Option.{option_map}
use Rattle.script_tokens.specs.declared.token.Token.{Token}
use Rattle.script_tokens.specs.declared.token.Kind.{Kind}
use Rattle.script_grammar.specs.Phrases.{one, some, ◌then◌, each, at_least_one, separated, listed}
use Rattle.script_grammar.specs.Grammar.{Tokens}
use Rattle.place_law.specs.Law.{kind_of}

-- ---- tokens

-- the same tokens, each at a place of its own
pub record AreMoved (tokens moved : Tokens) : Type 0 where
  pub same : map kind_of moved ≡ map kind_of tokens

pub moved_none : (moved : Tokens) → AreMoved [] moved → moved ≡ []
moved_none [] is = refl
moved_none (t ∷ moved) is = absurd cc

-- tokens moved from two lists are two lists
pub record Halves (front back moved : Tokens) : Type 0 where
  pub first : Tokens
  pub last : Tokens
  pub parts : moved ≡ first ++ last
  pub front_moved : AreMoved front first
  pub back_moved : AreMoved back last

one_more : (t u : Token) (front back moved : Tokens) → u.kind ≡ t.kind → Halves front back moved → Halves (t ∷ front) back (u ∷ moved)
one_more t u front back moved here h =
    let front_same = h.front_moved.same in
    record { first = u ∷ h.first; last = h.last; parts = ap (λ (ts : Tokens). u ∷ ts) h.parts; front_moved = record { same = cc }; back_moved = h.back_moved }

halves_of : (front back moved : Tokens) → map kind_of moved ≡ map kind_of (front ++ back) → Halves front back moved
halves_of [] back moved is = record { first = []; last = moved; parts = refl; front_moved = record { same = refl }; back_moved = record { same = is } }
halves_of (t ∷ front) back [] is = absurd cc
halves_of (t ∷ front) back (u ∷ moved) is = one_more t u front back moved (cc) (halves_of front back moved (cc))

pub halves : (tokens front back moved : Tokens) → tokens ≡ front ++ back → AreMoved tokens moved → Halves front back moved
halves tokens front back moved parts is = halves_of front back moved (is.same ∙ ap (map kind_of) parts)

-- ---- a rule that can be moved

-- a value that has the rule on the moved tokens, and what is seen of it is the same
pub record Moved {X Y : Type 0} (bare : X → Y) (rule : X → Tokens → Type 0) (x : X) (moved : Tokens) : Type 0 where
  pub value : X
  pub alike : bare value ≡ bare x
  pub spelt : rule value moved

pub record Moves {X Y : Type 0} (bare : X → Y) (rule : X → Tokens → Type 0) : Type 0 where
  pub move : (x : X) (tokens moved : Tokens) → AreMoved tokens moved → rule x tokens → Moved bare rule x moved

-- a phrase of no value
pub record Stays (phrase : Tokens → Type 0) : Type 0 where
  pub stay : (tokens moved : Tokens) → AreMoved tokens moved → phrase tokens → phrase moved

-- a phrase of some value can stand elsewhere where the value may change
pub stays-some : {X Y : Type 0} {bare : X → Y} {rule : X → Tokens → Type 0} → Moves bare rule → Stays (some rule)
stays-some r = record { stay = λ tokens moved is h. let m = r.move h.0 tokens moved is h.1 in (m.value, m.spelt) }

-- a value that is made of another, whose rule it has
pub image : {P Q X Y : Type 0} {bare_part : P → Q} {part_rule : P → Tokens → Type 0} {p : P} {moved : Tokens} (bare : X → Y) (rule : X → Tokens → Type 0) (made : P → X)
    → ((q : P) → bare_part q ≡ bare_part p → bare (made q) ≡ bare (made p)) → ((q : P) → part_rule q moved → rule (made q) moved)
    → Moved bare_part part_rule p moved → Moved bare rule (made p) moved
image bare rule made alike spelt m = record { value = made m.value; alike = alike m.value m.alike; spelt = spelt m.value m.spelt }

-- ---- one token

module _ {X Y : Type 0} (bare : X → Y) (gives : Token → Option X) where
  -- what a token gives is the same at each place
  abbrev pub SeesKind : Type 0
  SeesKind = (place other : ℕ) (kind : Kind) → option_map bare (gives (record { place = place; kind = kind })) ≡ option_map bare (gives (record { place = other; kind = kind }))

  found_one : (x : X) (u : Token) (found : Option X) → gives u ≡ found → option_map bare found ≡ Some (bare x) → Moved bare (one gives) x (u ∷ [])
  found_one x u None is seen = absurd cc
  found_one x u (Some y) is seen = let same : bare y ≡ bare x = cc in record { value = y; alike = same; spelt = (u, is, refl) }

  moved_one : SeesKind → (x : X) (t : Token) (moved : Tokens) → map kind_of moved ≡ t.kind ∷ [] → gives t ≡ Some x → Moved bare (one gives) x moved
  moved_one sees x t [] is given = absurd cc
  moved_one sees x t (u ∷ []) is given =
      let k : u.kind ≡ t.kind = cc in
      let there : option_map bare (gives u) ≡ option_map bare (gives (record { place = t.place; kind = u.kind })) = sees u.place t.place u.kind in
      let P : Kind → Type 0 = λ kind. option_map bare (gives u) ≡ option_map bare (gives (record { place = t.place; kind = kind })) in
      found_one x u (gives u) refl (subst P k there ∙ ap (option_map bare) given)
  moved_one sees x t (u ∷ v ∷ moved) is given = absurd cc

  -- so the token at the other place gives a value too
  pub moves-one : SeesKind → Moves bare (one gives)
  moves-one sees = record { move = λ x tokens moved is h. moved_one sees x h.0 moved (is.same ∙ ap (map kind_of) h.2) h.1 }

-- ---- one phrase and then another

abbrev pub on_both : {X Y Z W : Type 0} → (X → Z) → (Y → W) → X × Y → Z × W
on_both f g p = (f p.0, g p.1)

abbrev pub both : {X Y : Type 0} → (X → Tokens → Type 0) → (Y → Tokens → Type 0) → X × Y → Tokens → Type 0
both first second p = first p.0 then second p.1

-- moved tokens of two phrases are those of both
pub both_moved : {X Y Z W : Type 0} (f : X → Z) (g : Y → W) (first : X → Tokens → Type 0) (second : Y → Tokens → Type 0) (x : X) (y : Y) (tokens moved : Tokens) (h : (first x then second y) tokens)
    → AreMoved tokens moved → ((ts : Tokens) → AreMoved h.front ts → Moved f first x ts) → ((ts : Tokens) → AreMoved h.back ts → Moved g second y ts)
    → Moved (on_both f g) (both first second) (x, y) moved
both_moved f g first second x y tokens moved h is a b =
    let k = halves tokens h.front h.back moved h.parts is in
    let one = a k.first k.front_moved in
    let other = b k.last k.back_moved in
    let one_alike = one.alike in
    let other_alike = other.alike in
    record { value = (one.value, other.value); alike = cc; spelt = record { front = k.first; back = k.last; parts = k.parts; one = one.spelt; other = other.spelt } }

pub moves-both : {X Y Z W : Type 0} {f : X → Z} {g : Y → W} {first : X → Tokens → Type 0} {second : Y → Tokens → Type 0} → Moves f first → Moves g second → Moves (on_both f g) (both first second)
moves-both {f} {g} {first} {second} a b = record {
  move = λ p tokens moved is h. both_moved f g first second p.0 p.1 tokens moved h is (λ ts k. a.move p.0 h.front ts k h.one) (λ ts k. b.move p.1 h.back ts k h.other);
}

abbrev pub behind : {X : Type 0} → (Tokens → Type 0) → (X → Tokens → Type 0) → X → Tokens → Type 0
behind phrase rule x = phrase then rule x

abbrev pub before : {X : Type 0} → (X → Tokens → Type 0) → (Tokens → Type 0) → X → Tokens → Type 0
before rule phrase x = rule x then phrase

pub moves-behind : {X Y : Type 0} {f : X → Y} {phrase : Tokens → Type 0} {rule : X → Tokens → Type 0} → Stays phrase → Moves f rule → Moves f (behind phrase rule)
moves-behind s r = record {
  move = λ x tokens moved is h.
      let k = halves tokens h.front h.back moved h.parts is in
      let m = r.move x h.back k.last k.back_moved h.other in
      record { value = m.value; alike = m.alike; spelt = record { front = k.first; back = k.last; parts = k.parts; one = s.stay h.front k.first k.front_moved h.one; other = m.spelt } };
}

pub moves-before : {X Y : Type 0} {f : X → Y} {rule : X → Tokens → Type 0} {phrase : Tokens → Type 0} → Moves f rule → Stays phrase → Moves f (before rule phrase)
moves-before r s = record {
  move = λ x tokens moved is h.
      let k = halves tokens h.front h.back moved h.parts is in
      let m = r.move x h.front k.first k.front_moved h.one in
      record { value = m.value; alike = m.alike; spelt = record { front = k.first; back = k.last; parts = k.parts; one = m.spelt; other = s.stay h.back k.last k.back_moved h.other } };
}

pub stays-then : {first second : Tokens → Type 0} → Stays first → Stays second → Stays (first then second)
stays-then a b = record {
  stay = λ tokens moved is h.
      let k = halves tokens h.front h.back moved h.parts is in
      record { front = k.first; back = k.last; parts = k.parts; one = a.stay h.front k.first k.front_moved h.one; other = b.stay h.back k.last k.back_moved h.other };
}

-- ---- lists of values

abbrev pub as_list : {X : Type 0} → X × List X → List X
as_list p = p.0 ∷ p.1

module _ {X Y : Type 0} (f : X → Y) where
  list_alike : (p q : X × List X) → on_both f (map f) p ≡ on_both f (map f) q → map f (as_list p) ≡ map f (as_list q)
  list_alike p q same = ap as_list same

  pub moved_nothing : (rule : List X → Tokens → Type 0) (moved : Tokens) → rule [] moved → Moved (map f) rule [] moved
  moved_nothing rule moved h = record { value = []; alike = refl; spelt = h }

  each_moved : (rule : X → Tokens → Type 0) → Moves f rule → (xs : List X) (tokens moved : Tokens) → AreMoved tokens moved → each rule xs tokens → Moved (map f) (each rule) xs moved
  each_moved rule r [] tokens moved is h = moved_nothing (each rule) moved (moved_none moved (subst (λ (ts : Tokens). AreMoved ts moved) h is))
  each_moved rule r (x ∷ xs) tokens moved is h =
      image (map f) (each rule) as_list (λ q. list_alike q (x, xs)) (λ q k. k)
      (both_moved f (map f) rule (each rule) x xs tokens moved h is (λ ts k. r.move x h.front ts k h.one) (λ ts k. each_moved rule r xs h.back ts k h.other))

  pub moves-each : {rule : X → Tokens → Type 0} → Moves f rule → Moves (map f) (each rule)
  moves-each {rule} r = record { move = each_moved rule r }

  -- a list that is one value, and then others
  module _ (rule : List X → Tokens → Type 0) (first : X → Tokens → Type 0) (others : List X → Tokens → Type 0)
      (to : (q : X × List X) (moved : Tokens) → both first others q moved → rule (as_list q) moved) where
    list_moved : Moves f first → Moves (map f) others → (x : X) (xs : List X) (tokens moved : Tokens) → AreMoved tokens moved → (first x then others xs) tokens → Moved (map f) rule (x ∷ xs) moved
    list_moved a b x xs tokens moved is h =
        let m = moves-both a b in
        image (map f) rule as_list (λ q. list_alike q (x, xs)) (λ q k. to q moved k) (m.move (x, xs) tokens moved is h)

  at_least_one_moved : (rule : X → Tokens → Type 0) → Moves f rule → (xs : List X) (tokens moved : Tokens) → AreMoved tokens moved → at_least_one rule xs tokens → Moved (map f) (at_least_one rule) xs moved
  at_least_one_moved rule r [] tokens moved is h = absurd h
  at_least_one_moved rule r (x ∷ xs) tokens moved is h = list_moved (at_least_one rule) rule (each rule) (λ q ts k. k) r (moves-each r) x xs tokens moved is h

  pub moves-at_least_one : {rule : X → Tokens → Type 0} → Moves f rule → Moves (map f) (at_least_one rule)
  moves-at_least_one {rule} r = record { move = at_least_one_moved rule r }

  module _ (by : Tokens → Type 0) (rule : X → Tokens → Type 0) (s : Stays by) (r : Moves f rule) where
    separated_moved : (xs : List X) (tokens moved : Tokens) → AreMoved tokens moved → separated by rule xs tokens → Moved (map f) (separated by rule) xs moved
    separated_moved [] tokens moved is h = absurd h
    separated_moved (x ∷ xs) tokens moved is h =
        list_moved (separated by rule) rule (each (behind by rule)) (λ q ts k. k) r (moves-each (moves-behind s r)) x xs tokens moved is h

    listed_moved : (xs : List X) (tokens moved : Tokens) → AreMoved tokens moved → listed by rule xs tokens → Moved (map f) (listed by rule) xs moved
    listed_moved [] tokens moved is h = moved_nothing (listed by rule) moved (moved_none moved (subst (λ (ts : Tokens). AreMoved ts moved) h is))
    listed_moved (x ∷ xs) tokens moved is h =
        list_moved (listed by rule) rule (each (behind by rule)) (λ q ts k. k) r (moves-each (moves-behind s r)) x xs tokens moved is h

  pub moves-separated : {by : Tokens → Type 0} {rule : X → Tokens → Type 0} → Stays by → Moves f rule → Moves (map f) (separated by rule)
  moves-separated {by} {rule} s r = record { move = separated_moved by rule s r }

  pub moves-listed : {by : Tokens → Type 0} {rule : X → Tokens → Type 0} → Stays by → Moves f rule → Moves (map f) (listed by rule)
  moves-listed {by} {rule} s r = record { move = listed_moved by rule s r }

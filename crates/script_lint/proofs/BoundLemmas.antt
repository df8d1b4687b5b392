-- What a bounding conjunct says of its place, and what the interval of a place says of its value.
use Rattle.std.proofs.Common.{◌≡◌, ◌∙◌, ℕ, zero, suc, not, List, [], ◌∷◌, ◌++◌, Bool, true, false, ◌||◌, Option, None, Some, pos, ℤ, ◌+ℤ◌, ◌-ℤ◌, neg_ℤ, refl, ap, sym, arith, rules}
use Rattle.std.specs.Prelude.{IfSome, FitsSigned, int_lt, int_le, if◌then◌else◌, ◌<ℤ◌, ◌==◌}
use Rattle.std.specs.Int.{w64}
use Rattle.std.specs.Option.{option_and_then, option_or}
use Rattle.std.specs.List.{AllByRecursion}
use Rattle.std.proofs.lemmas.Bool.Decides.{Decides-int_eq}
use Rattle.std.proofs.lemmas.Int.{ints}
use Rattle.std.proofs.lemmas.Bool.{or_parts}
use Rattle.join_base.specs.declared.message.Value.{Value}
use Rattle.join_base.specs.declared.message.Value.TheVariants.{Int, Words}
use Rattle.join_base.specs.declared.message.Message.{Message}
use Rattle.join_base.specs.declared.message.Relation.{Relation}
use Rattle.join_base.specs.declared.message.Relation.TheVariants.{Equal, NotEqual, Less, LessEqual, Greater, GreaterEqual}
use Rattle.guard_eval.specs.Condition.{Condition, Never, Compares, Negated, Grouped, Either}
use Rattle.guard_eval.specs.declared.term.Place.{Place}
use Rattle.guard_eval.specs.declared.term.Leaf.{Leaf}
use Rattle.guard_eval.specs.declared.term.Leaf.TheVariants as leaf
use Rattle.guard_eval.specs.declared.term.Signed.{Signed}
use Rattle.guard_eval.specs.declared.term.WordsLeaf.{WordsLeaf}
use Rattle.guard_eval.specs.declared.term.WordsLeaf.TheVariants as words
use Rattle.guard_eval.specs.declared.term.Operand.{Operand}
use Rattle.guard_eval.specs.declared.term.Operand.TheVariants as operand
use Rattle.guard_eval.specs.Meaning.{Assignment, Need, compares, field_of, has_some, int_of, int_relation, is_true, leaf_needs, leaf_value, recorded_message, message_of_slot, needs_of, number_at, operand_needs, signed_value, term_needs, term_value, turned, value_at, words_needs, words_relation, words_value}
use Rattle.guard_eval.proofs.ExtendLemmas.{both_true}
use Rattle.guard_eval.proofs.RelationLemmas.{turn}
use Rattle.pattern_core.specs.Matches.{makes_all_true}
use Rattle.fair_semantics.proofs.CountedLemmas.{same_number}
use Rattle.script_lint.specs.declared.bounds.Bound.{Bound}
use Rattle.script_lint.specs.declared.bounds.Interval.{Interval}
use Rattle.script_lint.specs.Bounds.{bound_between, bound_by, bound_of, bound_of_atom, cut, cut_by, cut_by_all, field_of_leaf, fixed_sum, holds_throughout, interval_of, is_bounding, is_empty, is_same_place, lone_field, only_atom, over, under, whole}
use Rattle.script_lint.specs.Law.{HasValuesInRange, InRange}
use Rattle.script_lint.proofs.ListLemmas.{or_false, some_at}

pub is_same_place-tells : (a b : Place) → is_same_place a b ≡ true → a ≡ b
is_same_place-tells a b h =
    let parts = both_true (a.pattern == b.pattern) (a.field == b.field) h in
    let p = same_number a.pattern b.pattern parts.0 in
    let q = same_number a.field b.field parts.1 in
    λ i. record { pattern = p i; field = q i }

-- ---- the value of a place is of 64 bits

value_in_range : (o : Option Value) → IfSome o InRange → FitsSigned w64 (int_of o)
value_in_range None h = search rules
value_in_range (Some (Int n)) h = h
value_in_range (Some (Words bytes)) h = search rules

field_in_range : (o : Option Message) (field : ℕ) → IfSome o HasValuesInRange → IfSome (field_of o field) InRange
field_in_range None field h = tt
field_in_range (Some m) field h = some_at InRange m.fields field h

message_in_range : (messages : List Message) (o : Option ℕ) → AllByRecursion HasValuesInRange messages → IfSome (message_of_slot messages o) HasValuesInRange
message_in_range messages None h = tt
message_in_range messages (Some n) h = at n
  where
    at : (n : ℕ) → IfSome (recorded_message messages n) HasValuesInRange
    at zero = tt
    at (suc n) = some_at HasValuesInRange messages n h

-- ---- intervals

pub record Within (interval : Interval) (v : ℤ) : Type 0 where
  pub above : interval.above <ℤ v
  pub below : v <ℤ interval.below

pick_below : (b : Bool) (x y v : ℤ) → v <ℤ x → v <ℤ y → v <ℤ (if b then x else y)
pick_below true x y v p q = p
pick_below false x y v p q = q

pick_above : (b : Bool) (x y v : ℤ) → x <ℤ v → y <ℤ v → (if b then x else y) <ℤ v
pick_above true x y v p q = p
pick_above false x y v p q = q

within_under : (n : ℤ) (i : Interval) (v : ℤ) → v <ℤ n → Within i v → Within (under n i) v
within_under n i v l w = record { above = w.above; below = pick_below (int_lt n i.below) n i.below v l w.below }

within_over : (n : ℤ) (i : Interval) (v : ℤ) → n <ℤ v → Within i v → Within (over n i) v
within_over n i v l w = record { above = pick_above (int_lt i.above n) n i.above v l w.above; below = w.below }

less_tells : (a b : ℤ) → int_lt a b ≡ true → a <ℤ b
less_tells a b h = grind (arith, ints)

at_most_tells : (a b : ℤ) → int_le a b ≡ true → a <ℤ (b +ℤ pos 1)
at_most_tells a b h = grind (arith, ints)

at_least_tells : (a b : ℤ) → int_le a b ≡ true → (a -ℤ pos 1) <ℤ b
at_least_tells a b h = grind (arith, ints)

next_above : (a b : ℤ) → a ≡ b → a <ℤ (b +ℤ pos 1)
next_above a b h = omega (arith, ints)

next_below : (a b : ℤ) → a ≡ b → (b -ℤ pos 1) <ℤ a
next_below a b h = omega (arith, ints)

pub cut_within : (r : Relation) (n : ℤ) (i : Interval) (v : ℤ) → int_relation r v n ≡ true → Within i v → Within (cut r n i) v
cut_within Equal n i v h w =
    let same = (Decides-int_eq v n).0 h in
    within_over (n -ℤ pos 1) (under (n +ℤ pos 1) i) v (next_below v n same) (within_under (n +ℤ pos 1) i v (next_above v n same) w)
cut_within NotEqual n i v h w = w
cut_within Less n i v h w = within_under n i v (less_tells v n h) w
cut_within LessEqual n i v h w = within_under (n +ℤ pos 1) i v (at_most_tells v n h) w
cut_within Greater n i v h w = within_over n i v (less_tells n v h) w
cut_within GreaterEqual n i v h w = within_over (n -ℤ pos 1) i v (at_least_tells n v h) w

pub empty_has_none : (i : Interval) (v : ℤ) → is_empty i ≡ true → Within i v → ⊥
empty_has_none i v e w = none i.above i.below v e w.above w.below
  where
    none : (a b v : ℤ) → int_le b (a +ℤ pos 1) ≡ true → a <ℤ v → v <ℤ b → ⊥
    none a b v e p q = absurd (grind (arith, ints))

below_all : (b n v : ℤ) → int_le b n ≡ true → v <ℤ b → int_lt v n ≡ true
below_all b n v e q = grind (arith, ints)

upto_all : (b n v : ℤ) → int_le b (n +ℤ pos 1) ≡ true → v <ℤ b → int_le v n ≡ true
upto_all b n v e q = grind (arith, ints)

above_all : (a n v : ℤ) → int_le n a ≡ true → a <ℤ v → int_lt n v ≡ true
above_all a n v e q = grind (arith, ints)

from_all : (a n v : ℤ) → int_le (n -ℤ pos 1) a ≡ true → a <ℤ v → int_le n v ≡ true
from_all a n v e q = grind (arith, ints)

between_all : (v n : ℤ) → int_le v n ≡ true → int_le n v ≡ true → v ≡ n
between_all v n e f = grind (arith, ints)

pub throughout : (i : Interval) (r : Relation) (n v : ℤ) → holds_throughout i r n ≡ true → Within i v → int_relation r v n ≡ true
throughout i Equal n v h w =
    let parts = both_true (int_le i.below (n +ℤ pos 1)) (int_le (n -ℤ pos 1) i.above) h in
    (Decides-int_eq v n).1 (between_all v n (upto_all i.below n v parts.0 w.below) (from_all i.above n v parts.1 w.above))
throughout i NotEqual n v h w = absurd cc
throughout i Less n v h w = below_all i.below n v h w.below
throughout i LessEqual n v h w = upto_all i.below n v h w.below
throughout i Greater n v h w = above_all i.above n v h w.above
throughout i GreaterEqual n v h w = from_all i.above n v h w.above

-- ---- terms without a variable

has_some-append : (xs ys : List Need) → has_some (xs ++ ys) ≡ (has_some xs || has_some ys)
has_some-append [] ys = refl
has_some-append (x ∷ xs) ys = refl

none_parts : (xs ys : List Need) → has_some (xs ++ ys) ≡ false → (has_some xs ≡ false) × (has_some ys ≡ false)
none_parts xs ys e = or_parts (has_some xs) (has_some ys) (sym (has_some-append xs ys) ∙ e)

module _ (messages : List Message) (slots : Assignment) where
  leaf_constant : (l : Leaf) → has_some (leaf_needs l) ≡ false → leaf_value messages slots l ≡ leaf_value [] [] l
  leaf_constant (leaf.Number n) e = refl
  leaf_constant (leaf.Field place) e = absurd cc

  pub term_constant : (leaves : List Signed) → has_some (term_needs leaves) ≡ false → term_value messages slots leaves ≡ term_value [] [] leaves
  term_constant [] e = refl
  term_constant (signed ∷ more) e =
      let parts = none_parts (leaf_needs signed.leaf) (term_needs more) e in
      let here : signed_value messages slots signed ≡ signed_value [] [] signed = ap (λ (z : ℤ). if signed.minus then neg_ℤ z else z) (leaf_constant signed.leaf parts.0) in
      let later = term_constant more parts.1 in
      λ i. here i +ℤ later i

  words_constant : (w : WordsLeaf) → has_some (words_needs w) ≡ false → words_value messages slots w ≡ words_value [] [] w
  words_constant (words.Fixed bytes) e = refl
  words_constant (words.Field place) e = absurd cc

  compares_constant : (l : Operand) (r : Relation) (o : Operand) → has_some (operand_needs l) ≡ false → has_some (operand_needs o) ≡ false → compares messages slots l r o ≡ compares [] [] l r o
  compares_constant (operand.Sum a) r (operand.Sum b) e f = let p = term_constant a e in let q = term_constant b f in λ i. int_relation r (p i) (q i)
  compares_constant (operand.Words a) r (operand.Words b) e f = let p = words_constant a e in let q = words_constant b f in λ i. words_relation r (p i) (q i)
  compares_constant (operand.Sum a) r (operand.Words b) e f = refl
  compares_constant (operand.Words a) r (operand.Sum b) e f = refl

  -- a conjunct without a variable has one truth
  pub constant : (c : Condition) → has_some (needs_of c) ≡ false → is_true messages slots c ≡ is_true [] [] c
  constant Never e = refl
  constant (Compares l r o) e = let parts = none_parts (operand_needs l) (operand_needs o) e in compares_constant l r o parts.0 parts.1
  constant (Negated c) e = ap not (constant c e)
  constant (Grouped c) e = constant c e
  constant (Either a b) e =
      let parts = none_parts (needs_of a) (needs_of b) e in
      let p = constant a parts.0 in
      let q = constant b parts.1 in
      λ i. p i || q i

  -- ---- bounding conjuncts

  pub only_is : (c atom : Condition) → only_atom c ≡ Some atom → is_true messages slots c ≡ is_true messages slots atom
  only_is Never atom e = absurd cc
  only_is (Compares l r o) atom e = absurd cc
  only_is (Negated c) atom e = absurd cc
  only_is (Grouped c) atom e = absurd cc
  only_is (Either a Never) atom e = let same : a ≡ atom = cc in or_false (is_true messages slots a) ∙ ap (is_true messages slots) same
  only_is (Either a (Compares l r o)) atom e = absurd cc
  only_is (Either a (Negated c)) atom e = absurd cc
  only_is (Either a (Grouped c)) atom e = absurd cc
  only_is (Either a (Either b c)) atom e = absurd cc

  lone_value : (leaves : List Signed) (place : Place) → lone_field leaves ≡ Some place → term_value messages slots leaves ≡ int_of (value_at messages slots place)
  lone_value [] place e = absurd cc
  lone_value (signed ∷ next ∷ more) place e = absurd cc
  lone_value (signed ∷ []) place e = by signed.minus signed.leaf e
    where
      plain : (l : Leaf) → field_of_leaf l ≡ Some place → leaf_value messages slots l +ℤ pos 0 ≡ int_of (value_at messages slots place)
      plain (leaf.Number n) e = absurd cc
      plain (leaf.Field p) e = let same : p ≡ place = cc in let sum : int_of (value_at messages slots p) +ℤ pos 0 ≡ int_of (value_at messages slots p) = omega (arith, ints) in sum ∙ ap (λ (x : Place). int_of (value_at messages slots x)) same

      by : (minus : Bool) (l : Leaf) → (if minus then None else field_of_leaf l) ≡ Some place → (if minus then neg_ℤ (leaf_value messages slots l) else leaf_value messages slots l) +ℤ pos 0 ≡ int_of (value_at messages slots place)
      by true l e = absurd cc
      by false l e = plain l e

  fixed_value : (leaves : List Signed) (n : ℤ) → fixed_sum leaves ≡ Some n → term_value messages slots leaves ≡ n
  fixed_value leaves n e = by (has_some (term_needs leaves)) refl e
    where
      by : (b : Bool) → has_some (term_needs leaves) ≡ b → (if b then None else Some (term_value [] [] leaves)) ≡ Some n → term_value messages slots leaves ≡ n
      by true h e = absurd cc
      by false h e = let same : term_value [] [] leaves ≡ n = cc in term_constant leaves h ∙ same

  record Bounds (p : Option Place) (r : Relation) (n : Option ℤ) (bound : Bound) : Type 0 where
    place : p ≡ Some bound.place
    relation : r ≡ bound.relation
    number : n ≡ Some bound.number

  bounds_by : (p : Option Place) (r : Relation) (n : Option ℤ) (bound : Bound) → bound_by p r n ≡ Some bound → Bounds p r n bound
  bounds_by (Some p) r (Some n) bound e = let same : record { place = p; relation = r; number = n } ≡ bound = cc in record {
    place = ap (λ (b : Bound). Some b.place) same;
    relation = ap (λ (b : Bound). b.relation) same;
    number = ap (λ (b : Bound). Some b.number) same;
  }
  bounds_by (Some p) r None bound e = absurd cc
  bounds_by None r n bound e = absurd cc

  -- a bound says of the value of its place what the comparison says
  abbrev Says : Bound → List Signed → Relation → List Signed → Type 0
  Says bound left r right = int_relation r (term_value messages slots left) (term_value messages slots right) ≡ int_relation bound.relation (int_of (value_at messages slots bound.place)) bound.number

  forward : (left : List Signed) (r : Relation) (right : List Signed) (bound : Bound) → Bounds (lone_field left) r (fixed_sum right) bound → Says bound left r right
  forward left r right bound h =
      let p = lone_value left bound.place h.place in
      let q = fixed_value right bound.number h.number in
      let s = h.relation in
      λ i. int_relation (s i) (p i) (q i)

  between_says : (left : List Signed) (r : Relation) (right : List Signed) (bound : Bound) → bound_between left r right ≡ Some bound → Says bound left r right
  between_says left r right bound e = by (is_bounding r) e
    where
      either : (o : Option Bound) → bound_by (lone_field left) r (fixed_sum right) ≡ o → option_or o (bound_by (lone_field right) (turned r) (fixed_sum left)) ≡ Some bound → Says bound left r right
      either None f e =
          let back = forward right (turned r) left bound (bounds_by (lone_field right) (turned r) (fixed_sum left) bound e) in
          sym (turn r (term_value messages slots right) (term_value messages slots left)) ∙ back
      either (Some b) f e = forward left r right bound (bounds_by (lone_field left) r (fixed_sum right) bound (f ∙ e))

      by : (b : Bool) → (if b then option_or (bound_by (lone_field left) r (fixed_sum right)) (bound_by (lone_field right) (turned r) (fixed_sum left)) else None) ≡ Some bound → Says bound left r right
      by false e = absurd cc
      by true e = either (bound_by (lone_field left) r (fixed_sum right)) refl e

  atom_says : (atom : Condition) (bound : Bound) → bound_of_atom atom ≡ Some bound → is_true messages slots atom ≡ int_relation bound.relation (int_of (value_at messages slots bound.place)) bound.number
  atom_says Never bound e = absurd cc
  atom_says (Compares (operand.Sum a) r (operand.Sum b)) bound e = between_says a r b bound e
  atom_says (Compares (operand.Sum a) r (operand.Words b)) bound e = absurd cc
  atom_says (Compares (operand.Words a) r (operand.Sum b)) bound e = absurd cc
  atom_says (Compares (operand.Words a) r (operand.Words b)) bound e = absurd cc
  atom_says (Negated c) bound e = absurd cc
  atom_says (Grouped c) bound e = absurd cc
  atom_says (Either a b) bound e = absurd cc

  pub bound_says : (c : Condition) (bound : Bound) → bound_of c ≡ Some bound → is_true messages slots c ≡ int_relation bound.relation (int_of (value_at messages slots bound.place)) bound.number
  bound_says c bound e = by (only_atom c) refl e
    where
      by : (o : Option Condition) → only_atom c ≡ o → option_and_then bound_of_atom o ≡ Some bound → is_true messages slots c ≡ int_relation bound.relation (int_of (value_at messages slots bound.place)) bound.number
      by None f e = absurd cc
      by (Some atom) f e = only_is c atom f ∙ atom_says atom bound e

  -- ---- the value of a place is in its interval

  module _ (place : Place) where
    cut_by_within : (c : Condition) (i : Interval) → is_true messages slots c ≡ true → Within i (int_of (value_at messages slots place)) → Within (cut_by place i (bound_of c)) (int_of (value_at messages slots place))
    cut_by_within c i h w = by (bound_of c) refl
      where
        at : (b : Bound) → bound_of c ≡ Some b → (s : Bool) → is_same_place b.place place ≡ s → Within (if s then cut b.relation b.number i else i) (int_of (value_at messages slots place))
        at b e false f = w
        at b e true f =
            let same = is_same_place-tells b.place place f in
            let says : int_relation b.relation (int_of (value_at messages slots place)) b.number ≡ true
            = ap (λ (p : Place). int_relation b.relation (int_of (value_at messages slots p)) b.number) (sym same) ∙ sym (bound_says c b e) ∙ h in
            cut_within b.relation b.number i (int_of (value_at messages slots place)) says w

        by : (o : Option Bound) → bound_of c ≡ o → Within (cut_by place i o) (int_of (value_at messages slots place))
        by None e = w
        by (Some b) e = at b e (is_same_place b.place place) refl

    all_within : (conjuncts : List Condition) (i : Interval) → makes_all_true messages conjuncts slots ≡ true → Within i (int_of (value_at messages slots place)) → Within (cut_by_all place i conjuncts) (int_of (value_at messages slots place))
    all_within [] i h w = w
    all_within (c ∷ conjuncts) i h w =
        let parts = both_true (is_true messages slots c) (makes_all_true messages conjuncts slots) h in
        all_within conjuncts (cut_by place i (bound_of c)) parts.1 (cut_by_within c i parts.0 w)

    whole_has : AllByRecursion HasValuesInRange messages → Within whole (int_of (value_at messages slots place))
    whole_has h = inside (int_of (value_at messages slots place)) (value_in_range (value_at messages slots place) (field_in_range (message_of_slot messages (number_at slots place.pattern)) place.field (message_in_range messages (number_at slots place.pattern) h)))
      where
        inside : (v : ℤ) → FitsSigned w64 v → Within whole v
        inside v f = record { above = omega (arith, ints); below = omega (arith, ints) }

    pub in_interval : (conjuncts : List Condition) → AllByRecursion HasValuesInRange messages → makes_all_true messages conjuncts slots ≡ true → Within (interval_of conjuncts place) (int_of (value_at messages slots place))
    in_interval conjuncts values h = all_within conjuncts whole h (whole_has values)

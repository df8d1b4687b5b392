-- Comparisons of sums as comparisons of one leaf.
use Rattle.std.proofs.Common.{◌≡◌, ◌∙◌, ℕ, Bool, true, false, not, List, [], ◌∷◌, Some, None, pos, neg_ℤ, ◌+ℤ◌, refl, sym, ap, arith}
use Rattle.std.proofs.lemmas.Int.{ints}
use Rattle.std.specs.Prelude.{ℤ, int_lt, int_le, if◌then◌else◌}
use Rattle.std.specs.Ordering.{int_eq}
use Rattle.std.proofs.lemmas.Bool.Decides.{Decides-int_eq, Decides-like, same_from_decides}
use Rattle.join_base.specs.declared.message.Message.{Message}
use Rattle.join_base.specs.declared.message.Relation.{Relation}
use Rattle.join_base.specs.declared.message.Relation.TheVariants.{Equal, NotEqual, Less, LessEqual, Greater, GreaterEqual}
use Rattle.guard_eval.specs.declared.term.Signed.{Signed}
use Rattle.guard_eval.specs.Meaning.{Assignment, int_relation, signed_value, term_value, turned}
use Rattle.guard_eval.proofs.RelationLemmas.{turn}
use Rattle.guard_bound.specs.Bound.{AddsLeaf, BoundsSplits, IsPair, IsSplit, int_at, own_value, split_value}
use Rattle.guard_bound.specs.declared.bound.Bound.{Bound}
use Rattle.guard_bound.specs.declared.bound.Own.{Own}
use Rattle.guard_bound.specs.declared.bound.Split.{Split}

same_tests : (p q : Bool) → (p ≡ true → q ≡ true) → (q ≡ true → p ≡ true) → p ≡ q
same_tests true q f g = sym (f refl)
same_tests false true f g = g refl
same_tests false false f g = refl

eq_shift : (a b x v : ℤ) → a +ℤ v ≡ x +ℤ b → int_eq a b ≡ int_eq x v
eq_shift a b x v e = same_from_decides (int_eq a b) (int_eq x v) (Decides-int_eq a b) (Decides-like (int_eq x v) (λ h. omega (arith, ints)) (λ h. omega (arith, ints)) (Decides-int_eq x v))

lt_shift : (a b x v : ℤ) → a +ℤ v ≡ x +ℤ b → int_lt a b ≡ int_lt x v
lt_shift a b x v e = same_tests (int_lt a b) (int_lt x v) (λ h. grind (arith, ints)) (λ h. grind (arith, ints))

le_shift : (a b x v : ℤ) → a +ℤ v ≡ x +ℤ b → int_le a b ≡ int_le x v
le_shift a b x v e = same_tests (int_le a b) (int_le x v) (λ h. grind (arith, ints)) (λ h. grind (arith, ints))

-- what is the same apart compares the same
pub shift : (r : Relation) (a b x v : ℤ) → a +ℤ v ≡ x +ℤ b → int_relation r a b ≡ int_relation r x v
shift Equal a b x v e = eq_shift a b x v e
shift NotEqual a b x v e = ap not (eq_shift a b x v e)
shift Less a b x v e = lt_shift a b x v e
shift LessEqual a b x v e = le_shift a b x v e
shift Greater a b x v e = lt_shift b a v x (omega (arith, ints))
shift GreaterEqual a b x v e = le_shift b a v x (omega (arith, ints))

module _ (left right : Split) (own : Own) (r : Relation) (v : ℤ) (has : left.own ≡ Some own) (lacks : right.own ≡ None) where
  -- the row's leaf is added on the left
  pub plus_leaf : own.minus ≡ false → left.known +ℤ v ≡ right.known → BoundsSplits left r right (record { field = own.field; relation = r; value = v })
  plus_leaf plus e messages number =
      let x = int_at messages number own.field in
      let l : split_value messages left number ≡ left.known +ℤ x = (λ i. left.known +ℤ own_value messages (has i) number) ∙ (λ i. left.known +ℤ (if plus i then neg_ℤ x else x)) in
      let k : split_value messages right number ≡ right.known +ℤ pos 0 = λ i. right.known +ℤ own_value messages (lacks i) number in
      shift r (split_value messages left number) (split_value messages right number) x v (omega (arith, ints))

  -- and taken away there
  pub minus_leaf : own.minus ≡ true → right.known +ℤ v ≡ left.known → BoundsSplits left r right (record { field = own.field; relation = turned r; value = v })
  minus_leaf minus e messages number =
      let x = int_at messages number own.field in
      let l : split_value messages left number ≡ left.known +ℤ neg_ℤ x = (λ i. left.known +ℤ own_value messages (has i) number) ∙ (λ i. left.known +ℤ (if minus i then neg_ℤ x else x)) in
      let k : split_value messages right number ≡ right.known +ℤ pos 0 = λ i. right.known +ℤ own_value messages (lacks i) number in
      shift r (split_value messages left number) (split_value messages right number) v x (omega (arith, ints)) ∙ sym (turn r x v)

-- the sides exchanged
pub other_side : (left right : Split) (r : Relation) (bound : Bound) → BoundsSplits right (turned r) left bound → BoundsSplits left r right bound
other_side left right r bound h messages number = sym (turn r (split_value messages right number) (split_value messages left number)) ∙ h messages number

-- what is left of a sum beside the split of the others
abbrev pub Leaves : List Message → ℕ → ℕ → ℕ → List Signed → List Signed → Split → Type 0
Leaves messages known pattern wanted leaves left split =
    (number : ℕ) (whole : Assignment) → IsPair known pattern wanted number whole → split_value messages split number +ℤ term_value messages whole left ≡ term_value messages whole leaves

pub leaves_all : (messages : List Message) (known pattern wanted : ℕ) (leaves : List Signed) → Leaves messages known pattern wanted leaves leaves (record { known = pos 0; own = None })
leaves_all messages known pattern wanted leaves number whole pair = omega (arith, ints)

pub leaves_less : (messages : List Message) (known pattern wanted : ℕ) (leaves left more : List Signed) (x : Signed) (split longer : Split) → left ≡ x ∷ more → AddsLeaf messages known pattern wanted split x longer → Leaves messages known pattern wanted leaves left split → Leaves messages known pattern wanted leaves more longer
leaves_less messages known pattern wanted leaves left more x split longer e adds before number whole pair =
    let one = adds number whole pair in
    let told = before number whole pair in
    let rest : term_value messages whole left ≡ signed_value messages whole x +ℤ term_value messages whole more = ap (term_value messages whole) e in
    omega (arith, ints)

pub leaves_none : (messages : List Message) (known pattern wanted : ℕ) (leaves left : List Signed) (split : Split) → left ≡ [] → Leaves messages known pattern wanted leaves left split → IsSplit messages known pattern wanted leaves split
leaves_none messages known pattern wanted leaves left split e before number whole pair =
    let told = before number whole pair in
    let rest : term_value messages whole left ≡ pos 0 = ap (term_value messages whole) e in
    omega (arith, ints)

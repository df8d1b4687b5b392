-- A further message changes nothing for assignments of earlier numbers.
use Rattle.std.proofs.Common.{◌≡◌, ℕ, zero, suc, ◌<◌, List, [], ◌∷◌, ◌++◌, length, slice_get, not, ◌&&◌, ◌||◌, Option, Some, None, neg_ℤ, ◌+ℤ◌, refl, ap, arith}
use Rattle.std.specs.Prelude.{if◌then◌else◌}
use Rattle.join_base.specs.declared.message.Message.{Message}
use Rattle.join_base.specs.declared.message.Relation.{Relation}
use Rattle.guard_eval.specs.declared.term.Place.{Place}
use Rattle.guard_eval.specs.declared.term.Leaf.{Leaf}
use Rattle.guard_eval.specs.declared.term.Leaf.TheVariants as leaf
use Rattle.guard_eval.specs.declared.term.Signed.{Signed}
use Rattle.guard_eval.specs.declared.term.WordsLeaf.{WordsLeaf}
use Rattle.guard_eval.specs.declared.term.WordsLeaf.TheVariants as words_leaf
use Rattle.guard_eval.specs.declared.term.Operand.{Operand}
use Rattle.guard_eval.specs.declared.term.Operand.TheVariants as operand
use Rattle.guard_eval.specs.Condition.{Condition, Never, Compares, Negated, Grouped, Either}
use Rattle.guard_eval.specs.Meaning.{Assignment, number_at, recorded_message, message_of_slot, field_of, value_at, int_of, words_of, leaf_value, term_value, words_value, int_relation, words_relation, compares, is_true, is_decided}
use Rattle.pattern_core.specs.Matches.{is_agreeable, makes_all_true}
use Rattle.pattern_core.specs.Suits.{IsRecorded}

get_more : {X : Type 0} (xs ys : List X) (i : ℕ) → i < length xs → slice_get (xs ++ ys) i ≡ slice_get xs i
get_more [] ys i l = absurd (omega arith)
get_more (x ∷ xs) ys zero l = refl
get_more (x ∷ xs) ys (suc i) l = get_more xs ys i (omega arith)

pub recorded_message-more : (messages more : List Message) (n : ℕ) → IsRecorded messages n → recorded_message (messages ++ more) n ≡ recorded_message messages n
recorded_message-more messages more zero h = refl
recorded_message-more messages more (suc place) h = get_more messages more place (omega (arith, h.1))

-- each number of the assignment is that of a recorded message
abbrev pub AreRecorded : List Message → Assignment → Type 0
AreRecorded messages [] = Unit {0}
AreRecorded messages (None ∷ slots) = AreRecorded messages slots
AreRecorded messages (Some n ∷ slots) = IsRecorded messages n × AreRecorded messages slots

pub message_of_slot-more : (messages more : List Message) (slots : Assignment) (p : ℕ) → AreRecorded messages slots → message_of_slot (messages ++ more) (number_at slots p) ≡ message_of_slot messages (number_at slots p)
message_of_slot-more messages more [] p h = refl
message_of_slot-more messages more (None ∷ slots) zero h = refl
message_of_slot-more messages more (Some n ∷ slots) zero h = recorded_message-more messages more n h.0
message_of_slot-more messages more (None ∷ slots) (suc p) h = message_of_slot-more messages more slots p h
message_of_slot-more messages more (Some n ∷ slots) (suc p) h = message_of_slot-more messages more slots p h.1

module _ (before after : List Message) (slots : Assignment) (same : (p : ℕ) → message_of_slot after (number_at slots p) ≡ message_of_slot before (number_at slots p)) where
  value_at-same : (place : Place) → value_at after slots place ≡ value_at before slots place
  value_at-same place = ap (λ (m : Option Message). field_of m place.field) (same place.pattern)

  leaf_value-same : (l : Leaf) → leaf_value after slots l ≡ leaf_value before slots l
  leaf_value-same (leaf.Number n) = refl
  leaf_value-same (leaf.Field place) = ap int_of (value_at-same place)

  term_value-same : (term : List Signed) → term_value after slots term ≡ term_value before slots term
  term_value-same [] = refl
  term_value-same (signed ∷ more) =
      let here = leaf_value-same signed.leaf in
      let later = term_value-same more in
      λ i. (if signed.minus then neg_ℤ (here i) else here i) +ℤ later i

  words_value-same : (words : WordsLeaf) → words_value after slots words ≡ words_value before slots words
  words_value-same (words_leaf.Fixed bytes) = refl
  words_value-same (words_leaf.Field place) = ap words_of (value_at-same place)

  compares-same : (left : Operand) (relation : Relation) (right : Operand) → compares after slots left relation right ≡ compares before slots left relation right
  compares-same (operand.Sum a) relation (operand.Sum b) = λ i. int_relation relation (term_value-same a i) (term_value-same b i)
  compares-same (operand.Words a) relation (operand.Words b) = λ i. words_relation relation (words_value-same a i) (words_value-same b i)
  compares-same (operand.Sum a) relation (operand.Words b) = refl
  compares-same (operand.Words a) relation (operand.Sum b) = refl

  is_true-same : (condition : Condition) → is_true after slots condition ≡ is_true before slots condition
  is_true-same Never = refl
  is_true-same (Compares left relation right) = compares-same left relation right
  is_true-same (Negated inner) = ap not (is_true-same inner)
  is_true-same (Grouped inner) = is_true-same inner
  is_true-same (Either atom rest) = λ i. is_true-same atom i || is_true-same rest i

  pub agreeable-same : (conjuncts : List Condition) → is_agreeable after conjuncts slots ≡ is_agreeable before conjuncts slots
  agreeable-same [] = refl
  agreeable-same (c ∷ conjuncts) = λ i. (not (is_decided slots c) || is_true-same c i) && agreeable-same conjuncts i

  pub all_true-same : (conjuncts : List Condition) → makes_all_true after conjuncts slots ≡ makes_all_true before conjuncts slots
  all_true-same [] = refl
  all_true-same (c ∷ conjuncts) = λ i. is_true-same c i && all_true-same conjuncts i

-- A decided conjunct keeps its truth when further patterns are filled.
use Rattle.std.proofs.Common.{◌≡◌, ℕ, List, [], ◌∷◌, ◌++◌, Bool, true, false, not, ◌&&◌, ◌||◌, Option, neg_ℤ, ◌+ℤ◌, refl, ap, sym, ◌∙◌}
use Rattle.std.specs.Prelude.{if◌then◌else◌}
use Rattle.std.specs.List.{list_all}
use Rattle.std.proofs.lemmas.List.Folds.{list_all-append}
use Rattle.join_base.specs.declared.message.Message.{Message}
use Rattle.join_base.specs.declared.message.Relation.{Relation}
use Rattle.guard_eval.specs.declared.term.Place.{Place}
use Rattle.guard_eval.specs.declared.term.Leaf.{Leaf}
use Rattle.guard_eval.specs.declared.term.Leaf.TheVariants as leaf
use Rattle.guard_eval.specs.declared.term.Signed.{Signed}
use Rattle.guard_eval.specs.declared.term.WordsLeaf.{WordsLeaf}
use Rattle.guard_eval.specs.declared.term.WordsLeaf.TheVariants as words_leaf
use Rattle.guard_eval.specs.declared.term.Operand.{Operand}
use Rattle.guard_eval.specs.declared.term.Operand.TheVariants as operand
use Rattle.guard_eval.specs.Condition.{Condition, Never, Compares, Negated, Grouped, Either}
use Rattle.guard_eval.specs.Meaning.{Assignment, Need, number_at, message_of_slot, field_of, value_at, int_of, words_of, leaf_value, term_value, words_value, int_relation, words_relation, compares, is_true, leaf_needs, term_needs, words_needs, operand_needs, needs_of, is_slot_filled, is_filled}

-- each filled pattern of the one has its number in the other
abbrev pub Extends : Assignment → Assignment → Type 0
Extends slots longer = (p : ℕ) → is_slot_filled (number_at slots p) ≡ true → number_at longer p ≡ number_at slots p

pub both_true : (a b : Bool) → (a && b) ≡ true → (a ≡ true) × (b ≡ true)
both_true true b e = (refl, e)
both_true false b e = absurd cc

module _ (messages : List Message) (slots longer : Assignment) (extends : Extends slots longer) where
  abbrev Filled : List Need → Type 0
  Filled needs = list_all (is_filled slots) needs ≡ true

  split : (xs ys : List Need) → Filled (xs ++ ys) → Filled xs × Filled ys
  split xs ys h = both_true (list_all (is_filled slots) xs) (list_all (is_filled slots) ys) (sym (list_all-append (is_filled slots) xs ys) ∙ h)

  value_at-extended : (place : Place) (b : Bool) → (is_slot_filled (number_at slots place.pattern) && b) ≡ true → value_at messages longer place ≡ value_at messages slots place
  value_at-extended place b h =
      ap (λ (o : Option ℕ). field_of (message_of_slot messages o) place.field) (extends place.pattern (both_true (is_slot_filled (number_at slots place.pattern)) b h).0)

  leaf_value-extended : (l : Leaf) → Filled (leaf_needs l) → leaf_value messages longer l ≡ leaf_value messages slots l
  leaf_value-extended (leaf.Number n) h = refl
  leaf_value-extended (leaf.Field place) h = ap int_of (value_at-extended place true h)

  pub term_value-extended : (term : List Signed) → Filled (term_needs term) → term_value messages longer term ≡ term_value messages slots term
  term_value-extended [] h = refl
  term_value-extended (signed ∷ more) h =
      let parts = split (leaf_needs signed.leaf) (term_needs more) h in
      let here = leaf_value-extended signed.leaf parts.0 in
      let later = term_value-extended more parts.1 in
      λ i. (if signed.minus then neg_ℤ (here i) else here i) +ℤ later i

  words_value-extended : (words : WordsLeaf) → Filled (words_needs words) → words_value messages longer words ≡ words_value messages slots words
  words_value-extended (words_leaf.Fixed bytes) h = refl
  words_value-extended (words_leaf.Field place) h = ap words_of (value_at-extended place true h)

  compares-extended : (left : Operand) (relation : Relation) (right : Operand) → Filled (operand_needs left ++ operand_needs right) → compares messages longer left relation right ≡ compares messages slots left relation right
  compares-extended (operand.Sum a) relation (operand.Sum b) h =
      let parts = split (term_needs a) (term_needs b) h in
      λ i. int_relation relation (term_value-extended a parts.0 i) (term_value-extended b parts.1 i)
  compares-extended (operand.Words a) relation (operand.Words b) h =
      let parts = split (words_needs a) (words_needs b) h in
      λ i. words_relation relation (words_value-extended a parts.0 i) (words_value-extended b parts.1 i)
  compares-extended (operand.Sum a) relation (operand.Words b) h = refl
  compares-extended (operand.Words a) relation (operand.Sum b) h = refl

  pub is_true-extended : (condition : Condition) → Filled (needs_of condition) → is_true messages longer condition ≡ is_true messages slots condition
  is_true-extended Never h = refl
  is_true-extended (Compares left relation right) h = compares-extended left relation right h
  is_true-extended (Negated inner) h = ap not (is_true-extended inner h)
  is_true-extended (Grouped inner) h = is_true-extended inner h
  is_true-extended (Either atom rest) h =
      let parts = split (needs_of atom) (needs_of rest) h in
      λ i. is_true-extended atom parts.0 i || is_true-extended rest parts.1 i

-- Conjuncts that pass for equal are equal.
use Rattle.std.proofs.Common.{rules, ◌≡◌, List, [], ◌∷◌, Bool, true, false, ◌&&◌, refl, ap}
use Rattle.std.proofs.lemmas.Bool.Decides.{Decides-int_eq}
use Rattle.std.proofs.lemmas.Slice.Eq.{bytes_eq-Decides}
use denote.Enum.Bare.{same_true}
use Rattle.join_base.specs.contracts.message.Relation.{the_type}
use Rattle.join_base.specs.declared.message.Relation.{Relation}
use Rattle.guard_eval.specs.Condition.{Condition, Never, Compares, Negated, Grouped, Either}
use Rattle.guard_eval.specs.declared.term.Leaf.{Leaf}
use Rattle.guard_eval.specs.declared.term.Leaf.TheVariants as leaf
use Rattle.guard_eval.specs.declared.term.Signed.{Signed}
use Rattle.guard_eval.specs.declared.term.WordsLeaf.{WordsLeaf}
use Rattle.guard_eval.specs.declared.term.WordsLeaf.TheVariants as words
use Rattle.guard_eval.specs.declared.term.Operand.{Operand}
use Rattle.guard_eval.specs.declared.term.Operand.TheVariants as operand
use Rattle.guard_eval.proofs.ExtendLemmas.{both_true}
use Rattle.script_lint.specs.Same.{is_same, is_same_bool, is_same_leaf, is_same_operand, is_same_relation, is_same_signed, is_same_term, is_same_words}
use Rattle.script_lint.proofs.BoundLemmas.{is_same_place-tells}

same_bool : (a b : Bool) → is_same_bool a b ≡ true → a ≡ b
same_bool true true e = refl
same_bool false false e = refl
same_bool true false e = absurd cc
same_bool false true e = absurd cc

same_relation : (a b : Relation) → is_same_relation a b ≡ true → a ≡ b
same_relation a b e = same_true the_type (search rules) a b e

same_leaf : (a b : Leaf) → is_same_leaf a b ≡ true → a ≡ b
same_leaf (leaf.Number n) (leaf.Number m) e = ap leaf.Number ((Decides-int_eq n m).0 e)
same_leaf (leaf.Field p) (leaf.Field q) e = ap leaf.Field (is_same_place-tells p q e)
same_leaf (leaf.Number n) (leaf.Field q) e = absurd cc
same_leaf (leaf.Field p) (leaf.Number m) e = absurd cc

same_signed : (a b : Signed) → is_same_signed a b ≡ true → a ≡ b
same_signed a b e =
    let parts = both_true (is_same_bool a.minus b.minus) (is_same_leaf a.leaf b.leaf) e in
    let p = same_bool a.minus b.minus parts.0 in
    let q = same_leaf a.leaf b.leaf parts.1 in
    λ i. record { minus = p i; leaf = q i }

same_term : (as' bs : List Signed) → is_same_term as' bs ≡ true → as' ≡ bs
same_term [] [] e = refl
same_term [] (b ∷ bs) e = absurd cc
same_term (a ∷ as') [] e = absurd cc
same_term (a ∷ as') (b ∷ bs) e =
    let parts = both_true (is_same_signed a b) (is_same_term as' bs) e in
    let p = same_signed a b parts.0 in
    let q = same_term as' bs parts.1 in
    λ i. p i ∷ q i

same_words : (a b : WordsLeaf) → is_same_words a b ≡ true → a ≡ b
same_words (words.Fixed t) (words.Fixed u) e = ap words.Fixed ((bytes_eq-Decides t u).0 e)
same_words (words.Field p) (words.Field q) e = ap words.Field (is_same_place-tells p q e)
same_words (words.Fixed t) (words.Field q) e = absurd cc
same_words (words.Field p) (words.Fixed u) e = absurd cc

same_operand : (a b : Operand) → is_same_operand a b ≡ true → a ≡ b
same_operand (operand.Sum s) (operand.Sum t) e = ap operand.Sum (same_term s t e)
same_operand (operand.Words v) (operand.Words w) e = ap operand.Words (same_words v w e)
same_operand (operand.Sum s) (operand.Words w) e = absurd cc
same_operand (operand.Words v) (operand.Sum t) e = absurd cc

pub same_condition : (c d : Condition) → is_same c d ≡ true → c ≡ d
same_condition Never Never e = refl
same_condition Never (Compares l' r' o') e = absurd cc
same_condition Never (Negated b) e = absurd cc
same_condition Never (Grouped b) e = absurd cc
same_condition Never (Either b bs) e = absurd cc
same_condition (Compares l r o) Never e = absurd cc
same_condition (Compares l r o) (Compares l' r' o') e =
    let parts = both_true (is_same_operand l l') (is_same_relation r r' && is_same_operand o o') e in
    let more = both_true (is_same_relation r r') (is_same_operand o o') parts.1 in
    let p = same_operand l l' parts.0 in
    let q = same_relation r r' more.0 in
    let s = same_operand o o' more.1 in
    λ i. Compares (p i) (q i) (s i)
same_condition (Compares l r o) (Negated b) e = absurd cc
same_condition (Compares l r o) (Grouped b) e = absurd cc
same_condition (Compares l r o) (Either b bs) e = absurd cc
same_condition (Negated a) Never e = absurd cc
same_condition (Negated a) (Compares l' r' o') e = absurd cc
same_condition (Negated a) (Negated b) e = ap Negated (same_condition a b e)
same_condition (Negated a) (Grouped b) e = absurd cc
same_condition (Negated a) (Either b bs) e = absurd cc
same_condition (Grouped a) Never e = absurd cc
same_condition (Grouped a) (Compares l' r' o') e = absurd cc
same_condition (Grouped a) (Negated b) e = absurd cc
same_condition (Grouped a) (Grouped b) e = ap Grouped (same_condition a b e)
same_condition (Grouped a) (Either b bs) e = absurd cc
same_condition (Either a as') Never e = absurd cc
same_condition (Either a as') (Compares l' r' o') e = absurd cc
same_condition (Either a as') (Negated b) e = absurd cc
same_condition (Either a as') (Grouped b) e = absurd cc
same_condition (Either a as') (Either b bs) e =
    let parts = both_true (is_same a b) (is_same as' bs) e in
    let p = same_condition a b parts.0 in
    let q = same_condition as' bs parts.1 in
    λ i. Either (p i) (q i)

-- Whether two conjuncts are equal.
use Rattle.std.specs.Prelude.{List, Bool, true, false, ◌&&◌}
use Rattle.std.specs.Ordering.{int_eq}
use Rattle.std.specs.Cmp.Lexicographic.{pointwise}
use Rattle.std.specs.Str.{bytes_eq}
use denote.Enum.Bare.{sameb}
use Rattle.join_base.specs.contracts.message.Relation.{the_type}
use Rattle.join_base.specs.declared.message.Relation.{Relation}
use Rattle.guard_eval.specs.Condition.{Condition, Never, Compares, Negated, Grouped, Either}
use Rattle.guard_eval.specs.declared.term.Leaf.{Leaf}
use Rattle.guard_eval.specs.declared.term.Leaf.TheVariants as leaf
use Rattle.guard_eval.specs.declared.term.Signed.{Signed}
use Rattle.guard_eval.specs.declared.term.WordsLeaf.{WordsLeaf}
use Rattle.guard_eval.specs.declared.term.WordsLeaf.TheVariants as words
use Rattle.guard_eval.specs.declared.term.Operand.{Operand}
use Rattle.guard_eval.specs.declared.term.Operand.TheVariants as operand
use Rattle.script_lint.specs.Bounds.{is_same_place}

abbrev pub is_same_bool : Bool → Bool → Bool
is_same_bool true true = true
is_same_bool false false = true
is_same_bool _ _ = false

-- `==` on relations
abbrev pub is_same_relation : Relation → Relation → Bool
is_same_relation = sameb the_type

abbrev pub is_same_leaf : Leaf → Leaf → Bool
is_same_leaf (leaf.Number n) (leaf.Number m) = int_eq n m
is_same_leaf (leaf.Field p) (leaf.Field q) = is_same_place p q
is_same_leaf _ _ = false

abbrev pub is_same_signed : Signed → Signed → Bool
is_same_signed a b = is_same_bool a.minus b.minus && is_same_leaf a.leaf b.leaf

abbrev pub is_same_term : List Signed → List Signed → Bool
is_same_term = pointwise is_same_signed

abbrev pub is_same_words : WordsLeaf → WordsLeaf → Bool
is_same_words (words.Fixed a) (words.Fixed b) = bytes_eq a b
is_same_words (words.Field p) (words.Field q) = is_same_place p q
is_same_words _ _ = false

abbrev pub is_same_operand : Operand → Operand → Bool
is_same_operand (operand.Sum a) (operand.Sum b) = is_same_term a b
is_same_operand (operand.Words a) (operand.Words b) = is_same_words a b
is_same_operand _ _ = false

abbrev pub is_same : Condition → Condition → Bool
is_same Never Never = true
is_same (Compares l r o) (Compares l' r' o') = is_same_operand l l' && (is_same_relation r r' && is_same_operand o o')
is_same (Negated a) (Negated b) = is_same a b
is_same (Grouped a) (Grouped b) = is_same a b
is_same (Either a as') (Either b bs) = is_same a b && is_same as' bs
is_same _ _ = false

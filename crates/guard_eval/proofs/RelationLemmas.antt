-- A relation of two integers with its sides exchanged.
use Rattle.std.proofs.Common.{◌≡◌, not, refl, sym, ap}
use Rattle.std.specs.Prelude.{ℤ}
use Rattle.std.specs.Ordering.{int_eq}
use Rattle.std.proofs.lemmas.Bool.Decides.{Decides-int_eq, Decides-like, same_from_decides}
use Rattle.join_base.specs.declared.message.Relation.{Relation}
use Rattle.join_base.specs.declared.message.Relation.TheVariants.{Equal, NotEqual, Less, LessEqual, Greater, GreaterEqual}
use Rattle.guard_eval.specs.Meaning.{int_relation, turned}

equal_turn : (a b : ℤ) → int_eq a b ≡ int_eq b a
equal_turn a b = same_from_decides (int_eq a b) (int_eq b a) (Decides-int_eq a b) (Decides-like (int_eq b a) (λ e. sym e) (λ e. sym e) (Decides-int_eq b a))

pub turn : (r : Relation) (a b : ℤ) → int_relation (turned r) a b ≡ int_relation r b a
turn Equal a b = equal_turn a b
turn NotEqual a b = ap not (equal_turn a b)
turn Less a b = refl
turn LessEqual a b = refl
turn Greater a b = refl
turn GreaterEqual a b = refl

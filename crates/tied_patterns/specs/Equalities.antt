-- The equalities of two variables that a guard asks for.
use Rattle.std.specs.Prelude.{List, [], ◌∷◌, Bool, true, false, Option, Some, None, if◌then◌else◌}
use Rattle.std.specs.List.{cons_option}
use Rattle.join_base.specs.declared.message.Relation.{Relation}
use Rattle.join_base.specs.declared.message.Relation.TheVariants.{Equal, NotEqual, Less, LessEqual, Greater, GreaterEqual}
use Rattle.guard_eval.specs.Condition.{Condition, Never, Compares, Negated, Grouped, Either}
use Rattle.guard_eval.specs.declared.term.Place.{Place}
use Rattle.guard_eval.specs.declared.term.Leaf.{Leaf}
use Rattle.guard_eval.specs.declared.term.Leaf.TheVariants as leaf
use Rattle.guard_eval.specs.declared.term.Signed.{Signed}
use Rattle.guard_eval.specs.declared.term.WordsLeaf.{WordsLeaf}
use Rattle.guard_eval.specs.declared.term.WordsLeaf.TheVariants as words
use Rattle.guard_eval.specs.declared.term.Operand.{Operand}
use Rattle.guard_eval.specs.declared.term.Operand.TheVariants as operand
use Rattle.tied_patterns.specs.declared.equality.Equality.{Equality}

abbrev pub field_of_leaf : Leaf → Option Place
field_of_leaf (leaf.Number n) = None
field_of_leaf (leaf.Field place) = Some place

-- the field of a sum that is a single field without a minus
abbrev pub lone_field : List Signed → Option Place
lone_field [] = None
lone_field (signed ∷ []) = if signed.minus then None else field_of_leaf signed.leaf
lone_field (signed ∷ next ∷ more) = None

-- the variable that an operand is
abbrev pub variable_of : Operand → Option Place
variable_of (operand.Sum leaves) = lone_field leaves
variable_of (operand.Words (words.Field place)) = Some place
variable_of (operand.Words (words.Fixed text)) = None

abbrev pub equality_between : Option Place → Option Place → Option Equality
equality_between (Some left) (Some right) = Some record { left = left; right = right }
equality_between (Some left) None = None
equality_between None right = None

abbrev pub equality_if : Relation → Option Equality → Option Equality
equality_if Equal found = found
equality_if NotEqual found = None
equality_if Less found = None
equality_if LessEqual found = None
equality_if Greater found = None
equality_if GreaterEqual found = None

-- the equality of two variables that an atom is
abbrev pub equality_of : Condition → Option Equality
equality_of (Compares left relation right) = equality_if relation (equality_between (variable_of left) (variable_of right))
equality_of Never = None
equality_of (Negated atom) = None
equality_of (Grouped atom) = None
equality_of (Either atom rest) = None

abbrev pub is_never : Condition → Bool
is_never Never = true
is_never (Compares left relation right) = false
is_never (Negated atom) = false
is_never (Grouped atom) = false
is_never (Either atom rest) = false

abbrev pub equality_before : Condition → Condition → Option Equality
equality_before atom rest = if is_never rest then equality_of atom else None

-- the equality of two variables that a conjunct is, which has no other atom
abbrev pub equality_in : Condition → Option Equality
equality_in (Either atom rest) = equality_before atom rest
equality_in Never = None
equality_in (Compares left relation right) = None
equality_in (Negated atom) = None
equality_in (Grouped atom) = None

abbrev pub equalities_in : List Condition → List Equality
equalities_in [] = []
equalities_in (conjunct ∷ conjuncts) = cons_option (equality_in conjunct) (equalities_in conjuncts)

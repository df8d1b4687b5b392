-- Worked examples, computed by the definitions.
use Rattle.std.proofs.Common.{◌≡◌, refl, ℕ, List, [], ◌∷◌, Option, Some, None, pos, ℤ, false}
use Rattle.join_base.specs.declared.message.Relation.{Relation}
use Rattle.join_base.specs.declared.message.Relation.TheVariants.{Equal, Less, Greater, NotEqual}
use Rattle.join_base.specs.declared.message.Sort.TheVariants as sort
use Rattle.guard_eval.specs.Condition.{Condition, Compares, Either, Never}
use Rattle.guard_eval.specs.declared.term.Leaf.{Leaf}
use Rattle.guard_eval.specs.declared.term.Leaf.TheVariants.{Field, Number}
use Rattle.guard_eval.specs.declared.term.Operand.{Operand}
use Rattle.guard_eval.specs.declared.term.Operand.TheVariants.{Sum, Words}
use Rattle.guard_eval.specs.declared.term.WordsLeaf.TheVariants as words
use Rattle.script_types.specs.declared.plan.Kind.{Kind}
use Rattle.script_types.specs.declared.plan.Plan.{Plan}
use Rattle.script_types.specs.declared.plan.Rule.{Rule}
use Rattle.script_lint.specs.declared.finding.Finding.TheVariants.{Dead, Narrow, Shadowed, Idle}
use Rattle.script_lint.specs.Findings.{findings}

-- a kind a of one integer and a kind b of one
abbrev kind : Kind
kind = record { name = []; fields = ([], sort.Int) ∷ [] }

abbrev rule : List ℕ → List Condition → Option ℕ → Rule
rule kinds conjuncts window = record { definition = record { patterns = kinds; conjuncts = conjuncts; window = window }; variables = []; body = [] }

abbrev plan : List Rule → Plan
plan rules = record { kinds = kind ∷ kind ∷ []; actors = record { name = []; rules = rules } ∷ [] }

abbrev one : Leaf → Operand
one leaf = Sum (record { minus = false; leaf = leaf } ∷ [])

-- the field of the pattern on the left
abbrev bound : ℕ → Relation → ℤ → Condition
bound pattern relation n = Either (Compares (one (Field record { pattern = pattern; field = 0 })) relation (one (Number n))) Never

-- and on the right
abbrev bound_back : ℤ → Relation → ℕ → Condition
bound_back n relation pattern = Either (Compares (one (Number n)) relation (one (Field record { pattern = pattern; field = 0 }))) Never

abbrev text : ℕ → List ℕ → Condition
text pattern bytes = Either (Compares (Words (words.Field record { pattern = pattern; field = 0 })) Equal (Words (words.Fixed bytes))) Never

equal_definitions : findings (plan (rule (0 ∷ 1 ∷ []) [] None ∷ rule (0 ∷ 1 ∷ []) [] None ∷ [])) ≡ Shadowed 0 2 1 ∷ []
equal_definitions = refl

a_kind_that_none_takes : findings (plan (rule (0 ∷ []) [] None ∷ [])) ≡ Idle 1 ∷ []
a_kind_that_none_takes = refl

a_window_of_one_for_two : findings (plan (rule (0 ∷ 1 ∷ []) [] (Some 1) ∷ [])) ≡ Narrow 0 1 ∷ Idle 0 ∷ Idle 1 ∷ []
a_window_of_one_for_two = refl

-- x > 3, then x > 5 && y < 2, then x < 1 && 1 < x
stronger_and_dead : findings (plan (rule (0 ∷ 1 ∷ []) (bound 0 Greater (pos 3) ∷ []) None ∷ rule (0 ∷ 1 ∷ []) (bound 0 Greater (pos 5) ∷ bound 1 Less (pos 2) ∷ []) None ∷ rule (0 ∷ []) (bound 0 Less (pos 1) ∷ bound_back (pos 1) Less 0 ∷ []) None ∷ []))
    ≡ Shadowed 0 2 1 ∷ Dead 0 3 ∷ []
stronger_and_dead = refl

-- there is an integer between 3 and 5, and none between 3 and 4
one_between : findings (plan (rule (0 ∷ 1 ∷ []) (bound 0 Greater (pos 3) ∷ bound 0 Less (pos 5) ∷ []) None ∷ [])) ≡ []
one_between = refl

none_between : findings (plan (rule (0 ∷ 1 ∷ []) (bound 0 Greater (pos 3) ∷ bound 0 Less (pos 4) ∷ []) None ∷ [])) ≡ Dead 0 1 ∷ Idle 0 ∷ Idle 1 ∷ []
none_between = refl

-- no integer of 64 bits is greater than the greatest
beyond_all : findings (plan (rule (0 ∷ 1 ∷ []) (bound 0 Greater (pos 9223372036854775807) ∷ []) None ∷ [])) ≡ Dead 0 1 ∷ Idle 0 ∷ Idle 1 ∷ []
beyond_all = refl

two_texts : findings (plan (rule (0 ∷ 1 ∷ []) (text 0 (103 ∷ []) ∷ text 0 (104 ∷ []) ∷ []) None ∷ [])) ≡ Dead 0 1 ∷ Idle 0 ∷ Idle 1 ∷ []
two_texts = refl

-- `!=` bounds nothing
unequal : findings (plan (rule (0 ∷ 1 ∷ []) (bound 0 Equal (pos 3) ∷ bound 0 NotEqual (pos 3) ∷ []) None ∷ [])) ≡ []
unequal = refl

-- a definition without a window is not shadowed by one with a window, nor one with a weaker guard by one with a
-- stronger one
wider : findings (plan (rule (0 ∷ 1 ∷ []) [] (Some 5) ∷ rule (0 ∷ 1 ∷ []) [] None ∷ [])) ≡ []
wider = refl

weaker : findings (plan (rule (0 ∷ 1 ∷ []) (bound 0 Greater (pos 5) ∷ []) None ∷ rule (0 ∷ 1 ∷ []) (bound 0 Greater (pos 3) ∷ []) None ∷ [])) ≡ []
weaker = refl

-- A worked example, computed by the definitions.
use Rattle.std.proofs.Common.{◌≡◌, refl, ℕ, List, [], ◌∷◌, ◌++◌, false}
use Rattle.std.specs.Prelude.{Some, codes}
use Rattle.std.specs.Fmt.{digits}
use Rattle.join_base.specs.declared.message.Relation.TheVariants.{Equal}
use Rattle.join_base.specs.declared.message.Sort.TheVariants as sort
use Rattle.guard_eval.specs.Condition.{Condition, Compares, Either, Never}
use Rattle.guard_eval.specs.declared.term.Leaf.TheVariants.{Field}
use Rattle.guard_eval.specs.declared.term.Operand.{Operand}
use Rattle.guard_eval.specs.declared.term.Operand.TheVariants as operand
use Rattle.guard_eval.specs.declared.term.Place.{Place}
use Rattle.guard_eval.specs.declared.term.WordsLeaf.TheVariants as words
use Rattle.script_types.specs.declared.plan.Item.TheVariants as item
use Rattle.script_types.specs.declared.plan.Kind.{Kind}
use Rattle.script_types.specs.declared.plan.Plan.{Plan}
use Rattle.script_types.specs.declared.plan.Rule.{Rule}
use Rattle.script_types.specs.declared.plan.Statement.{Statement}
use Rattle.script_types.specs.declared.plan.Statement.TheVariants.{Print, Reply}
use Rattle.plan_text.specs.PlanText.{line_end, plan_text}

abbrev one_int : List ℕ → Kind
one_int name = record { name = name; fields = (codes "x", sort.Int) ∷ [] }

abbrev place : ℕ → Place
place pattern = record { pattern = pattern; field = 0 }

abbrev variable : ℕ → Operand
variable pattern = operand.Sum (record { minus = false; leaf = Field (place pattern) } ∷ [])

abbrev same : Condition
same = Either (Compares (variable 0) Equal (variable 1)) Never

abbrev hit : Statement
hit = Print (item.Words (words.Fixed (codes "hit ")) ∷ item.Plain (place 0) ∷ item.Plain (place 1) ∷ [])

abbrev rule : Rule
rule = record {
  definition = record { patterns = 0 ∷ 1 ∷ []; conjuncts = same ∷ []; window = Some 20 };
  variables = (Some (codes "x") ∷ []) ∷ (Some (codes "y") ∷ []) ∷ [];
  body = hit ∷ Reply 1 (variable 0) ∷ [];
}

abbrev hits : Plan
hits = record {
  kinds = one_int (codes "a") ∷ one_int (codes "b") ∷ [];
  actors = record { name = codes "m"; rules = rule ∷ [] } ∷ [];
}

-- the text of two messages that join where they are equal
text_of_hits : plan_text hits ≡ (codes "message a(x: int)" ++ line_end) ++ (codes "message b(x: int)" ++ line_end) ++ (codes "actor m {" ++ line_end) ++ (codes "  when a(x) & b(y) within 20 if x == y {" ++ line_end) ++ (codes "    print \"hit \" x y;" ++ line_end) ++ (codes "    reply 2 x;" ++ line_end) ++ (codes "  }" ++ line_end) ++ (codes "}" ++ line_end)
unfolding digits
text_of_hits = refl

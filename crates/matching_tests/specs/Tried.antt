-- A row of messages for a join one of whose conjuncts speaks of one message alone, and what is kept of it.
use Rattle.std.specs.Prelude.{ℕ, List, [], ◌∷◌, ◌++◌, None, Some, pos, false}
use Rattle.join_base.specs.declared.message.Value.TheVariants.{Int}
use Rattle.join_base.specs.declared.message.Message.{Message}
use Rattle.join_base.specs.declared.message.Relation.TheVariants.{Equal}
use Rattle.guard_eval.specs.declared.term.Operand.{Operand}
use Rattle.guard_eval.specs.declared.term.Operand.TheVariants.{Sum}
use Rattle.guard_eval.specs.declared.term.Leaf.TheVariants.{Field, Number}
use Rattle.guard_eval.specs.Condition.{Condition, Compares, Either, Never}
use Rattle.guard_eval.specs.Meaning.{Assignment}
use Rattle.pattern_core.specs.declared.definition.Definition.{Definition}
use Rattle.pattern_core.specs.Members.{IsIn}
use Rattle.row_screens.specs.Offers.{Offered}
use Rattle.match_tree.specs.Tree.{extensions}

abbrev pub variable : ℕ → Operand
variable pattern = Sum (record { minus = false; leaf = Field record { pattern = pattern; field = 0 } } ∷ [])

abbrev pub one : Operand
one = Sum (record { minus = false; leaf = Number (pos 1) } ∷ [])

abbrev pub equality : Operand → Operand → Condition
equality left right = Either (Compares left Equal right) Never

-- a message of each of two kinds, where the first has 1 and both have the same
abbrev pub pair : Definition
pair = record { patterns = 0 ∷ 1 ∷ []; conjuncts = equality (variable 0) one ∷ equality (variable 0) (variable 1) ∷ []; window = None }

abbrev pub valued : ℕ → ℕ → Message
valued kind value = record { kind = kind; fields = Int (pos value) ∷ [] }

-- three messages of the first kind, and one of the second
abbrev pub row : List Message
row = valued 0 1 ∷ valued 0 2 ∷ valued 0 3 ∷ valued 1 7 ∷ []

-- of the three only the first is kept, beside the empty partial match
abbrev pub kept : List Assignment
kept = (None ∷ None ∷ []) ∷ (Some 1 ∷ None ∷ []) ∷ []

-- each of the first stands among the second
abbrev pub AreAmong : List Assignment → List Assignment → Type 0
AreAmong paths others = (path : Assignment) → IsIn path paths → IsIn path others

-- what is kept behind the number was kept before, or extends that by the number
abbrev pub GrowsBy : Offered → List Assignment → List Assignment → Type 0
GrowsBy o before after = AreAmong after (before ++ extensions o before)

-- A worked example, computed by the definitions.
use Rattle.std.proofs.Common.{◌≡◌, refl, List, [], ◌∷◌, ◌++◌, Some, None, pos, ℕ, length}
use Rattle.std.specs.Prelude.{false}
use Rattle.join_base.specs.declared.message.Value.TheVariants.{Int}
use Rattle.join_base.specs.declared.message.Message.{Message}
use Rattle.join_base.specs.declared.message.Relation.TheVariants.{Equal}
use Rattle.guard_eval.specs.declared.term.Operand.{Operand}
use Rattle.guard_eval.specs.declared.term.Operand.TheVariants.{Sum}
use Rattle.guard_eval.specs.declared.term.Leaf.TheVariants.{Field, Number}
use Rattle.guard_eval.specs.Condition.{Condition, Compares, Either, Never}
use Rattle.guard_eval.specs.Meaning.{Assignment}
use Rattle.pattern_core.specs.declared.definition.Definition.{Definition}
use Rattle.pattern_core.specs.Matches.{partial_matches}
use Rattle.match_tree.specs.Tree.{Tree, offer_to}
use Rattle.match_tree.specs.Tries.{tries}

abbrev message : ℕ → ℕ → Message
message kind x = record { kind = kind; fields = Int (pos x) ∷ [] }

abbrev variable : ℕ → Operand
variable pattern = Sum (record { minus = false; leaf = Field record { pattern = pattern; field = 0 } } ∷ [])

abbrev one : Operand
one = Sum (record { minus = false; leaf = Number (pos 1) } ∷ [])

abbrev equality : Operand → Operand → Condition
equality left right = Either (Compares left Equal right) Never

-- a message of each of two kinds, where the first has 1 and both have the same
pair : Definition
pair = record { patterns = 0 ∷ 1 ∷ []; conjuncts = equality (variable 0) one ∷ equality (variable 0) (variable 1) ∷ []; window = None }

three : List Message
three = message 0 1 ∷ message 0 2 ∷ message 0 3 ∷ []

-- of three messages of the first kind only that with 1 is kept, beside the empty path
kept : List Assignment
kept = (None ∷ None ∷ []) ∷ (Some 1 ∷ None ∷ []) ∷ []

first_alone : partial_matches three (1 ∷ 2 ∷ 3 ∷ []) pair ≡ kept
unfolding pair three kept
first_alone = refl

tree : Tree
tree = record { definition = pair; rule = 1; paths = kept; reserve = None }

-- the second kind's message is tried at both, and stays, as its value is another
two_tries : tries (offer_to tree (three ++ message 1 7 ∷ []) 4) kept ≡ 2
unfolding tree pair three kept
two_tries = refl

four_kept : length (partial_matches (three ++ message 1 7 ∷ []) (1 ∷ 2 ∷ 3 ∷ 4 ∷ []) pair) ≡ 3
unfolding pair three
four_kept = refl

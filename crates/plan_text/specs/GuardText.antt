-- The text of operands and conditions, with the variables' names.
use Rattle.std.specs.Prelude.{ℕ, List, [], ◌∷◌, ◌++◌, codes, if◌then◌else◌}
use Rattle.std.specs.List.{flat_map, join_by}
use Rattle.std.specs.Fmt.{signed_decimal}
use Rattle.join_base.specs.declared.message.Relation.{Relation}
use Rattle.join_base.specs.declared.message.Relation.TheVariants.{Equal, NotEqual, Less, LessEqual, Greater, GreaterEqual}
use Rattle.join_base.specs.Quoted.{quoted}
use Rattle.guard_eval.specs.declared.term.Leaf.{Leaf}
use Rattle.guard_eval.specs.declared.term.Leaf.TheVariants as leaf
use Rattle.guard_eval.specs.declared.term.Signed.{Signed}
use Rattle.guard_eval.specs.declared.term.WordsLeaf.{WordsLeaf}
use Rattle.guard_eval.specs.declared.term.WordsLeaf.TheVariants as words
use Rattle.guard_eval.specs.declared.term.Operand.{Operand}
use Rattle.guard_eval.specs.declared.term.Operand.TheVariants as operand
use Rattle.guard_eval.specs.Condition.{Condition, Never, Compares, Negated, Grouped, Either}
use Rattle.plan_text.specs.PlanNames.{Variables, variable_name}

-- a number in decimal, or a variable's name; a number of a checked plan is not negative, since the sign is the leaf's
abbrev pub leaf_text : Variables → Leaf → List ℕ
leaf_text variables (leaf.Number n) = signed_decimal n
leaf_text variables (leaf.Field place) = variable_name variables place

abbrev pub first_leaf : Variables → Signed → List ℕ
first_leaf variables signed = (if signed.minus then codes "-" else []) ++ leaf_text variables signed.leaf

abbrev pub further_leaf : Variables → Signed → List ℕ
further_leaf variables signed = (if signed.minus then codes " - " else codes " + ") ++ leaf_text variables signed.leaf

-- the leaves with their signs: `-x + 2 - y`
abbrev pub term_text : Variables → List Signed → List ℕ
term_text variables [] = []
term_text variables (first ∷ more) = first_leaf variables first ++ flat_map (further_leaf variables) more

-- a quoted form, or the name of a text variable
abbrev pub words_text : Variables → WordsLeaf → List ℕ
words_text variables (words.Fixed bytes) = quoted bytes
words_text variables (words.Field place) = variable_name variables place

abbrev pub operand_text : Variables → Operand → List ℕ
operand_text variables (operand.Sum leaves) = term_text variables leaves
operand_text variables (operand.Words leaf) = words_text variables leaf

abbrev pub relation_text : Relation → List ℕ
relation_text Equal = codes "=="
relation_text NotEqual = codes "!="
relation_text Less = codes "<"
relation_text LessEqual = codes "<="
relation_text Greater = codes ">"
relation_text GreaterEqual = codes ">="

abbrev pub comparison_text : Variables → Operand → Relation → Operand → List ℕ
comparison_text variables left relation right = operand_text variables left ++ (codes " " ++ (relation_text relation ++ (codes " " ++ operand_text variables right)))

abbrev pub either_text : List (List ℕ) → List ℕ
either_text texts = join_by (λ text. text) (codes " || ") texts

-- the texts of a condition's atoms: a comparison, `!` and an atom, or a condition in parentheses
abbrev pub atom_texts : Variables → Condition → List (List ℕ)
atom_texts variables Never = []
atom_texts variables (Compares left relation right) = comparison_text variables left relation right ∷ []
atom_texts variables (Negated inner) = (codes "!" ++ either_text (atom_texts variables inner)) ∷ []
atom_texts variables (Grouped inner) = (codes "(" ++ (either_text (atom_texts variables inner) ++ codes ")")) ∷ []
atom_texts variables (Either atom rest) = atom_texts variables atom ++ atom_texts variables rest

-- the atoms, ` || ` between each two
abbrev pub condition_text : Variables → Condition → List ℕ
condition_text variables condition = either_text (atom_texts variables condition)

-- nothing, or ` if ` and the conditions, ` && ` between each two
abbrev pub guard_text : Variables → List Condition → List ℕ
guard_text variables [] = []
guard_text variables (first ∷ more) = codes " if " ++ join_by (condition_text variables) (codes " && ") (first ∷ more)

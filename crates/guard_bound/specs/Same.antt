-- What a conjunct says of texts: a field of a pattern's message is equal to one of the wanted pattern's.
use Rattle.std.specs.Prelude.{◌≡◌, ℕ, List, Bool, true, ◌⊎◌, Option, Some, None}
use Rattle.std.specs.Str.{bytes_eq}
use Rattle.join_base.specs.declared.message.Message.{Message}
use Rattle.join_base.specs.declared.message.Relation.TheVariants.{Equal}
use Rattle.guard_eval.specs.declared.term.Place.{Place}
use Rattle.guard_eval.specs.declared.term.Operand.{Operand}
use Rattle.guard_eval.specs.declared.term.Operand.TheVariants as operand
use Rattle.guard_eval.specs.declared.term.WordsLeaf.TheVariants as words_leaf
use Rattle.guard_eval.specs.Condition.{Condition, Never, Compares, Either}
use Rattle.guard_eval.specs.Meaning.{recorded_message, field_of, words_of}
use Rattle.guard_bound.specs.declared.same.Same.{Same}

-- the text at a field of a recorded message, and the empty one where there is none
abbrev pub words_at : List Message → ℕ → ℕ → List ℕ
words_at messages number field = words_of (field_of (recorded_message messages number) field)

-- a text field alone
abbrev pub words_operand : Place → Operand
words_operand place = operand.Words (words_leaf.Field place)

-- two text fields are equal, and nothing else is said
abbrev pub are_same : Place → Place → Condition
are_same a b = Either (Compares (words_operand a) Equal (words_operand b)) Never

-- the number's text is that of the known number
abbrev pub is_same : List Message → ℕ → Option Same → ℕ → Bool
is_same messages known None number = true
is_same messages known (Some same) number = bytes_eq (words_at messages number same.field) (words_at messages known same.other)

-- the conjunct says that the texts of the pattern and the wanted one are equal
pub record SaysSame (pattern wanted : ℕ) (conjunct : Condition) (same : Same) : Type 0 where
  pub here : Place
  pub there : Place
  pub of_pattern : here.pattern ≡ pattern
  pub of_wanted : there.pattern ≡ wanted
  pub field : same.field ≡ here.field
  pub other : same.other ≡ there.field
  pub said : (conjunct ≡ are_same here there) ⊎ (conjunct ≡ are_same there here)

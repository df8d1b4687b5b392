-- What a body prints, posts and replies, in order.
use Rattle.std.specs.Prelude.{ℕ, List, [], ◌∷◌, Bool, true, false, ℤ, map, slice_index}
use Rattle.std.specs.List.{flat_map, list_any}
use Rattle.std.specs.Fmt.{signed_decimal}
use Rattle.std.specs.Int.{saturate_signed, w64}
use Rattle.join_base.specs.declared.message.Value.{Value}
use Rattle.join_base.specs.declared.message.Value.TheVariants as value
use Rattle.join_base.specs.declared.message.Message.{Message}
use Rattle.guard_eval.specs.declared.term.Operand.{Operand}
use Rattle.guard_eval.specs.declared.term.Operand.TheVariants as operand
use Rattle.guard_eval.specs.Meaning.{Assignment, value_at, int_of, term_value, words_value}
use Rattle.pattern_core.specs.Choice.{slots_of}
use Rattle.script_types.specs.declared.plan.Item.{Item}
use Rattle.script_types.specs.declared.plan.Item.TheVariants as item
use Rattle.script_types.specs.declared.plan.Statement.{Statement}
use Rattle.script_types.specs.declared.plan.Statement.TheVariants as statement
use Rattle.fair_semantics.specs.declared.run.Effect.{Effect}
use Rattle.fair_semantics.specs.declared.run.Effect.TheVariants as effect

-- words as they are, and an integer in decimal, exactly
abbrev pub item_text : List Message → Assignment → Item → List ℕ
item_text messages slots (item.Words words) = words_value messages slots words
item_text messages slots (item.Plain place) = signed_decimal (int_of (value_at messages slots place))
item_text messages slots (item.Sum term) = signed_decimal (term_value messages slots term)

abbrev pub line_of : List Message → Assignment → List Item → List ℕ
line_of messages slots items = flat_map (item_text messages slots) items

-- the nearest value of a field
abbrev pub clamped : ℤ → ℤ
clamped z = saturate_signed w64 z

-- what an operand sends, in a post or a reply
abbrev pub posted_value : List Message → Assignment → Operand → Value
posted_value messages slots (operand.Sum term) = value.Int (clamped (term_value messages slots term))
posted_value messages slots (operand.Words words) = value.Words (words_value messages slots words)

abbrev pub posted : List Message → Assignment → ℕ → List Operand → Message
posted messages slots kind operands = record { kind = kind; fields = map (posted_value messages slots) operands }

-- a reply has the number that the match has at its pattern
abbrev pub statement_effects : List Message → List ℕ → Statement → List Effect
statement_effects messages taken (statement.Print items) = effect.Print (line_of messages (slots_of taken) items) ∷ []
statement_effects messages taken (statement.Post target kind operands) = effect.Post target (posted messages (slots_of taken) kind operands) ∷ []
statement_effects messages taken statement.Stop = []
statement_effects messages taken (statement.Reply pattern operand) = effect.Reply (slice_index taken pattern) (posted_value messages (slots_of taken) operand) ∷ []

-- the effects of a body at the numbers that its match takes, in pattern order
abbrev pub effects_of : List Message → List ℕ → List Statement → List Effect
effects_of messages taken body = flat_map (statement_effects messages taken) body

abbrev pub is_stop : Statement → Bool
is_stop (statement.Print items) = false
is_stop (statement.Post target kind operands) = false
is_stop statement.Stop = true
is_stop (statement.Reply pattern operand) = false

abbrev pub stops : List Statement → Bool
stops body = list_any is_stop body

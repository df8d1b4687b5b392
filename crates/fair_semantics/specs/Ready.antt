-- What an item and an operand ask of the messages of a match: each variable has a recorded message and a value of its
-- type.
use Rattle.std.specs.Prelude.{List, [], ◌∷◌}
use Rattle.join_base.specs.declared.message.Message.{Message}
use Rattle.join_base.specs.declared.message.Sort.TheVariants as sort
use Rattle.guard_eval.specs.Meaning.{Assignment, Need, operand_needs, term_needs, words_needs}
use Rattle.guard_eval.specs.Ready.{AreReady}
use Rattle.guard_eval.specs.declared.term.Operand.{Operand}
use Rattle.script_types.specs.declared.plan.Item.{Item}
use Rattle.script_types.specs.declared.plan.Item.TheVariants as item

-- the variables of an item
abbrev pub item_needs : Item → List Need
item_needs (item.Words text) = words_needs text
item_needs (item.Plain place) = (place, sort.Int) ∷ []
item_needs (item.Sum term) = term_needs term

abbrev pub ItemReady : List Message → Assignment → Item → Type 0
ItemReady messages slots i = AreReady messages slots (item_needs i)

abbrev pub OperandReady : List Message → Assignment → Operand → Type 0
OperandReady messages slots o = AreReady messages slots (operand_needs o)

-- The message of a kind whose fields are read.
use Rattle.std.proofs.Common.{◌≡◌, ◌∙◌, ℕ, List, Option, Some, sym, ap}
use Rattle.std.specs.Prelude.{slice_get}
use Rattle.join_base.specs.declared.message.Sort.{Sort}
use Rattle.join_base.specs.declared.message.Value.{Value}
use Rattle.join_base.specs.declared.message.Message.{Message}
use Rattle.script_types.specs.declared.plan.Plan.{Plan}
use Rattle.script_types.specs.declared.plan.Kind.{Kind}
use Rattle.script_types.specs.Typed.{field_types}
use Rattle.log_lines.specs.declared.fault.LineFault.{LineFault}
use Rattle.log_lines.specs.declared.fault.LineFault.TheVariants.{NoLine, NoMemory}
use Rattle.log_lines.specs.Gives.{◌>>=◌, Fails}
use Rattle.log_lines.specs.Messages.{fields_of, message_with}
use Rattle.log_lines.proofs.ValueLemmas.{sorts_of}

abbrev pub made : ℕ → Option (List Value) → Option Message
made kind read = read >>= λ fields. Some (record { kind = kind; fields = fields })

module _ (plan : Plan) (text : List ℕ) (number : ℕ) (kind : Kind) (fields : List (List ℕ × Sort)) (at : slice_get plan.kinds number ≡ Some kind) (of_kind : fields ≡ kind.fields) where
  opens : message_with plan text number ≡ made number (fields_of (sorts_of fields) text)
  unfolding message_with
  opens =
      ap (λ (o : Option Kind). o >>= λ k. made number (fields_of (field_types k) text)) at
      ∙ ap (λ (l : List (List ℕ × Sort)). made number (fields_of (sorts_of l) text)) (sym of_kind)

  pub message_made : (values : List Value) → fields_of (sorts_of fields) text ≡ Some values → message_with plan text number ≡ Some (record { kind = number; fields = values })
  message_made values is = opens ∙ ap (made number) is

  pub message_fails : (fault : LineFault) → Fails fault (fields_of (sorts_of fields) text) → Fails fault (message_with plan text number)
  message_fails NoLine is = opens ∙ ap (made number) is
  message_fails NoMemory is = tt

-- What a body asks of the messages of its match: each variable has a recorded message and a value of its type.
use Rattle.std.specs.Prelude.{ℕ, ◌<◌, ◌≤◌, List, length}
use Rattle.std.specs.List.{AllByRecursion}
use Rattle.join_base.specs.declared.message.Message.{Message}
use Rattle.script_types.specs.declared.plan.Statement.{Statement}
use Rattle.script_types.specs.declared.plan.Statement.TheVariants as statement
use Rattle.pattern_core.specs.Choice.{slots_of}
use Rattle.fair_semantics.specs.Ready.{ItemReady, OperandReady}

-- a print of at most 16 such items, a post of at most 8 such operands to one of so many actors, or a reply to one of
-- the numbers that are taken
abbrev pub StatementReady : ℕ → List Message → List ℕ → Statement → Type 0
StatementReady actors messages taken (statement.Print items) = AllByRecursion (ItemReady messages (slots_of taken)) items × (length items ≤ 16)
StatementReady actors messages taken (statement.Post target kind operands) = (target < actors) × AllByRecursion (OperandReady messages (slots_of taken)) operands × (length operands ≤ 8)
StatementReady actors messages taken statement.Stop = Unit {0}
StatementReady actors messages taken (statement.Reply pattern operand) = (pattern < length taken) × OperandReady messages (slots_of taken) operand

-- at most 16 such statements
pub record BodyReady (actors : ℕ) (messages : List Message) (taken : List ℕ) (body : List Statement) : Type 0 where
  pub few : length body ≤ 16
  pub each : AllByRecursion (StatementReady actors messages taken) body

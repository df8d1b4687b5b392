-- A run that fits a plan: what its types allow and a log of it, in its version, can say.
use Rattle.std.specs.Prelude.{◌≡◌, ℕ, ◌+◌, ◌-◌, ◌^◌, ◌<◌, ◌≤◌, List, Bool, length, map, true, false, IfSome, FitsSigned}
use Rattle.std.specs.Int.{w64}
use Rattle.std.specs.List.{AllByRecursion, list_any}
use Rattle.std.specs.List.Sorted.{IsStrictlyIncreasing}
use Rattle.join_base.specs.Text.{IsText}
use Rattle.join_base.specs.Stamps.{greatest_stamp}
use Rattle.join_base.specs.declared.message.Value.{Value}
use Rattle.join_base.specs.declared.message.Value.TheVariants.{Int, Words}
use Rattle.join_base.specs.declared.message.Message.{Message}
use Rattle.join_base.specs.declared.message.Source.{Source}
use Rattle.join_base.specs.declared.message.Source.TheVariants.{Feed, Actor}
use Rattle.guard_eval.specs.declared.term.Leaf.{Leaf}
use Rattle.guard_eval.specs.declared.term.Leaf.TheVariants as leaf
use Rattle.guard_eval.specs.declared.term.Signed.{Signed}
use Rattle.guard_eval.specs.declared.term.WordsLeaf.{WordsLeaf}
use Rattle.guard_eval.specs.declared.term.WordsLeaf.TheVariants as words
use Rattle.guard_eval.specs.declared.term.Operand.{Operand}
use Rattle.guard_eval.specs.declared.term.Operand.TheVariants as operand
use Rattle.script_types.specs.declared.plan.Item.{Item}
use Rattle.script_types.specs.declared.plan.Item.TheVariants as item
use Rattle.script_types.specs.declared.plan.Statement.{Statement}
use Rattle.script_types.specs.declared.plan.Statement.TheVariants as statement
use Rattle.script_types.specs.declared.plan.Rule.{Rule}
use Rattle.script_types.specs.declared.plan.ActorPlan.{ActorPlan}
use Rattle.script_types.specs.declared.plan.Plan.{Plan}
use Rattle.fair_semantics.specs.declared.run.Effect.{Effect}
use Rattle.fair_semantics.specs.declared.run.Effect.TheVariants as effect
use Rattle.fair_semantics.specs.declared.run.Firing.{Firing}
use Rattle.fair_semantics.specs.declared.run.Entry.{Entry}
use Rattle.fair_semantics.specs.declared.run.ActorRun.{ActorRun}
use Rattle.fair_semantics.specs.declared.run.Run.{Run}
use Rattle.fair_semantics.specs.Step.{fits}
use Rattle.script_types.specs.Typed.{kind_types}

-- a 64-bit integer, or UTF-8 of at most 120 bytes
abbrev pub ValueFits : Value → Type 0
ValueFits (Int n) = FitsSigned w64 n
ValueFits (Words bytes) = IsText 120 bytes

pub record MessageFits (plan : Plan) (message : Message) : Type 0 where
  pub kind : fits (kind_types plan.kinds) message ≡ true
  pub values : AllByRecursion ValueFits message.fields

-- a message for an actor of the plan
pub record PostFits (plan : Plan) (post : ℕ × Message) : Type 0 where
  pub actor : post.0 < length plan.actors
  pub message : MessageFits plan post.1

abbrev pub SourceFits : Plan → ℕ → Source → Type 0
SourceFits plan feeds (Feed k) = (1 ≤ k) × (k ≤ feeds)
SourceFits plan feeds (Actor a) = a < length plan.actors

-- a log of version 1 has no replies
abbrev pub EffectFits : Plan → ℕ → Effect → Type 0
EffectFits plan version (effect.Print line) = IsText 1920 line
EffectFits plan version (effect.Post target message) = (target < length plan.actors) × MessageFits plan message
EffectFits plan version (effect.Reply number value) = (version ≡ 2) × (number < 2 ^ 32) × ValueFits value

pub record FiringFits (plan : Plan) (version : ℕ) (firing : Firing) : Type 0 where
  pub rule : firing.rule < 2 ^ 32
  pub some : 1 ≤ length firing.taken
  pub few : length firing.taken ≤ 8
  pub numbers : AllByRecursion (λ n. n < 2 ^ 32) firing.taken
  pub effects : AllByRecursion (EffectFits plan version) firing.effects

-- no stamps in version 1, and in version 2 one from 1 on
pub record StampFits (version : ℕ) (stamp : ℕ) : Type 0 where
  pub first : version ≡ 1 → stamp ≡ 0
  pub second : version ≡ 2 → (1 ≤ stamp) × (stamp ≤ greatest_stamp)

pub record EntryFits (plan : Plan) (version feeds : ℕ) (entry : Entry) : Type 0 where
  pub number : entry.number < 2 ^ 32
  pub source : SourceFits plan feeds entry.source
  pub message : MessageFits plan entry.message
  pub stamp : StampFits version entry.stamp
  pub firing : IfSome entry.firing (FiringFits plan version)

-- a rule whose fixed texts are texts, and whose numbers are of 64 bits
abbrev pub WordsFit : WordsLeaf → Type 0
WordsFit (words.Fixed bytes) = IsText 120 bytes
WordsFit (words.Field place) = Unit {0}

abbrev pub LeafFits : Leaf → Type 0
LeafFits (leaf.Number n) = FitsSigned w64 n
LeafFits (leaf.Field place) = Unit {0}

pub record TermFits (leaves : List Signed) : Type 0 where
  pub few : length leaves ≤ 64
  pub each : AllByRecursion (λ (signed : Signed). LeafFits signed.leaf) leaves

abbrev pub ItemFits : Item → Type 0
ItemFits (item.Words leaf) = WordsFit leaf
ItemFits (item.Plain place) = Unit {0}
ItemFits (item.Sum term) = TermFits term

abbrev pub OperandFits : Operand → Type 0
OperandFits (operand.Sum term) = Unit {0}
OperandFits (operand.Words leaf) = WordsFit leaf

abbrev pub StatementFits : Statement → Type 0
StatementFits (statement.Print items) = AllByRecursion ItemFits items
StatementFits (statement.Post target kind operands) = AllByRecursion OperandFits operands
StatementFits statement.Stop = Unit {0}
StatementFits (statement.Reply pattern operand) = OperandFits operand

abbrev pub RuleFits : Rule → Type 0
RuleFits rule = AllByRecursion StatementFits rule.body

-- where a source stands among all: the feeds first
abbrev pub source_place : ℕ → Source → ℕ
source_place feeds (Feed k) = k - 1
source_place feeds (Actor a) = feeds + a

pub record LateFits (plan : Plan) (feeds : ℕ) (late : Source × ℕ) : Type 0 where
  pub source : SourceFits plan feeds late.0
  pub above_zero : 0 < late.1
  pub small : late.1 < 2 ^ 64

pub record ActorRunFits (plan : Plan) (version feeds : ℕ) (run : ActorRun) : Type 0 where
  pub entries : AllByRecursion (EntryFits plan version feeds) run.entries
  pub late : AllByRecursion (LateFits plan feeds) run.late
  pub in_order : IsStrictlyIncreasing (map (λ (l : Source × ℕ). source_place feeds l.0) run.late)
  pub left : AllByRecursion (λ n. n < 2 ^ 32) run.left
  pub partials : run.partials < 2 ^ 64

abbrev pub IsFrom1To : ℕ → ℕ → Type 0
IsFrom1To most n = (1 ≤ n) × (n ≤ most)

abbrev pub is_reply : Statement → Bool
is_reply (statement.Print items) = false
is_reply (statement.Post target kind operands) = false
is_reply statement.Stop = false
is_reply (statement.Reply pattern operand) = true

abbrev pub rule_replies : Rule → Bool
rule_replies rule = list_any is_reply rule.body

abbrev pub actor_replies : ActorPlan → Bool
actor_replies actor = list_any rule_replies actor.rules

-- some body of the plan has a reply
abbrev pub has_reply : Plan → Bool
has_reply plan = list_any actor_replies plan.actors

-- version 1 has no stamps and no replies, and version 2 may have both
pub record RunFits (plan : Plan) (run : Run) : Type 0 where
  pub version : IsFrom1To 2 run.version
  pub replies : has_reply plan ≡ true → run.version ≡ 2
  pub arrivals : IsFrom1To 1000000 run.limits.arrivals
  pub partials : IsFrom1To 1000000 run.limits.partials
  pub feeds : IsFrom1To 16 run.feeds
  pub actors : length run.actors ≡ length plan.actors
  pub each : AllByRecursion (ActorRunFits plan run.version run.feeds) run.actors

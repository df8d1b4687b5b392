-- A plan is well typed: each number names something, each place has the type that is wanted there, nothing is too many, and names are
-- names that differ.
use Rattle.std.specs.Prelude.{◌≡◌, ℕ, ◌+◌, ◌<◌, ◌≤◌, ◌==◌, List, [], ◌∷◌, Option, None, Some, length, map, slice_get}
use Rattle.std.specs.List.{AllByRecursion, IsDistinct, filter_map, sum_by}
use Rattle.std.specs.Option.{option_and_then, option_map}
use Rattle.join_base.specs.declared.message.Relation.{Relation}
use Rattle.join_base.specs.declared.message.Relation.TheVariants as relation
use Rattle.join_base.specs.declared.message.Sort.{Sort}
use Rattle.join_base.specs.declared.message.Sort.TheVariants as sort
use Rattle.guard_eval.specs.Condition.{Condition, Never, Compares, Negated, Grouped, Either}
use Rattle.guard_eval.specs.declared.term.Place.{Place}
use Rattle.guard_eval.specs.declared.term.Leaf.{Leaf}
use Rattle.guard_eval.specs.declared.term.Leaf.TheVariants as leaf
use Rattle.guard_eval.specs.declared.term.Signed.{Signed}
use Rattle.guard_eval.specs.declared.term.Operand.{Operand}
use Rattle.guard_eval.specs.declared.term.Operand.TheVariants as operand
use Rattle.guard_eval.specs.declared.term.WordsLeaf.{WordsLeaf}
use Rattle.guard_eval.specs.declared.term.WordsLeaf.TheVariants as words
use Rattle.script_types.specs.declared.plan.Kind.{Kind}
use Rattle.script_types.specs.declared.plan.Item.{Item}
use Rattle.script_types.specs.declared.plan.Item.TheVariants as item
use Rattle.script_types.specs.declared.plan.Statement.{Statement}
use Rattle.script_types.specs.declared.plan.Statement.TheVariants as statement
use Rattle.script_types.specs.declared.plan.Rule.{Rule}
use Rattle.script_types.specs.declared.plan.ActorPlan.{ActorPlan}
use Rattle.script_types.specs.declared.plan.Plan.{Plan}
use Rattle.script_types.specs.Names.{AreOwnNames, actor_names, field_names, kind_names}

-- the types of the fields of each kind
abbrev pub Sorts : Type 0
Sorts = List (List Sort)

abbrev pub field_types : Kind → List Sort
field_types kind = map (λ (field : List ℕ × Sort). field.1) kind.fields

abbrev pub kind_types : List Kind → Sorts
kind_types kinds = map field_types kinds

-- the type at a place: that of the field of the kind that the pattern takes
abbrev pub type_at : Sorts → List ℕ → Place → Option Sort
type_at sorts patterns place = option_and_then (λ types. slice_get types place.field) (option_and_then (slice_get sorts) (slice_get patterns place.pattern))

abbrev pub HasType : Sorts → List ℕ → Sort → Place → Type 0
HasType sorts patterns type place = type_at sorts patterns place ≡ Some type

-- ---- terms, operands and conditions

-- a number, or an integer field
abbrev pub IsTypedLeaf : Sorts → List ℕ → Leaf → Type 0
IsTypedLeaf sorts patterns (leaf.Number number) = Unit
IsTypedLeaf sorts patterns (leaf.Field place) = HasType sorts patterns sort.Int place

pub record IsTypedTerm (sorts : Sorts) (patterns : List ℕ) (leaves : List Signed) : Type 0 where
  pub some : 1 ≤ length leaves
  pub few : length leaves ≤ 64
  pub each : AllByRecursion (λ (signed : Signed). IsTypedLeaf sorts patterns signed.leaf) leaves

-- a fixed text, or a text field
abbrev pub IsTypedText : Sorts → List ℕ → WordsLeaf → Type 0
IsTypedText sorts patterns (words.Fixed text) = Unit
IsTypedText sorts patterns (words.Field place) = HasType sorts patterns sort.Words place

abbrev pub IsTypedOperand : Sorts → List ℕ → Operand → Type 0
IsTypedOperand sorts patterns (operand.Sum leaves) = IsTypedTerm sorts patterns leaves
IsTypedOperand sorts patterns (operand.Words text) = IsTypedText sorts patterns text

abbrev pub type_of : Operand → Sort
type_of (operand.Sum leaves) = sort.Int
type_of (operand.Words text) = sort.Words

-- integers are compared by every relation, and texts by `==` and `!=`
abbrev pub MayCompare : Sort → Relation → Type 0
MayCompare sort.Int given = Unit
MayCompare sort.Words relation.Equal = Unit
MayCompare sort.Words relation.NotEqual = Unit
MayCompare sort.Words _ = ⊥

pub record IsTypedComparison (sorts : Sorts) (patterns : List ℕ) (left : Operand) (given : Relation) (right : Operand) : Type 0 where
  pub left_typed : IsTypedOperand sorts patterns left
  pub right_typed : IsTypedOperand sorts patterns right
  pub one_type : type_of left ≡ type_of right
  pub may_compare : MayCompare (type_of left) given

abbrev pub IsTypedCondition : Sorts → List ℕ → Condition → Type 0
IsTypedCondition sorts patterns Never = Unit
IsTypedCondition sorts patterns (Compares left given right) = IsTypedComparison sorts patterns left given right
IsTypedCondition sorts patterns (Negated inner) = IsTypedCondition sorts patterns inner
IsTypedCondition sorts patterns (Grouped inner) = IsTypedCondition sorts patterns inner
IsTypedCondition sorts patterns (Either atom rest) = IsTypedCondition sorts patterns atom × IsTypedCondition sorts patterns rest

-- how many comparisons a condition makes
abbrev pub comparison_count : Condition → ℕ
comparison_count Never = 0
comparison_count (Compares left given right) = 1
comparison_count (Negated inner) = comparison_count inner
comparison_count (Grouped inner) = comparison_count inner
comparison_count (Either atom rest) = comparison_count atom + comparison_count rest

-- a guard makes at most 64 comparisons
abbrev pub ComparesFew : List Condition → Type 0
ComparesFew conjuncts = sum_by comparison_count conjuncts ≤ 64

-- ---- bodies

abbrev pub IsTypedItem : Sorts → List ℕ → Item → Type 0
IsTypedItem sorts patterns (item.Words text) = IsTypedText sorts patterns text
IsTypedItem sorts patterns (item.Plain place) = HasType sorts patterns sort.Int place
IsTypedItem sorts patterns (item.Sum leaves) = IsTypedTerm sorts patterns leaves

pub record IsTypedPrint (sorts : Sorts) (patterns : List ℕ) (items : List Item) : Type 0 where
  pub some : 1 ≤ length items
  pub few : length items ≤ 16
  pub each : AllByRecursion (IsTypedItem sorts patterns) items

-- the operands have the types of the fields of the kind, and are as many
pub record IsTypedPost (actors : ℕ) (sorts : Sorts) (patterns : List ℕ) (target kind : ℕ) (operands : List Operand) : Type 0 where
  pub to_actor : target < actors
  pub of_kind : slice_get sorts kind ≡ Some (map type_of operands)
  pub each : AllByRecursion (IsTypedOperand sorts patterns) operands

abbrev pub IsTypedStatement : ℕ → Sorts → List ℕ → Statement → Type 0
IsTypedStatement actors sorts patterns (statement.Print items) = IsTypedPrint sorts patterns items
IsTypedStatement actors sorts patterns (statement.Post target kind operands) = IsTypedPost actors sorts patterns target kind operands
IsTypedStatement actors sorts patterns statement.Stop = Unit
IsTypedStatement actors sorts patterns (statement.Reply pattern operand) = (pattern < length patterns) × IsTypedOperand sorts patterns operand

abbrev pub IsNoStop : Statement → Type 0
IsNoStop (statement.Print items) = Unit
IsNoStop (statement.Post target kind operands) = Unit
IsNoStop statement.Stop = ⊥
IsNoStop (statement.Reply pattern operand) = Unit

-- a stop stands nowhere but last
abbrev pub StopsLast : List Statement → Type 0
StopsLast [] = Unit
StopsLast (last ∷ []) = Unit
StopsLast (first ∷ next ∷ others) = IsNoStop first × StopsLast (next ∷ others)

-- the pattern whose message is replied to
abbrev pub replied_by : Statement → Option ℕ
replied_by (statement.Print items) = None
replied_by (statement.Post target kind operands) = None
replied_by statement.Stop = None
replied_by (statement.Reply pattern operand) = Some pattern

-- no message is replied to twice
abbrev pub ReplyOnce : List Statement → Type 0
ReplyOnce body = IsDistinct (λ a b. a == b) (filter_map replied_by body)

-- ---- rules, actors and the plan

-- a pattern has a variable for each field of its kind, and its kind is one of the plan's
abbrev pub TakesFields : Sorts → ℕ → List (Option (List ℕ)) → Type 0
TakesFields sorts kind variables = option_map length (slice_get sorts kind) ≡ Some (length variables)

-- a pattern for each row of variables
abbrev pub TakeFields : Sorts → List ℕ → List (List (Option (List ℕ))) → Type 0
TakeFields sorts [] [] = Unit
TakeFields sorts (kind ∷ kinds) (variables ∷ rows) = TakesFields sorts kind variables × TakeFields sorts kinds rows
TakeFields sorts _ _ = ⊥

abbrev pub IsTypedWindow : Option ℕ → Type 0
IsTypedWindow None = Unit
IsTypedWindow (Some window) = (1 ≤ window) × (window ≤ 1000000)

pub record IsTypedRule (actors : ℕ) (sorts : Sorts) (rule : Rule) : Type 0 where
  pub some_patterns : 1 ≤ length rule.definition.patterns
  pub few_patterns : length rule.definition.patterns ≤ 8
  pub variables : TakeFields sorts rule.definition.patterns rule.variables
  pub window : IsTypedWindow rule.definition.window
  pub guard : AllByRecursion (IsTypedCondition sorts rule.definition.patterns) rule.definition.conjuncts
  pub few_statements : length rule.body ≤ 16
  pub body : AllByRecursion (IsTypedStatement actors sorts rule.definition.patterns) rule.body
  pub stop_last : StopsLast rule.body
  pub reply_once : ReplyOnce rule.body

pub record IsTypedActor (actors : ℕ) (sorts : Sorts) (actor : ActorPlan) : Type 0 where
  pub few : length actor.rules ≤ 16
  pub few_comparisons : AllByRecursion (λ (rule : Rule). ComparesFew rule.definition.conjuncts) actor.rules
  pub each : AllByRecursion (IsTypedRule actors sorts) actor.rules

abbrev pub IsTypedKind : Kind → Type 0
IsTypedKind kind = length kind.fields ≤ 8

pub record IsTyped (plan : Plan) : Type 0 where
  pub few_kinds : length plan.kinds ≤ 64
  pub some_actors : 1 ≤ length plan.actors
  pub few_actors : length plan.actors ≤ 32
  pub kind_names : AreOwnNames (kind_names plan.kinds)
  pub actor_names : AreOwnNames (actor_names plan.actors)
  pub field_names : AllByRecursion (λ (kind : Kind). AreOwnNames (field_names kind)) plan.kinds
  pub kinds : AllByRecursion IsTypedKind plan.kinds
  pub actors : AllByRecursion (IsTypedActor (length plan.actors) (kind_types plan.kinds)) plan.actors

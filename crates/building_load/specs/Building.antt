-- The building that `load` runs: four halls with the same rules, and a desk that they post to.
use Rattle.std.specs.Prelude.{ℕ, List, [], ◌∷◌, true, false, codes, pos, Option, None, Some, map}
use Rattle.join_base.specs.declared.message.Relation.{Relation}
use Rattle.join_base.specs.declared.message.Relation.TheVariants.{Equal, Less, LessEqual}
use Rattle.join_base.specs.declared.message.Sort.{Sort}
use Rattle.join_base.specs.declared.message.Sort.TheVariants as sort
use Rattle.guard_eval.specs.Condition.{Condition, Never, Compares, Either}
use Rattle.guard_eval.specs.declared.term.Place.{Place}
use Rattle.guard_eval.specs.declared.term.Leaf.TheVariants as leaf
use Rattle.guard_eval.specs.declared.term.Signed.{Signed}
use Rattle.guard_eval.specs.declared.term.Operand.TheVariants as operand
use Rattle.guard_eval.specs.declared.term.WordsLeaf.TheVariants as words
use Rattle.pattern_core.specs.declared.definition.Definition.{Definition}
use Rattle.script_types.specs.declared.plan.Kind.{Kind}
use Rattle.script_types.specs.declared.plan.Item.TheVariants as item
use Rattle.script_types.specs.declared.plan.Statement.{Statement}
use Rattle.script_types.specs.declared.plan.Statement.TheVariants as statement
use Rattle.script_types.specs.declared.plan.Rule.{Rule}
use Rattle.script_types.specs.declared.plan.ActorPlan.{ActorPlan}
use Rattle.script_types.specs.declared.plan.Plan.{Plan}

-- ---- the kinds of message

-- a field of integers
abbrev pub int_field : List ℕ → (List ℕ × Sort)
int_field name = (name, sort.Int)

abbrev pub sighting_fields : List (List ℕ × Sort)
sighting_fields = int_field (codes "room") ∷ int_field (codes "t") ∷ []

-- `message NAME(room: int, t: int)`
abbrev pub sighting : List ℕ → Kind
sighting name = record { name = name; fields = sighting_fields }

abbrev pub light_kind : Kind
light_kind = record { name = codes "light"; fields = int_field (codes "room") ∷ int_field (codes "lux") ∷ int_field (codes "t") ∷ [] }

abbrev pub report_fields : List (List ℕ × Sort)
report_fields = int_field (codes "room") ∷ []

-- `message NAME(room: int)`
abbrev pub report : List ℕ → Kind
report name = record { name = name; fields = report_fields }

abbrev pub kinds : List Kind
kinds = sighting (codes "motion") ∷ light_kind ∷ sighting (codes "contact") ∷ report (codes "on") ∷ report (codes "alarm") ∷ []

-- their numbers
abbrev pub motion : ℕ
motion = 0

abbrev pub light : ℕ
light = 1

abbrev pub contact : ℕ
contact = 2

abbrev pub on : ℕ
on = 3

abbrev pub alarm : ℕ
alarm = 4

-- ---- guards

abbrev pub place_at : ℕ → ℕ → Place
place_at pattern field = record { pattern = pattern; field = field }

abbrev pub plus : Place → Signed
plus place = record { minus = false; leaf = leaf.Field place }

abbrev pub minus : Place → Signed
minus place = record { minus = true; leaf = leaf.Field place }

abbrev pub number : ℕ → Signed
number n = record { minus = false; leaf = leaf.Number (pos n) }

abbrev pub compared : List Signed → Relation → List Signed → Condition
compared left relation right = Either (Compares (operand.Sum left) relation (operand.Sum right)) Never

-- the one is at most 60 more than the other
abbrev pub within_a_minute : Place → Place → Condition
within_a_minute one other = compared (plus one ∷ minus other ∷ []) LessEqual (number 60 ∷ [])

-- ---- a hall, where each message begins with its room

abbrev pub room : ℕ → Place
room pattern = place_at pattern 0

abbrev pub same_room : Condition
same_room = compared (plus (room 0) ∷ []) Equal (plus (room 1) ∷ [])

-- the light is below 40
abbrev pub is_dim : Condition
is_dim = compared (plus (place_at 1 1) ∷ []) Less (number 40 ∷ [])

abbrev pub variables : List (List ℕ) → List (Option (List ℕ))
variables names = map (λ name. Some name) names

abbrev pub motion_variables : List (Option (List ℕ))
motion_variables = variables (codes "r1" ∷ codes "t1" ∷ [])

abbrev pub light_variables : List (Option (List ℕ))
light_variables = variables (codes "r2" ∷ codes "lux" ∷ codes "t2" ∷ [])

abbrev pub contact_variables : List (Option (List ℕ))
contact_variables = variables (codes "r2" ∷ codes "t2" ∷ [])

-- the motion's variables, in front of those of the other pattern
abbrev pub with_motion : List (Option (List ℕ)) → List (List (Option (List ℕ)))
with_motion others = motion_variables ∷ others ∷ []

-- `post desk KIND(r1);`
abbrev pub tell_desk : ℕ → Statement
tell_desk kind = statement.Post 4 kind (operand.Sum (plus (room 0) ∷ []) ∷ [])

-- a definition of a motion, and a message of another kind
abbrev pub motion_and : ℕ → List Condition → Definition
motion_and kind conjuncts = record { patterns = motion ∷ kind ∷ []; conjuncts = conjuncts; window = None }

-- `when motion(r1, t1) & light(r2, lux, t2) if r1 == r2 && lux < 40 && t2 - t1 <= 60 && t1 - t2 <= 60`
abbrev pub light_rule : Rule
light_rule = record {
  definition = motion_and light (same_room
      ∷ is_dim
      ∷ within_a_minute (place_at 1 2) (place_at 0 1)
      ∷ within_a_minute (place_at 0 1) (place_at 1 2)
      ∷ []);
  variables = with_motion light_variables;
  body = tell_desk on ∷ [];
}

-- `when motion(r1, t1) & contact(r2, t2) if r1 == r2 && t2 - t1 <= 60 && t1 - t2 <= 60`
abbrev pub contact_rule : Rule
contact_rule = record {
  definition = motion_and contact (same_room ∷ within_a_minute (place_at 1 1) (place_at 0 1) ∷ within_a_minute (place_at 0 1) (place_at 1 1) ∷ []);
  variables = with_motion contact_variables;
  body = tell_desk alarm ∷ [];
}

abbrev pub hall_rules : List Rule
hall_rules = light_rule ∷ contact_rule ∷ []

abbrev pub hall : List ℕ → ActorPlan
hall name = record { name = name; rules = hall_rules }

-- ---- the desk

-- the variables of `KIND(r)`
abbrev pub print_variables : List (List (Option (List ℕ)))
print_variables = variables (codes "r" ∷ []) ∷ []

-- `print "TEXT" r;`
abbrev pub print_body : List ℕ → List Statement
print_body text = statement.Print (item.Words (words.Fixed text) ∷ item.Plain (room 0) ∷ []) ∷ []

-- `when KIND(r) { print "TEXT" r; }`
abbrev pub print_rule : ℕ → List ℕ → Rule
print_rule kind text = record {
  definition = record { patterns = kind ∷ []; conjuncts = []; window = None };
  variables = print_variables;
  body = print_body text;
}

abbrev pub on_rule : Rule
on_rule = print_rule on (codes "light on in ")

abbrev pub alarm_rule : Rule
alarm_rule = print_rule alarm (codes "alarm in ")

abbrev pub desk : ActorPlan
desk = record { name = codes "desk"; rules = on_rule ∷ alarm_rule ∷ [] }

-- ---- the whole plan: the desk is the fifth actor

abbrev pub load_plan : Plan
load_plan = record { kinds = kinds; actors = hall (codes "hall1") ∷ hall (codes "hall2") ∷ hall (codes "hall3") ∷ hall (codes "hall4") ∷ desk ∷ [] }

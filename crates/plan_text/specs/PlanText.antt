-- The text of a plan. Each line ends with LF.
use Rattle.std.specs.Prelude.{ℕ, ◌+◌, List, [], ◌∷◌, ◌++◌, Option, None, Some, codes}
use Rattle.std.specs.List.{flat_map, join_by}
use Rattle.std.specs.Fmt.{decimal}
use Rattle.join_base.specs.declared.message.Sort.{Sort}
use Rattle.script_types.specs.declared.plan.Plan.{Plan}
use Rattle.script_types.specs.declared.plan.Kind.{Kind}
use Rattle.script_types.specs.declared.plan.ActorPlan.{ActorPlan}
use Rattle.script_types.specs.declared.plan.Rule.{Rule}
use Rattle.script_types.specs.declared.plan.Item.{Item}
use Rattle.script_types.specs.declared.plan.Item.TheVariants as item
use Rattle.script_types.specs.declared.plan.Statement.{Statement}
use Rattle.script_types.specs.declared.plan.Statement.TheVariants.{Print, Post, Stop, Reply}
use Rattle.plan_text.specs.PlanNames.{Row, Variables, sort_name, variable_name}
use Rattle.script_types.specs.Names.{name_of_actor, name_of_kind}
use Rattle.plan_text.specs.GuardText.{guard_text, operand_text, term_text, words_text}

-- the end of a line, LF
abbrev pub line_end : List ℕ
line_end = 10 ∷ []

-- `F: T`
abbrev pub field_text : (List ℕ × Sort) → List ℕ
field_text field = field.0 ++ (codes ": " ++ sort_name field.1)

-- `message NAME(F: T, F: T)`
abbrev pub kind_line : Kind → List ℕ
kind_line kind = codes "message " ++ (kind.name ++ (codes "(" ++ (join_by field_text (codes ", ") kind.fields ++ (codes ")" ++ line_end))))

-- a variable's name, or `_` for the blank
abbrev pub variable_text : Option (List ℕ) → List ℕ
variable_text None = codes "_"
variable_text (Some name) = name

-- `NAME(V, V)`
abbrev pub pattern_text : Plan → (ℕ × Row) → List ℕ
pattern_text plan pattern = name_of_kind plan pattern.0 ++ (codes "(" ++ (join_by variable_text (codes ", ") pattern.1 ++ codes ")"))

-- the kind of each pattern with its variables, of which a pattern behind the last row has none
abbrev pub patterns_of : List ℕ → Variables → List (ℕ × Row)
patterns_of [] rows = []
patterns_of (kind ∷ kinds) [] = (kind, []) ∷ patterns_of kinds []
patterns_of (kind ∷ kinds) (row ∷ rows) = (kind, row) ∷ patterns_of kinds rows

-- a quoted form, a variable's name, or a sum in parentheses
abbrev pub item_text : Variables → Item → List ℕ
item_text variables (item.Words leaf) = words_text variables leaf
item_text variables (item.Plain place) = variable_name variables place
item_text variables (item.Sum leaves) = codes "(" ++ (term_text variables leaves ++ codes ")")

-- `print ITEM ITEM;`, `post A K(O, O);`, `stop;` or `reply N O;`, where patterns count from 1
abbrev pub statement_text : Plan → Variables → Statement → List ℕ
statement_text plan variables (Print items) = codes "print " ++ (join_by (item_text variables) (codes " ") items ++ codes ";")
statement_text plan variables (Post target kind operands) =
    codes "post " ++ (name_of_actor plan target ++ (codes " " ++ (name_of_kind plan kind ++ (codes "(" ++ (join_by (operand_text variables) (codes ", ") operands ++ codes ");")))))
statement_text plan variables Stop = codes "stop;"
statement_text plan variables (Reply pattern operand) = codes "reply " ++ (decimal (pattern + 1) ++ (codes " " ++ (operand_text variables operand ++ codes ";")))

abbrev pub statement_line : Plan → Variables → Statement → List ℕ
statement_line plan variables statement = codes "    " ++ (statement_text plan variables statement ++ line_end)

-- nothing, or ` within N`
abbrev pub window_text : Option ℕ → List ℕ
window_text None = []
window_text (Some number) = codes " within " ++ decimal number

-- `when PATTERN & PATTERN within N if GUARD {`
abbrev pub when_line : Plan → Rule → List ℕ
when_line plan rule =
    codes "  when "
    ++ (join_by (pattern_text plan) (codes " & ") (patterns_of rule.definition.patterns rule.variables)
    ++ (window_text rule.definition.window ++ (guard_text rule.variables rule.definition.conjuncts ++ (codes " {" ++ line_end))))

-- a definition, its statements, and `}`
abbrev pub rule_lines : Plan → Rule → List ℕ
rule_lines plan rule = when_line plan rule ++ (flat_map (statement_line plan rule.variables) rule.body ++ (codes "  }" ++ line_end))

-- `actor NAME {`
abbrev pub actor_begin : List ℕ → List ℕ
actor_begin name = codes "actor " ++ (name ++ (codes " {" ++ line_end))

-- `}`
abbrev pub actor_end : List ℕ
actor_end = codes "}" ++ line_end

-- an actor's first line, its definitions, and its last line
abbrev pub actor_lines : Plan → ActorPlan → List ℕ
actor_lines plan actor = actor_begin actor.name ++ (flat_map (rule_lines plan) actor.rules ++ actor_end)

-- the messages and then the actors, in order
abbrev pub plan_text : Plan → List ℕ
plan_text plan = flat_map kind_line plan.kinds ++ flat_map (actor_lines plan) plan.actors

-- Which definitions of a plan can never fire, and which kinds no other definition takes.
use Rattle.std.specs.Prelude.{ℕ, ◌+◌, List, [], ◌∷◌, ◌++◌, Bool, true, false, not, ◌&&◌, ◌||◌, nat_lt, nat_le, Option, Some, None, length, if◌then◌else◌}
use Rattle.std.specs.Option.{option_and_then, option_map}
use Rattle.std.specs.List.{list_all, list_any}
use Rattle.std.specs.Str.{bytes_eq}
use Rattle.join_base.specs.Taken.{contains_number}
use Rattle.join_base.specs.declared.message.Relation.TheVariants.{Equal}
use Rattle.guard_eval.specs.Condition.{Condition, Compares}
use Rattle.guard_eval.specs.Meaning.{has_some, is_true, needs_of}
use Rattle.guard_eval.specs.declared.term.Place.{Place}
use Rattle.guard_eval.specs.declared.term.WordsLeaf.{WordsLeaf}
use Rattle.guard_eval.specs.declared.term.WordsLeaf.TheVariants as words
use Rattle.guard_eval.specs.declared.term.Operand.TheVariants as operand
use Rattle.pattern_core.specs.declared.definition.Definition.{Definition}
use Rattle.script_types.specs.declared.plan.Kind.{Kind}
use Rattle.script_types.specs.declared.plan.Rule.{Rule}
use Rattle.script_types.specs.declared.plan.ActorPlan.{ActorPlan}
use Rattle.script_types.specs.declared.plan.Plan.{Plan}
use Rattle.script_lint.specs.declared.bounds.Bound.{Bound}
use Rattle.script_lint.specs.declared.finding.Finding.{Finding}
use Rattle.script_lint.specs.declared.finding.Finding.TheVariants.{Dead, Narrow, Shadowed, Idle}
use Rattle.script_lint.specs.Bounds.{bound_of, holds_throughout, interval_of, is_empty, is_same_place, only_atom}
use Rattle.script_lint.specs.Same.{is_same}

-- ---- dead: the guard is never true

-- a conjunct without a variable has one truth
abbrev pub is_constant : Condition → Bool
is_constant conjunct = not (has_some (needs_of conjunct))

abbrev pub is_always_false : Condition → Bool
is_always_false conjunct = is_constant conjunct && not (is_true [] [] conjunct)

abbrev pub is_always_true : Condition → Bool
is_always_true conjunct = is_constant conjunct && is_true [] [] conjunct

-- a text place and the fixed text that it must equal
abbrev pub Fixing : Type 0
Fixing = Place × List ℕ

abbrev pub fixing_by : WordsLeaf → WordsLeaf → Option Fixing
fixing_by (words.Field place) (words.Fixed text) = Some (place, text)
fixing_by (words.Fixed text) (words.Field place) = Some (place, text)
fixing_by _ _ = None

abbrev pub fixing_of_atom : Condition → Option Fixing
fixing_of_atom (Compares (operand.Words left) Equal (operand.Words right)) = fixing_by left right
fixing_of_atom _ = None

-- of a conjunct that is one atom, `==` between a text place and a fixed text
abbrev pub fixing_of : Condition → Option Fixing
fixing_of conjunct = option_and_then fixing_of_atom (only_atom conjunct)

-- another text for the same place
abbrev pub fixes_otherwise : Fixing → Option Fixing → Bool
fixes_otherwise fixing None = false
fixes_otherwise fixing (Some other) = is_same_place fixing.0 other.0 && not (bytes_eq fixing.1 other.1)

-- one of the conjuncts fixes the place to another text
abbrev pub is_contradicted : List Condition → Option Fixing → Bool
is_contradicted conjuncts None = false
is_contradicted conjuncts (Some fixing) = list_any (λ other. fixes_otherwise fixing (fixing_of other)) conjuncts

-- the conjuncts leave no integer for the place
abbrev pub is_emptied : List Condition → Option Bound → Bool
is_emptied conjuncts None = false
is_emptied conjuncts (Some bound) = is_empty (interval_of conjuncts bound.place)

-- beside the conjuncts this one is never true
abbrev pub is_excluded : List Condition → Condition → Bool
is_excluded conjuncts conjunct = is_always_false conjunct || (is_emptied conjuncts (bound_of conjunct) || is_contradicted conjuncts (fixing_of conjunct))

abbrev pub is_dead : Definition → Bool
is_dead definition = list_any (is_excluded definition.conjuncts) definition.conjuncts

-- ---- narrow: the window is smaller than the number of patterns

abbrev pub is_less_than : Option ℕ → ℕ → Bool
is_less_than None patterns = false
is_less_than (Some window) patterns = nat_lt window patterns

abbrev pub is_narrow : Definition → Bool
is_narrow definition = is_less_than definition.window (length definition.patterns)

-- ---- shadowed: an earlier definition takes each match first

-- no window, or one at least as large
abbrev pub sees_as_much : Option ℕ → Option ℕ → Bool
sees_as_much None window = true
sees_as_much (Some earlier) None = false
sees_as_much (Some earlier) (Some window) = nat_le window earlier

abbrev pub is_kept_within : List Condition → Option Bound → Bool
is_kept_within conjuncts None = false
is_kept_within conjuncts (Some bound) = holds_throughout (interval_of conjuncts bound.place) bound.relation bound.number

-- where the conjuncts are true this one is: it is one of them, or a bound that holds on the whole interval, or always
-- true
abbrev pub is_implied : List Condition → Condition → Bool
is_implied conjuncts conjunct = list_any (is_same conjunct) conjuncts || (is_kept_within conjuncts (bound_of conjunct) || is_always_true conjunct)

-- equal lists of numbers
abbrev pub numbers_eq : List ℕ → List ℕ → Bool
numbers_eq = bytes_eq

abbrev pub shadows : Definition → Definition → Bool
shadows earlier definition =
    numbers_eq earlier.patterns definition.patterns && (sees_as_much earlier.window definition.window && list_all (is_implied definition.conjuncts) earlier.conjuncts)

-- the number of the first of the rules that shadows the definition, where the first has the number from
abbrev pub first_shadow : ℕ → List Rule → Definition → Option ℕ
first_shadow from [] definition = None
first_shadow from (rule ∷ rules) definition = if shadows rule.definition definition then Some from else first_shadow (from + 1) rules definition

-- ---- the findings

-- the finding of a definition behind the earlier ones of its actor: at most one, the first that applies
abbrev pub finding_of : ℕ → List Rule → Definition → Option Finding
finding_of actor earlier definition =
    if is_dead definition then Some (Dead actor (length earlier + 1))
    else if is_narrow definition then Some (Narrow actor (length earlier + 1))
    else option_map (Shadowed actor (length earlier + 1)) (first_shadow 1 earlier definition)

abbrev pub listed : {X : Type 0} → Option X → List X
listed None = []
listed (Some x) = x ∷ []

-- the findings of the rules that stand behind the earlier ones of an actor
abbrev pub findings_behind : ℕ → List Rule → List Rule → List Finding
findings_behind actor earlier [] = []
findings_behind actor earlier (rule ∷ rules) = listed (finding_of actor earlier rule.definition) ++ findings_behind actor (earlier ++ rule ∷ []) rules

-- those of the actors, of which the first has the number from
abbrev pub findings_from : ℕ → List ActorPlan → List Finding
findings_from from [] = []
findings_from from (actor ∷ actors) = findings_behind from [] actor.rules ++ findings_from (from + 1) actors

-- the kinds that a definition takes, and none where it has a finding
abbrev pub kinds_of : Option Finding → Definition → List ℕ
kinds_of None definition = definition.patterns
kinds_of (Some finding) definition = []

abbrev pub kinds_behind : ℕ → List Rule → List Rule → List ℕ
kinds_behind actor earlier [] = []
kinds_behind actor earlier (rule ∷ rules) = kinds_of (finding_of actor earlier rule.definition) rule.definition ++ kinds_behind actor (earlier ++ rule ∷ []) rules

-- the kinds that the definitions without a finding take
abbrev pub kinds_from : ℕ → List ActorPlan → List ℕ
kinds_from from [] = []
kinds_from from (actor ∷ actors) = kinds_behind from [] actor.rules ++ kinds_from (from + 1) actors

-- the kinds that are not taken, of which the first has the number from
abbrev pub idle_from : List ℕ → ℕ → List Kind → List Finding
idle_from taken from [] = []
idle_from taken from (kind ∷ kinds) = (if contains_number taken from then [] else Idle from ∷ []) ++ idle_from taken (from + 1) kinds

-- all findings: of the definitions in order of actors and rules, and then the idle kinds in order
abbrev pub findings : Plan → List Finding
findings plan = findings_from 0 plan.actors ++ idle_from (kinds_from 0 plan.actors) 0 plan.kinds

-- The name that stands at the number or the place of a name is that name.
use Rattle.std.proofs.Common.{◌≡◌, ◌∙◌, ℕ, zero, suc, ◌+◌, Bool, true, false, cond, Decides, List, [], ◌∷◌, map, Option, None, Some, refl, sym, ap, arith}
use Rattle.std.specs.Prelude.{slice_get}
use Rattle.std.specs.Option.{is_none, option_and_then, option_map}
use Rattle.std.specs.List.{AllByRecursion}
use Rattle.std.specs.Str.{bytes_eq}
use Rattle.std.proofs.lemmas.Option.{slice_get-map}
use Rattle.std.proofs.lemmas.Slice.Eq.{bytes_eq-Decides}
use Rattle.join_base.specs.declared.message.Sort.{Sort}
use Rattle.script_grammar.specs.declared.tree.Spelt.{Spelt}
use Rattle.script_grammar.specs.declared.tree.ActorDecl.{ActorDecl}
use Rattle.script_grammar.specs.declared.tree.MessageDecl.{MessageDecl}
use Rattle.script_grammar.specs.declared.tree.PatternDecl.{PatternDecl}
use Rattle.script_grammar.specs.declared.tree.RuleDecl.{RuleDecl}
use Rattle.script_grammar.specs.declared.tree.Tree.{Tree}
use Rattle.script_names.specs.declared.scope.Slot.{Slot}
use Rattle.script_names.specs.Names.{item_of, names_of, number_of}
use Rattle.script_names.specs.Scope.{Variable, actor_number, actor_rows, message_number, message_rows, sort_at, sorts_of, variable_at, variables_from, variables_in, variables_of}
use Rattle.script_grammar.specs.declared.fault.ScriptCause.TheVariants.{UnknownActor}
use Rattle.script_faults.specs.First.{fault_if}
use Rattle.script_faults.specs.Faults.{count_faults, fields_of, name_faults}
use Rattle.script_plan.specs.PlanOf.{actor_of, kind_number, kind_of, names_in, or_zero, place_of, plan_of, slot_place, target_number}
use Rattle.script_plan.proofs.SmallLemmas.{each_append}
use Rattle.script_check.proofs.SmallLemmas.{at_number, each_one}
use Rattle.plan_text.specs.PlanNames.{Row, Variables, name_or_empty, row_of, variable_name}
use Rattle.script_types.specs.Names.{actor_name, kind_name, name_of_actor, name_of_kind}

-- ---- the name at the number of a name

-- where a name has a number, it stands there
number_found : (name : List ℕ) (names : List (List ℕ)) (n : ℕ) → number_of name names ≡ Some n → slice_get names n ≡ Some name
number_found name [] n is = absurd cc
number_found name (first ∷ others) n is = by-test (bytes_eq name first) (bytes_eq-Decides name first) (number_of name others) n (number_found name others) is
  where
    by-test : (b : Bool) → Decides b (name ≡ first) → (found : Option ℕ) (n : ℕ) → ((m : ℕ) → found ≡ Some m → slice_get others m ≡ Some name)
        → cond b (Some 0) (option_map (λ (number : ℕ). number + 1) found) ≡ Some n → slice_get (first ∷ others) n ≡ Some name
    by-test true same found zero later e = ap (λ (l : List ℕ). Some l) (sym (same.0 refl))
    by-test true same found (suc n) later e = absurd cc
    by-test false same None n later e = absurd cc
    by-test false same (Some m) zero later e = let numbers : m + 1 ≡ 0 = cc in absurd (omega arith)
    by-test false same (Some m) (suc n) later e = let numbers : m + 1 ≡ suc n = cc in let is : m ≡ n = omega arith in later n (ap (λ (k : ℕ). Some k) is)

-- a name among those of the messages, or of the actors, is that of the plan's kind, or actor, of its number
kind_at : (messages : List MessageDecl) (n : ℕ) (name : List ℕ) → slice_get (names_of (message_rows messages)) n ≡ Some name → kind_name (slice_get (map kind_of messages) n) ≡ name
kind_at [] n name is = absurd cc
kind_at (m ∷ ms) zero name is = cc
kind_at (m ∷ ms) (suc n) name is = kind_at ms n name is

actor_at : (tree : Tree) (actors : List ActorDecl) (n : ℕ) (name : List ℕ) → slice_get (names_of (actor_rows actors)) n ≡ Some name → actor_name (slice_get (map (actor_of tree) actors) n) ≡ name
actor_at tree [] n name is = absurd cc
actor_at tree (a ∷ as') zero name is = cc
actor_at tree (a ∷ as') (suc n) name is = actor_at tree as' n name is

kind_found : (tree : Tree) (kind : Spelt) (count : ℕ) (number : Option ℕ) → message_number tree.messages kind.name ≡ number
    → count_faults (option_map (λ (m : MessageDecl). m.fields) (option_and_then (slice_get tree.messages) number)) kind count ≡ [] → name_of_kind (plan_of tree) (or_zero number) ≡ kind.name
kind_found tree kind count None is none = absurd cc
kind_found tree kind count (Some n) is none = kind_at tree.messages n kind.name (number_found kind.name (names_of (message_rows tree.messages)) n is)

-- a kind that is known
pub kind_named : (tree : Tree) (kind : Spelt) (count : ℕ) → count_faults (fields_of tree.messages kind.name) kind count ≡ [] → name_of_kind (plan_of tree) (kind_number tree kind.name) ≡ kind.name
kind_named tree kind count none = kind_found tree kind count (message_number tree.messages kind.name) refl none

actor_found : (tree : Tree) (target : Spelt) (number : Option ℕ) → actor_number tree.actors target.name ≡ number → fault_if (is_none number) UnknownActor target.place ≡ []
    → name_of_actor (plan_of tree) (or_zero number) ≡ target.name
actor_found tree target None is none = absurd cc
actor_found tree target (Some n) is none = actor_at tree tree.actors n target.name (number_found target.name (names_of (actor_rows tree.actors)) n is)

-- an actor that is known
pub actor_named : (tree : Tree) (target : Spelt) → fault_if (is_none (number_of target.name (names_of (actor_rows tree.actors)))) UnknownActor target.place ≡ []
    → name_of_actor (plan_of tree) (target_number tree target.name) ≡ target.name
actor_named tree target none = actor_found tree target (actor_number tree.actors target.name) refl none

-- ---- the name at the place of a variable

-- the variable's name stands in the row of its pattern, at its field; the rows are numbered from the offset on
pub record StandsIn (rows : Variables) (offset : ℕ) (v : Variable) : Type 0 where
  pub index : ℕ
  pub pattern_is : v.1.pattern ≡ offset + index
  pub name_is : name_or_empty (slice_get (row_of rows index) v.1.field) ≡ v.0

-- the same in a row whose fields are numbered from the offset on
record StandsAt (row : Row) (pattern offset : ℕ) (v : Variable) : Type 0 where
  index : ℕ
  pattern_is : v.1.pattern ≡ pattern
  field_is : v.1.field ≡ offset + index
  name_is : name_or_empty (slice_get row index) ≡ v.0

abbrev variable_names : List (ℕ × Option (List ℕ)) → Row
variable_names vs = map (λ (variable : ℕ × Option (List ℕ)). variable.1) vs

-- the variable of a field, and the blank, which declares none
one_stands : (row : Row) (place pattern field : ℕ) (s : Sort) (name : Option (List ℕ)) → AllByRecursion (StandsAt (name ∷ row) pattern field) (variable_at (record { place = place; pattern = pattern; field = field; sort = s }) name)
one_stands row place pattern field s None = tt
one_stands row place pattern field s (Some name) = (record { index = 0; pattern_is = refl; field_is = omega arith; name_is = refl }, tt)

later_field : (row : Row) (name : Option (List ℕ)) (pattern field : ℕ) (v : Variable) → StandsAt row pattern (field + 1) v → StandsAt (name ∷ row) pattern field v
later_field row name pattern field v h = record { index = suc h.index; pattern_is = h.pattern_is; field_is = omega (arith, h.field_is); name_is = h.name_is }

-- each variable of a pattern stands in its row
all_stand_at : (pattern : ℕ) (sorts : List Sort) (field : ℕ) (vs : List (ℕ × Option (List ℕ))) → AllByRecursion (StandsAt (variable_names vs) pattern field) (variables_in pattern sorts field vs)
all_stand_at pattern sorts field [] = tt
all_stand_at pattern sorts field (v ∷ vs) =
    let row = variable_names vs in
    let further = variables_in pattern sorts (field + 1) vs in
    each_append (StandsAt (v.1 ∷ row) pattern field) (variable_at (record { place = v.0; pattern = pattern; field = field; sort = sort_at sorts field }) v.1) further
    (one_stands row v.0 pattern field (sort_at sorts field) v.1)
    (each_one (StandsAt row pattern (field + 1)) (StandsAt (v.1 ∷ row) pattern field) (later_field row v.1 pattern field) further (all_stand_at pattern sorts (field + 1) vs))

first_row : (row : Row) (rows : Variables) (offset : ℕ) (v : Variable) → StandsAt row offset 0 v → StandsIn (row ∷ rows) offset v
first_row row rows offset v h =
    let field : v.1.field ≡ h.index = omega (arith, h.field_is) in
    record { index = 0; pattern_is = omega (arith, h.pattern_is); name_is = ap (λ (k : ℕ). name_or_empty (slice_get row k)) field ∙ h.name_is }

later_row : (row : Row) (rows : Variables) (offset : ℕ) (v : Variable) → StandsIn rows (offset + 1) v → StandsIn (row ∷ rows) offset v
later_row row rows offset v h = record { index = suc h.index; pattern_is = omega (arith, h.pattern_is); name_is = h.name_is }

-- each variable of the patterns stands in their rows
all_stand : (messages : List MessageDecl) (offset : ℕ) (patterns : List PatternDecl) → AllByRecursion (StandsIn (map names_in patterns) offset) (variables_from messages offset patterns)
all_stand messages offset [] = tt
all_stand messages offset (p ∷ ps) =
    let rows = map names_in ps in
    let here = variables_in offset (sorts_of messages p.kind.name) 0 p.variables in
    let further = variables_from messages (offset + 1) ps in
    each_append (StandsIn (names_in p ∷ rows) offset) here further
    (each_one (StandsAt (names_in p) offset 0) (StandsIn (names_in p ∷ rows) offset) (first_row (names_in p) rows offset) here (all_stand_at offset (sorts_of messages p.kind.name) 0 p.variables))
    (each_one (StandsIn rows (offset + 1)) (StandsIn (names_in p ∷ rows) offset) (later_row (names_in p) rows offset) further (all_stand messages (offset + 1) ps))

-- ---- the variable of a name

-- where a name has a variable, it is one of the list, with that name
record HasVariable (variables : List Variable) (name : List ℕ) (slot : Slot) : Type 0 where
  number : ℕ
  variable : Variable
  at : slice_get variables number ≡ Some variable
  name_is : variable.0 ≡ name
  slot_is : variable.1 ≡ slot

variable_of : (variables : List Variable) (name : List ℕ) (slot : Slot) (number : Option ℕ) (found : Option Variable) → number_of name (names_of variables) ≡ number
    → option_and_then (slice_get variables) number ≡ found → option_map (λ (v : Variable). v.1) found ≡ Some slot → HasVariable variables name slot
variable_of variables name slot None None number_is found_is is = absurd cc
variable_of variables name slot None (Some v) number_is found_is is = absurd cc
variable_of variables name slot (Some n) None number_is found_is is = absurd cc
variable_of variables name slot (Some n) (Some v) number_is found_is is =
    let stands : option_map (λ (v : Variable). v.0) (slice_get variables n) ≡ Some name = sym (slice_get-map (λ (v : Variable). v.0) variables n) ∙ number_found name (names_of variables) n number_is in
    let at : Path (Option (List ℕ)) (Some v.0) (Some name) = sym (ap (option_map (λ (v : Variable). v.0)) found_is) ∙ stands in
    record { number = n; variable = v; at = found_is; name_is = cc; slot_is = cc }

-- the rows name the variables
pub record Names (rows : Variables) (variables : List Variable) : Type 0 where
  pub named : (name : List ℕ) (slot : Slot) → item_of name variables ≡ Some slot → variable_name rows (slot_place (Some slot)) ≡ name

named_by : (rows : Variables) (variables : List Variable) → AllByRecursion (StandsIn rows 0) variables → (name : List ℕ) (slot : Slot) → item_of name variables ≡ Some slot → variable_name rows (slot_place (Some slot)) ≡ name
named_by rows variables each name slot is =
    let h = variable_of variables name slot (number_of name (names_of variables)) (option_and_then (slice_get variables) (number_of name (names_of variables))) refl refl is in
    let stands = at_number (StandsIn rows 0) variables h.number h.variable each h.at in
    let index : h.variable.1.pattern ≡ stands.index = omega (arith, stands.pattern_is) in
    ap (λ (s : Slot). name_or_empty (slice_get (row_of rows s.pattern) s.field)) (sym h.slot_is)
    ∙ ap (λ (k : ℕ). name_or_empty (slice_get (row_of rows k) h.variable.1.field)) index ∙ stands.name_is ∙ h.name_is

-- the rows of a definition name its variables
pub rows_name : (messages : List MessageDecl) (rule : RuleDecl) → Names (map names_in rule.patterns) (variables_of messages rule)
rows_name messages rule = record { named = named_by (map names_in rule.patterns) (variables_of messages rule) (all_stand messages 0 rule.patterns) }

known : (rows : Variables) (variables : List Variable) → Names rows variables → (alone : Bool) (place : ℕ) (name : List ℕ) (found : Option Slot) → item_of name variables ≡ found → name_faults alone place found ≡ []
    → variable_name rows (slot_place found) ≡ name
known rows variables h alone place name None is none = absurd cc
known rows variables h alone place name (Some slot) is none = h.named name slot is

-- a variable that is known
pub variable_named : (rows : Variables) (variables : List Variable) → Names rows variables → (alone : Bool) (place : ℕ) (name : List ℕ) → name_faults alone place (item_of name variables) ≡ []
    → variable_name rows (place_of variables name) ≡ name
variable_named rows variables h alone place name none = known rows variables h alone place name (item_of name variables) refl none

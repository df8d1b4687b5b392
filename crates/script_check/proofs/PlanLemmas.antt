-- The plan of a filled tree without faults is well typed.
use Rattle.std.proofs.Common.{◌≡◌, ◌∙◌, ℕ, ℤ, zero, suc, ◌+◌, ◌-◌, ◌<◌, List, [], ◌∷◌, ◌++◌, length, map, drop, take, Option, None, Some, refl, sym, ap, subst, arith}
use Rattle.std.specs.Prelude.{eqb, slice_get, IfSome}
use Rattle.std.specs.Option.{is_none, option_and_then, option_map}
use Rattle.std.specs.List.{AllByRecursion, flat_map}
use Rattle.std.proofs.lemmas.List.{length-map}
use Rattle.join_base.specs.declared.message.Sort.{Sort}
use Rattle.script_grammar.specs.Filled.{OperandFilled, ItemFilled, StatementFilled, RuleFilled, ActorFilled, IsFilled}
use Rattle.script_grammar.specs.declared.tree.Spelt.{Spelt}
use Rattle.script_grammar.specs.declared.tree.FieldDecl.{FieldDecl}
use Rattle.script_grammar.specs.declared.tree.MessageDecl.{MessageDecl}
use Rattle.script_grammar.specs.declared.tree.PatternDecl.{PatternDecl}
use Rattle.script_grammar.specs.declared.operand.OperandDecl.{OperandDecl}
use Rattle.script_grammar.specs.declared.tree.ItemDecl.{ItemDecl}
use Rattle.script_grammar.specs.declared.tree.StatementDecl.{StatementDecl}
use Rattle.script_grammar.specs.declared.tree.StatementDecl.TheVariants as s
use Rattle.script_grammar.specs.declared.tree.RuleDecl.{RuleDecl}
use Rattle.script_grammar.specs.declared.tree.ActorDecl.{ActorDecl}
use Rattle.script_grammar.specs.declared.tree.Tree.{Tree}
use Rattle.script_names.specs.declared.scope.Slot.{Slot}
use Rattle.script_names.specs.Names.{names_of, number_of}
use Rattle.script_names.specs.Scope.{Variable, actor_rows, field_rows, field_sorts, message_number, message_of, message_rows, operand_sort, sorts_in, sorts_of, variables_of}
use Rattle.script_names.proofs.NameLemmas.{number_within}
use Rattle.script_grammar.specs.declared.fault.ScriptCause.TheVariants.{UnknownActor}
use Rattle.script_faults.specs.First.{fault_if, too_many}
use Rattle.script_faults.specs.Faults.{Comparing, actor_faults, body_faults, comparison_faults, count_faults, faults_of, fields_of, fields_or_none, guard_comparisons, guard_faults, item_faults, item_place, message_faults, operand_faults, operand_place, own_place, pattern_faults, patterns_faults, post_faults, reply_faults, rule_faults, statement_faults, statement_place, stop_fault, stop_faults, twice_declared, type_faults, window_faults, wrong_type}
use Rattle.script_plan.specs.PlanOf.{actor_of, field_of, kind_of, kind_number, names_in, operand_of, or_zero, pattern_of, plan_of, print_item, rule_of, statement_of, target_number, window_of}
use Rattle.script_types.specs.declared.plan.Kind.{Kind}
use Rattle.script_types.specs.declared.plan.Rule.{Rule}
use Rattle.script_types.specs.Names.{AreNames, AreOwnNames, HasNames, field_names}
use Rattle.script_types.specs.Typed.{ComparesFew, IsNoStop, IsTyped, IsTypedActor, IsTypedItem, IsTypedKind, IsTypedOperand, IsTypedPost, IsTypedRule, IsTypedStatement, IsTypedWindow, StopsLast, TakeFields, TakesFields, type_of}
use Rattle.script_check.proofs.NumberLemmas.{left_none, right_none, NumberFits, numbers_fit, replies_once, window_fits}
use Rattle.script_check.proofs.CountLemmas.{count_guard}
use Rattle.script_check.proofs.NameLemmas.{own_actors, own_fields, own_kinds}
use Rattle.script_check.proofs.SmallLemmas.{each_none, each_one, few, right_count, small_fields}
use Rattle.script_check.proofs.VariableLemmas.{HasFields, all_fields, field_types-of, sorts_by}
use Rattle.script_check.proofs.TypedLemmas.{AreFields, operand_type, same_of, typed_guard, typed_item, typed_operand}

-- ---- the kind of a pattern or a post

-- a kind without a fault of its count: its fields, at its number
pub record IsKind (tree : Tree) (name : List ℕ) (count : ℕ) : Type 0 where
  pub message : MessageDecl
  pub fields_are : fields_of tree.messages name ≡ Some message.fields
  pub sorts_are : sorts_of tree.messages name ≡ field_sorts message.fields
  pub kind_is : slice_get (sorts_by tree.messages) (kind_number tree name) ≡ Some (field_sorts message.fields)
  pub count_is : length message.fields ≡ count

kind_sorts : (messages : List MessageDecl) (number : ℕ) (m : MessageDecl) → slice_get messages number ≡ Some m → slice_get (sorts_by messages) number ≡ Some (field_sorts m.fields)
kind_sorts [] number m is = absurd cc
kind_sorts (x ∷ xs) zero m is = let same : x ≡ m = cc in ap (λ (types : List Sort). Some types) (field_types-of x.fields) ∙ ap (λ (y : MessageDecl). Some (field_sorts y.fields)) same
kind_sorts (x ∷ xs) (suc number) m is = kind_sorts xs number m is

kind_right : (tree : Tree) (name : List ℕ) (kind : Spelt) (count : ℕ) (number : Option ℕ) (found : Option MessageDecl) → message_number tree.messages name ≡ number
    → option_and_then (slice_get tree.messages) number ≡ found → count_faults (option_map (λ (m : MessageDecl). m.fields) found) kind count ≡ [] → IsKind tree name count
kind_right tree name kind count number None number_is found_is none = absurd cc
kind_right tree name kind count None (Some m) number_is found_is none = absurd cc
kind_right tree name kind count (Some n) (Some m) number_is found_is none =
    let here : message_of tree.messages name ≡ Some m = ap (option_and_then (slice_get tree.messages)) number_is ∙ found_is in
    record {
      message = m;
      fields_are = ap (option_map (λ (m : MessageDecl). m.fields)) here;
      sorts_are = ap sorts_in here;
      kind_is = ap (λ (k : Option ℕ). slice_get (sorts_by tree.messages) (or_zero k)) number_is ∙ kind_sorts tree.messages n m found_is;
      count_is = right_count (length m.fields) count kind.place (eqb (length m.fields) count) refl none;
    }

kind_of_name : (tree : Tree) (kind : Spelt) (count : ℕ) → count_faults (fields_of tree.messages kind.name) kind count ≡ [] → IsKind tree kind.name count
kind_of_name tree kind count none = kind_right tree kind.name kind count (message_number tree.messages kind.name) (message_of tree.messages kind.name) refl refl none

-- ---- patterns

has_fields : (tree : Tree) (p : PatternDecl) → pattern_faults tree.messages p ≡ [] → HasFields tree.messages p
has_fields tree p none =
    let k = kind_of_name tree p.kind (length p.variables) none in
    let sorts = ap length k.sorts_are ∙ length-map k.message.fields (λ (f : FieldDecl). f.sort) in
    omega (arith, sorts, k.count_is)

takes_fields : (tree : Tree) (p : PatternDecl) → pattern_faults tree.messages p ≡ [] → TakesFields (sorts_by tree.messages) (pattern_of tree p) (names_in p)
takes_fields tree p none =
    let k = kind_of_name tree p.kind (length p.variables) none in
    ap (option_map length) k.kind_is ∙ ap (λ (n : ℕ). Some n) (length-map k.message.fields (λ (f : FieldDecl). f.sort) ∙ k.count_is ∙ sym (length-map p.variables (λ (v : ℕ × Option (List ℕ)). v.1)))

take_fields : (tree : Tree) (patterns : List PatternDecl) → AllByRecursion (λ (p : PatternDecl). pattern_faults tree.messages p ≡ []) patterns
    → TakeFields (sorts_by tree.messages) (map (pattern_of tree) patterns) (map names_in patterns)
take_fields tree [] each = tt
take_fields tree (p ∷ patterns) each = (takes_fields tree p each.0, take_fields tree patterns each.1)

-- ---- posts

target_within : (rows : List (List ℕ)) (name : List ℕ) (place count : ℕ) (found : Option ℕ) → number_of name rows ≡ found → length rows ≡ count
    → fault_if (is_none found) UnknownActor place ≡ [] → or_zero found < count
target_within rows name place count None is count_is none = absurd cc
target_within rows name place count (Some n) is count_is none =
    let within : n < length rows = subst (λ (o : Option ℕ). IfSome o (λ k. k < length rows)) is (number_within name rows) in
    omega (arith, within, count_is)

drop_at : (fields : List FieldDecl) (number : ℕ) (f : FieldDecl) → slice_get fields number ≡ Some f → drop number fields ≡ f ∷ drop (number + 1) fields
drop_at [] number f is = absurd cc
drop_at (x ∷ xs) zero f is = let same : x ≡ f = cc in ap (λ (y : FieldDecl). y ∷ xs) same
drop_at (x ∷ xs) (suc number) f is = let next : suc (number + 1) ≡ suc number + 1 = omega arith in drop_at xs number f is ∙ ap (λ (n : ℕ). f ∷ drop n (x ∷ xs)) next

drop_all : (fields : List FieldDecl) (number : ℕ) → number ≡ length fields → drop number fields ≡ []
drop_all [] zero is = refl
drop_all [] (suc number) is = refl
drop_all (x ∷ xs) zero is = absurd (omega (arith, is))
drop_all (x ∷ xs) (suc number) is = drop_all xs number (omega (arith, is))

field_there : (fields : List FieldDecl) (number : ℕ) → number < length fields → (f : FieldDecl) × (slice_get fields number ≡ Some f)
field_there [] number within = absurd (omega (arith, within))
field_there (x ∷ xs) zero within = (x, refl)
field_there (x ∷ xs) (suc number) within = field_there xs number (omega (arith, within))

operand_types : (vs : List Variable) (fields : List FieldDecl) (number : ℕ) (os : List OperandDecl) → number + length os ≡ length fields → type_faults vs fields number os ≡ []
    → field_sorts (drop number fields) ≡ map type_of (map (operand_of vs) os)
operand_types vs fields number [] count none = ap field_sorts (drop_all fields number (omega (arith, count)))
operand_types vs fields number (x ∷ os) count none =
    let there = field_there fields number (omega (arith, count)) in
    let f = there.0 in
    let first = wrong_type vs (slice_get fields number) x in
    let right : wrong_type vs (Some f) x ≡ [] = sym (ap (λ (found : Option FieldDecl). wrong_type vs found x) there.1) ∙ left_none first (type_faults vs fields (number + 1) os) none in
    let one : f.sort ≡ type_of (operand_of vs x) = same_of f.sort (operand_sort vs x) (operand_place x) right ∙ sym (operand_type vs x) in
    let others = operand_types vs fields (number + 1) os (omega (arith, count)) (right_none first (type_faults vs fields (number + 1) os) none) in
    ap field_sorts (drop_at fields number f there.1) ∙ ap (λ (s : Sort). s ∷ field_sorts (drop (number + 1) fields)) one ∙ ap (λ (ss : List Sort). type_of (operand_of vs x) ∷ ss) others

module _ (tree : Tree) (rule : RuleDecl) (fields : AreFields tree rule) where
  abbrev vars : List Variable
  vars = variables_of tree.messages rule

  post_typed : (place : ℕ) (target kind : Spelt) (operands : List OperandDecl) → AllByRecursion OperandFilled operands → post_faults tree.messages (actor_rows tree.actors) (variables_of tree.messages rule) target kind operands ≡ []
      → IsTypedPost (length tree.actors) (sorts_by tree.messages) (map (pattern_of tree) rule.patterns) (target_number tree target.name) (kind_number tree kind.name) (map (operand_of (variables_of tree.messages rule)) operands)
  post_typed place target kind operands filled none =
      let vs = variables_of tree.messages rule in
      let rows = names_of (actor_rows tree.actors) in
      let a = fault_if (is_none (number_of target.name rows)) UnknownActor target.place in
      let b = count_faults (fields_of tree.messages kind.name) kind (length operands) in
      let c = type_faults vs (fields_or_none (fields_of tree.messages kind.name)) 0 operands in
      let d = flat_map (operand_faults vs) operands in
      let three = left_none (a ++ b ++ c) d none in
      let two = left_none (a ++ b) c three in
      let k = kind_of_name tree kind (length operands) (right_none a b two) in
      let types : type_faults vs k.message.fields 0 operands ≡ [] = sym (ap (λ (fs : Option (List FieldDecl)). type_faults vs (fields_or_none fs) 0 operands) k.fields_are) ∙ right_none (a ++ b) c three in
      let count = length-map (actor_rows tree.actors) (λ (row : List ℕ × ℕ). row.0) ∙ length-map tree.actors (λ (actor : ActorDecl). (actor.name.name, actor.name.place)) in
      record {
        to_actor = target_within rows target.name target.place (length tree.actors) (number_of target.name rows) refl count (left_none a b two);
        of_kind = k.kind_is ∙ ap (λ (ss : List Sort). Some ss) (operand_types vs k.message.fields 0 operands (omega (arith, k.count_is)) types);
        each = each_mapped operands filled (each_none (operand_faults vs) operands (right_none (a ++ b ++ c) d none));
      }
    where
      each_mapped : (os : List OperandDecl) → AllByRecursion OperandFilled os → AllByRecursion (λ (x : OperandDecl). operand_faults (variables_of tree.messages rule) x ≡ []) os
          → AllByRecursion (IsTypedOperand (sorts_by tree.messages) (map (pattern_of tree) rule.patterns)) (map (operand_of (variables_of tree.messages rule)) os)
      each_mapped [] fs ns = tt
      each_mapped (x ∷ os) fs ns = (typed_operand tree rule fields x fs.0 ns.0, each_mapped os fs.1 ns.1)

  items_typed : (items : List ItemDecl) → AllByRecursion ItemFilled items → AllByRecursion (λ (x : ItemDecl). item_faults (variables_of tree.messages rule) x ≡ []) items
      → AllByRecursion (IsTypedItem (sorts_by tree.messages) (map (pattern_of tree) rule.patterns)) (map (print_item (variables_of tree.messages rule)) items)
  items_typed [] fs ns = tt
  items_typed (x ∷ items) fs ns = (typed_item tree rule fields x fs.0 ns.0, items_typed items fs.1 ns.1)

  statement_typed : (x : StatementDecl) → StatementFilled x → statement_faults tree.messages (actor_rows tree.actors) (variables_of tree.messages rule) x ≡ [] → NumberFits (length rule.patterns) x
      → IsTypedStatement (length tree.actors) (sorts_by tree.messages) (map (pattern_of tree) rule.patterns) (statement_of tree (variables_of tree.messages rule) x)
  statement_typed (s.Print place items) filled none fits =
      let vs = variables_of tree.messages rule in
      let many = too_many 16 item_place items in
      let count = length-map items (print_item vs) in
      record {
        some = omega (arith, count, filled.0);
        few = omega (arith, count, few 16 item_place items (left_none many (flat_map (item_faults vs) items) none));
        each = items_typed items filled.1 (each_none (item_faults vs) items (right_none many (flat_map (item_faults vs) items) none));
      }
  statement_typed (s.Post place target kind operands) filled none fits = post_typed place target kind operands filled none
  statement_typed (s.Stop place) filled none fits = tt
  statement_typed (s.Reply place number_place number operand) filled none fits =
      let count = length-map rule.patterns (pattern_of tree) in (omega (arith, count, fits.0, fits.1), typed_operand tree rule fields operand filled none)

  body_typed : (body : List StatementDecl) → AllByRecursion StatementFilled body → AllByRecursion (λ (x : StatementDecl). statement_faults tree.messages (actor_rows tree.actors) (variables_of tree.messages rule) x ≡ []) body
      → AllByRecursion (NumberFits (length rule.patterns)) body
      → AllByRecursion (IsTypedStatement (length tree.actors) (sorts_by tree.messages) (map (pattern_of tree) rule.patterns)) (map (statement_of tree (variables_of tree.messages rule)) body)
  body_typed [] fs ns numbers = tt
  body_typed (x ∷ body) fs ns numbers = (statement_typed x fs.0 ns.0 numbers.0, body_typed body fs.1 ns.1 numbers.1)

-- ---- stops

no_stop : (tree : Tree) (vs : List Variable) (x : StatementDecl) → stop_fault x ≡ [] → IsNoStop (statement_of tree vs x)
no_stop tree vs (s.Print place items) none = tt
no_stop tree vs (s.Post place target kind operands) none = tt
no_stop tree vs (s.Stop place) none = absurd cc
no_stop tree vs (s.Reply place number_place number operand) none = tt

stops_among : (tree : Tree) (vs : List Variable) (x : StatementDecl) (body : List StatementDecl) → flat_map stop_fault (take (length body) (x ∷ body)) ≡ [] → StopsLast (map (statement_of tree vs) (x ∷ body))
stops_among tree vs x [] none = tt
stops_among tree vs x (next ∷ more) none =
    let first = stop_fault x in
    let others = flat_map stop_fault (take (length more) (next ∷ more)) in
    (no_stop tree vs x (left_none first others none), stops_among tree vs next more (right_none first others none))

stops_last : (tree : Tree) (vs : List Variable) (body : List StatementDecl) → stop_faults body ≡ [] → StopsLast (map (statement_of tree vs) body)
stops_last tree vs [] none = tt
stops_last tree vs (x ∷ body) none =
    let count : length (x ∷ body) - 1 ≡ length body = omega arith in
    stops_among tree vs x body (subst (λ (n : ℕ). flat_map stop_fault (take n (x ∷ body)) ≡ []) count none)

-- ---- windows

window_typed : (window : Option (ℕ × ℤ)) → window_faults window ≡ [] → IsTypedWindow (window_of window)
window_typed None none = tt
window_typed (Some number) none = window_fits number none

-- ---- definitions, actors and plans

abbrev pattern_place : PatternDecl → ℕ
pattern_place p = p.kind.place

abbrev comparison_place : Comparing → ℕ
comparison_place c = operand_place c.left

abbrev slot_place_of : Slot → ℕ
slot_place_of slot = slot.place

rule_typed : (tree : Tree) (rule : RuleDecl) → RuleFilled rule → rule_faults tree.messages (actor_rows tree.actors) rule ≡ [] → IsTypedRule (length tree.actors) (sorts_by tree.messages) (rule_of tree rule)
unfolding rule_of
rule_typed tree rule filled none =
    let vs = variables_of tree.messages rule in
    let rows = actor_rows tree.actors in
    let cs = guard_comparisons rule.guard in
    let patterns = patterns_faults tree.messages rule.patterns in
    let twice = twice_declared slot_place_of vs in
    let guard = guard_faults vs cs in
    let body = body_faults tree.messages rows vs rule.body in
    let window = window_faults rule.window in
    let replies = reply_faults (length rule.patterns) [] rule.body in
    let parts = left_none (patterns ++ twice ++ guard ++ body ++ window) replies none in
    let no_reply = right_none (patterns ++ twice ++ guard ++ body ++ window) replies none in
    let four = left_none (patterns ++ twice ++ guard ++ body) window parts in
    let three = left_none (patterns ++ twice ++ guard) body four in
    let no_guard = right_none (patterns ++ twice) guard three in
    let no_pattern = left_none patterns twice (left_none (patterns ++ twice) guard three) in
    let no_body = right_none (patterns ++ twice ++ guard) body four in
    let many = too_many 8 pattern_place rule.patterns in
    let each_pattern = each_none (pattern_faults tree.messages) rule.patterns (right_none many (flat_map (pattern_faults tree.messages) rule.patterns) no_pattern) in
    let fields = all_fields tree.messages rule.patterns 0 (each_one (λ (p : PatternDecl). pattern_faults tree.messages p ≡ []) (HasFields tree.messages) (has_fields tree) rule.patterns each_pattern) in
    let statements = flat_map (statement_faults tree.messages rows vs) rule.body in
    let two = left_none (too_many 16 statement_place rule.body ++ stop_faults rule.body) statements no_body in
    let pattern_count = length-map rule.patterns (pattern_of tree) in
    let body_count = length-map rule.body (statement_of tree vs) in
    record {
      some_patterns = omega (arith, pattern_count, filled.patterns);
      few_patterns = omega (arith, pattern_count, few 8 pattern_place rule.patterns (left_none many (flat_map (pattern_faults tree.messages) rule.patterns) no_pattern));
      variables = take_fields tree rule.patterns each_pattern;
      window = window_typed rule.window (right_none (patterns ++ twice ++ guard ++ body) window parts);
      guard = typed_guard tree rule fields rule.guard filled.guard (each_none (comparison_faults vs) cs (right_none (too_many 64 (λ (c : Comparing). operand_place c.left) cs) (flat_map (comparison_faults vs) cs) no_guard));
      few_statements = omega (arith, body_count, few 16 statement_place rule.body (left_none (too_many 16 statement_place rule.body) (stop_faults rule.body) two));
      body = body_typed tree rule fields rule.body filled.body (each_none (statement_faults tree.messages rows vs) rule.body (right_none (too_many 16 statement_place rule.body ++ stop_faults rule.body) statements no_body)) (numbers_fit (length rule.patterns) [] rule.body no_reply);
      stop_last = stops_last tree vs rule.body (right_none (too_many 16 statement_place rule.body) (stop_faults rule.body) two);
      reply_once = replies_once tree vs (length rule.patterns) [] rule.body no_reply;
    }

compares_few : (tree : Tree) (rule : RuleDecl) → rule_faults tree.messages (actor_rows tree.actors) rule ≡ [] → ComparesFew (rule_of tree rule).definition.conjuncts
unfolding rule_of
compares_few tree rule none =
    let vs = variables_of tree.messages rule in
    let cs = guard_comparisons rule.guard in
    let patterns = patterns_faults tree.messages rule.patterns in
    let twice = twice_declared slot_place_of vs in
    let guard = guard_faults vs cs in
    let body = body_faults tree.messages (actor_rows tree.actors) vs rule.body in
    let window = window_faults rule.window in
    let replies = reply_faults (length rule.patterns) [] rule.body in
    let parts = left_none (patterns ++ twice ++ guard ++ body ++ window) replies none in
    let three = left_none (patterns ++ twice ++ guard) body (left_none (patterns ++ twice ++ guard ++ body) window parts) in
    let no_guard = right_none (patterns ++ twice) guard three in
    omega (arith, count_guard vs rule.guard, few 64 comparison_place cs (left_none (too_many 64 comparison_place cs) (flat_map (comparison_faults vs) cs) no_guard))

module _ (tree : Tree) where
  rules_typed : (rules : List RuleDecl) → AllByRecursion RuleFilled rules → AllByRecursion (λ (rule : RuleDecl). rule_faults tree.messages (actor_rows tree.actors) rule ≡ []) rules
      → AllByRecursion (IsTypedRule (length tree.actors) (sorts_by tree.messages)) (map (rule_of tree) rules)
  rules_typed [] fs ns = tt
  rules_typed (rule ∷ rules) fs ns = (rule_typed tree rule fs.0 ns.0, rules_typed rules fs.1 ns.1)

  compare_few : (rules : List RuleDecl) → AllByRecursion (λ (rule : RuleDecl). rule_faults tree.messages (actor_rows tree.actors) rule ≡ []) rules
      → AllByRecursion (λ (rule : Rule). ComparesFew rule.definition.conjuncts) (map (rule_of tree) rules)
  compare_few [] ns = tt
  compare_few (rule ∷ rules) ns = (compares_few tree rule ns.0, compare_few rules ns.1)

  actors_typed : (actors : List ActorDecl) → AllByRecursion ActorFilled actors → AllByRecursion (λ (actor : ActorDecl). actor_faults tree.messages (actor_rows tree.actors) actor ≡ []) actors
      → AllByRecursion (IsTypedActor (length tree.actors) (sorts_by tree.messages)) (map (actor_of tree) actors)
  actors_typed [] fs ns = tt
  actors_typed (actor ∷ actors) fs ns =
      let many = too_many 16 (λ (r : RuleDecl). r.place) actor.rules in
      let each = flat_map (rule_faults tree.messages (actor_rows tree.actors)) actor.rules in
      let count = length-map actor.rules (rule_of tree) in (
        record {
          few = omega (arith, count, few 16 (λ (r : RuleDecl). r.place) actor.rules (left_none many each ns.0));
          few_comparisons = compare_few actor.rules (each_none (rule_faults tree.messages (actor_rows tree.actors)) actor.rules (right_none many each ns.0));
          each = rules_typed actor.rules fs.0 (each_none (rule_faults tree.messages (actor_rows tree.actors)) actor.rules (right_none many each ns.0));
        },
        actors_typed actors fs.1 ns.1,
      )

kinds_typed : (messages : List MessageDecl) → AllByRecursion (λ (m : MessageDecl). message_faults m ≡ []) messages → AllByRecursion IsTypedKind (map kind_of messages)
kinds_typed [] each = tt
kinds_typed (m ∷ messages) each = (omega (arith, small_fields m each.0, length-map m.fields field_of), kinds_typed messages each.1)

fields_named : (messages : List MessageDecl) → AllByRecursion (λ (m : MessageDecl). message_faults m ≡ []) messages
    → AllByRecursion (λ (kind : Kind). AreNames (field_names kind)) (map kind_of messages) → AllByRecursion (λ (kind : Kind). AreOwnNames (field_names kind)) (map kind_of messages)
fields_named [] each names = tt
fields_named (m ∷ messages) each names =
    let many = too_many 8 (λ (f : FieldDecl). f.name.place) m.fields in
    (own_fields m (right_none many (twice_declared own_place (field_rows m.fields)) each.0) names.0, fields_named messages each.1 names.1)

pub plan_typed : (tree : Tree) → IsFilled tree → faults_of tree ≡ [] → HasNames (plan_of tree) → IsTyped (plan_of tree)
plan_typed tree filled none names =
    let rows = actor_rows tree.actors in
    let a = too_many 64 (λ (m : MessageDecl). m.name.place) tree.messages in
    let b = twice_declared own_place (message_rows tree.messages) in
    let c = flat_map message_faults tree.messages in
    let d = too_many 32 (λ (a : ActorDecl). a.name.place) tree.actors in
    let e = twice_declared own_place rows in
    let f = flat_map (actor_faults tree.messages rows) tree.actors in
    let five = left_none (a ++ b ++ c ++ d ++ e) f none in
    let four = left_none (a ++ b ++ c ++ d) e five in
    let three = left_none (a ++ b ++ c) d four in
    let no_message = each_none message_faults tree.messages (right_none (a ++ b) c three) in
    let kind_count = length-map tree.messages kind_of in
    let actor_count = length-map tree.actors (actor_of tree) in
    record {
      few_kinds = omega (arith, kind_count, few 64 (λ (m : MessageDecl). m.name.place) tree.messages (left_none a b (left_none (a ++ b) c three)));
      some_actors = omega (arith, actor_count, filled.actor);
      few_actors = omega (arith, actor_count, few 32 (λ (a : ActorDecl). a.name.place) tree.actors (right_none (a ++ b ++ c) d four));
      kind_names = own_kinds tree.messages (right_none a b (left_none (a ++ b) c three)) names.kinds;
      actor_names = own_actors tree (right_none (a ++ b ++ c ++ d) e five) names.actors;
      field_names = fields_named tree.messages no_message names.fields;
      kinds = kinds_typed tree.messages no_message;
      actors = subst (λ (n : ℕ). AllByRecursion (IsTypedActor n (sorts_by tree.messages)) (map (actor_of tree) tree.actors)) (sym actor_count)
          (actors_typed tree tree.actors filled.actors (each_none (actor_faults tree.messages rows) tree.actors (right_none (a ++ b ++ c ++ d ++ e) f none)));
    }

-- A tree without gaps and without faults is small.
use Rattle.std.proofs.Common.{◌≡◌, ℕ, zero, suc, ◌≤◌, Bool, true, false, List, [], ◌∷◌, ◌++◌, length, Option, None, Some, refl, subst, arith}
use Rattle.std.specs.Prelude.{ℤ, not, ◌&&◌, ◌==◌, slice_get, eqb}
use Rattle.std.specs.Option.{option_and_then, option_map}
use Rattle.std.specs.List.{AllByRecursion, flat_map}
use Rattle.std.proofs.lemmas.Bool.{eqb-true}
use Rattle.script_grammar.specs.Atoms.{Atom, Atoms, compares, negated, grouped, no_atoms, either}
use Rattle.script_grammar.specs.Filled.{OperandFilled, AtomFilled, AtomsFilled, ItemFilled, StatementFilled, RuleFilled, ActorFilled, IsFilled}
use Rattle.script_grammar.specs.declared.tree.Spelt.{Spelt}
use Rattle.script_grammar.specs.declared.tree.FieldDecl.{FieldDecl}
use Rattle.script_grammar.specs.declared.tree.MessageDecl.{MessageDecl}
use Rattle.script_grammar.specs.declared.tree.PatternDecl.{PatternDecl}
use Rattle.script_grammar.specs.declared.tree.LeafDecl.{LeafDecl}
use Rattle.script_grammar.specs.declared.operand.OperandDecl.{OperandDecl}
use Rattle.script_grammar.specs.Operands as o
use Rattle.script_grammar.specs.declared.tree.ItemDecl.{ItemDecl}
use Rattle.script_grammar.specs.declared.tree.ItemDecl.TheVariants as i
use Rattle.script_grammar.specs.declared.tree.StatementDecl.{StatementDecl}
use Rattle.script_grammar.specs.declared.tree.StatementDecl.TheVariants as s
use Rattle.script_grammar.specs.declared.tree.RuleDecl.{RuleDecl}
use Rattle.script_grammar.specs.declared.tree.ActorDecl.{ActorDecl}
use Rattle.script_grammar.specs.declared.tree.Tree.{Tree}
use Rattle.script_names.specs.declared.scope.Slot.{Slot}
use Rattle.script_names.specs.Scope.{Variable, actor_rows, field_rows, message_number, message_of, message_rows, variables_of}
use Rattle.script_grammar.specs.declared.fault.ScriptCause.TheVariants.{WrongCount}
use Rattle.script_faults.specs.First.{fault_if, too_many}
use Rattle.script_faults.specs.Faults.{Comparing, actor_faults, atom_comparisons, body_faults, comparison_faults, comparisons, count_faults, faults_of, guard_comparisons, guard_faults, item_faults, item_place, leaf_faults, message_faults, operand_faults, operand_place, own_place, pattern_faults, patterns_faults, reply_faults, rule_faults, statement_faults, statement_place, stop_faults, term_faults, twice_declared, window_faults}
use Rattle.script_check.proofs.NumberLemmas.{left_none, right_none, NumberFits, numbers_fit, window_fits}
use Rattle.script_plan.specs.Small.{IsSmallTerm, IsSmallOperand, IsSmallAtom, AreSmallAtoms, IsSmallItem, IsSmallStatement, IsSmallPattern, IsSmallWindow, IsSmallRule, IsSmallActor, IsSmall}
pub use Rattle.join_base.proofs.EachLemmas.{each_left, each_right, each_from as each_one}

-- ---- where a list of faults is empty, so is what each item gives

pub each_none : {X Y : Type 0} (f : X → List Y) (xs : List X) → flat_map f xs ≡ [] → AllByRecursion (λ (x : X). f x ≡ []) xs
each_none f [] is = tt
each_none f (x ∷ xs) is = (left_none (f x) (flat_map f xs) is, each_none f xs (right_none (f x) (flat_map f xs) is))

pub few : {X : Type 0} (most : ℕ) (place : X → ℕ) (xs : List X) → too_many most place xs ≡ [] → length xs ≤ most
few most place [] is = omega arith
few zero place (x ∷ xs) is = absurd cc
few (suc most) place (x ∷ xs) is = omega (arith, few most place xs is)

pub each_both : {X : Type 0} (P Q R : X → Type 0) → ((x : X) → P x → Q x → R x) → (xs : List X) → AllByRecursion P xs → AllByRecursion Q xs → AllByRecursion R xs
each_both P Q R both [] ps qs = tt
each_both P Q R both (x ∷ xs) ps qs = (both x ps.0 qs.0, each_both P Q R both xs ps.1 qs.1)

-- ---- terms and guards

module _ (variables : List Variable) where
  small_term : (bare : Bool) (leaves : List LeafDecl) → 1 ≤ length leaves → term_faults variables bare leaves ≡ [] → IsSmallTerm leaves
  small_term bare leaves filled none =
      let many = too_many 64 (λ (l : LeafDecl). l.place) leaves in
      record { some = filled; few = few 64 (λ (l : LeafDecl). l.place) leaves (left_none many (flat_map (leaf_faults variables (bare && length leaves == 1)) leaves) none) }

  small_operand : (x : OperandDecl) → OperandFilled x → operand_faults variables x ≡ [] → IsSmallOperand x
  small_operand (o.Fixed place words) filled none = tt
  small_operand (o.Sum place leaves) filled none = small_term true leaves filled none

  abbrev Right : Comparing → Type 0
  Right c = comparison_faults variables c ≡ []

  -- both operands of a comparison without a fault
  pub operands_right : (c : Comparing) → Right c → (operand_faults variables c.left ≡ []) × (operand_faults variables c.right ≡ [])
  operands_right c none =
      let left = operand_faults variables c.left in
      let right = operand_faults variables c.right in
      let operands = left_none (left ++ right) _ (left_none (left ++ right ++ _) _ none) in
      (left_none left right operands, right_none left right operands)

mutual
  small_atom : (variables : List Variable) (a : Atom) → AtomFilled a → AllByRecursion (λ (c : Comparing). comparison_faults variables c ≡ []) (atom_comparisons a) → IsSmallAtom a
  small_atom variables (compares left relation right) filled each =
      let rights = operands_right variables (record { left = left; relation = relation; right = right }) each.0 in
      (small_operand variables left filled.0 rights.0, small_operand variables right filled.1 rights.1)
  small_atom variables (negated a) filled each = small_atom variables a filled each
  small_atom variables (grouped atoms) filled each = small_atoms variables atoms filled each

  small_atoms : (variables : List Variable) (atoms : Atoms) → AtomsFilled atoms → AllByRecursion (λ (c : Comparing). comparison_faults variables c ≡ []) (comparisons atoms) → AreSmallAtoms atoms
  small_atoms variables no_atoms filled each = tt
  small_atoms variables (either a atoms) filled each =
      let P : Comparing → Type 0 = λ (c : Comparing). comparison_faults variables c ≡ [] in
      (small_atom variables a filled.0 (each_left P (atom_comparisons a) (comparisons atoms) each), small_atoms variables atoms filled.1 (each_right P (atom_comparisons a) (comparisons atoms) each))

small_guard : (variables : List Variable) (guard : List Atoms) → AllByRecursion AtomsFilled guard
    → AllByRecursion (λ (c : Comparing). comparison_faults variables c ≡ []) (guard_comparisons guard) → AllByRecursion AreSmallAtoms guard
small_guard variables [] filled each = tt
small_guard variables (atoms ∷ guard) filled each =
    let P : Comparing → Type 0 = λ (c : Comparing). comparison_faults variables c ≡ [] in
    (small_atoms variables atoms filled.0 (each_left P (comparisons atoms) (guard_comparisons guard) each), small_guard variables guard filled.1 (each_right P (comparisons atoms) (guard_comparisons guard) each))

-- ---- bodies

small_item : (variables : List Variable) (x : ItemDecl) → ItemFilled x → item_faults variables x ≡ [] → IsSmallItem x
small_item variables (i.Fixed place words) filled none = tt
small_item variables (i.Named spelt) filled none = tt
small_item variables (i.Sum place leaves) filled none = small_term variables false leaves filled none

module _ (messages : List MessageDecl) (actors : List (List ℕ × ℕ)) (variables : List Variable) (patterns : ℕ) (few_patterns : patterns ≤ 8) where
  small_statement : (x : StatementDecl) → StatementFilled x → statement_faults messages actors variables x ≡ [] → NumberFits patterns x → IsSmallStatement x
  small_statement (s.Print place items) filled none fits =
      each_both ItemFilled (λ (x : ItemDecl). item_faults variables x ≡ []) IsSmallItem (small_item variables) items filled.1
      (each_none (item_faults variables) items (right_none (too_many 16 item_place items) (flat_map (item_faults variables) items) none))
  small_statement (s.Post place target kind operands) filled none fits =
      each_both OperandFilled (λ (x : OperandDecl). operand_faults variables x ≡ []) IsSmallOperand (small_operand variables) operands filled
      (each_none (operand_faults variables) operands (right_none _ (flat_map (operand_faults variables) operands) none))
  small_statement (s.Stop place) filled none fits = tt
  small_statement (s.Reply place number_place number operand) filled none fits = (omega (arith, fits.1, few_patterns), small_operand variables operand filled none)

  small_body : (body : List StatementDecl) → AllByRecursion StatementFilled body → AllByRecursion (λ (x : StatementDecl). statement_faults messages actors variables x ≡ []) body
      → AllByRecursion (NumberFits patterns) body → AllByRecursion IsSmallStatement body
  small_body [] filled none fits = tt
  small_body (x ∷ body) filled none fits = (small_statement x filled.0 none.0 fits.0, small_body body filled.1 none.1 fits.1)

small_window : (window : Option (ℕ × ℤ)) → window_faults window ≡ [] → IsSmallWindow window
small_window None none = tt
small_window (Some number) none = (window_fits number none).1

-- ---- patterns

pub at_number : {X : Type 0} (P : X → Type 0) (xs : List X) (number : ℕ) (x : X) → AllByRecursion P xs → slice_get xs number ≡ Some x → P x
at_number {X} P [] number x each is = absurd cc
at_number {X} P (y ∷ ys) zero x each is = let same : y ≡ x = cc in subst P same each.0
at_number {X} P (y ∷ ys) (suc number) x each is = at_number P ys number x each.1 is

pub small_fields : (message : MessageDecl) → message_faults message ≡ [] → length message.fields ≤ 8
small_fields message none = few 8 (λ (f : FieldDecl). f.name.place) message.fields (left_none (too_many 8 (λ (f : FieldDecl). f.name.place) message.fields) (twice_declared own_place (field_rows message.fields)) none)

-- the message of a name is one of the messages
found_fields : (messages : List MessageDecl) → AllByRecursion (λ (m : MessageDecl). message_faults m ≡ []) messages → (number : Option ℕ) (message : MessageDecl)
    → option_and_then (slice_get messages) number ≡ Some message → length message.fields ≤ 8
found_fields messages each None message is = absurd cc
found_fields messages each (Some number) message is = small_fields message (at_number (λ (m : MessageDecl). message_faults m ≡ []) messages number message each is)

pub right_count : (fields count place : ℕ) (b : Bool) → eqb fields count ≡ b → fault_if (not b) WrongCount place ≡ [] → fields ≡ count
right_count fields count place true is none = eqb-true fields count is
right_count fields count place false is none = absurd cc

small_count : (found : Option MessageDecl) (kind : Spelt) (count : ℕ) → ((m : MessageDecl) → found ≡ Some m → length m.fields ≤ 8)
    → count_faults (option_map (λ (m : MessageDecl). m.fields) found) kind count ≡ [] → count ≤ 8
small_count None kind count fields none = absurd cc
small_count (Some m) kind count fields none = omega (arith, fields m refl, right_count (length m.fields) count kind.place (eqb (length m.fields) count) refl none)

small_pattern : (messages : List MessageDecl) → AllByRecursion (λ (m : MessageDecl). message_faults m ≡ []) messages → (p : PatternDecl) → pattern_faults messages p ≡ [] → IsSmallPattern p
small_pattern messages each p none = small_count (message_of messages p.kind.name) p.kind (length p.variables) (found_fields messages each (message_number messages p.kind.name)) none

-- ---- definitions, actors and scripts

abbrev pattern_place : PatternDecl → ℕ
pattern_place p = p.kind.place

abbrev slot_place : Slot → ℕ
slot_place slot = slot.place

module _ (messages : List MessageDecl) (actors : List (List ℕ × ℕ)) (each : AllByRecursion (λ (m : MessageDecl). message_faults m ≡ []) messages) where
  small_rule : (rule : RuleDecl) → RuleFilled rule → rule_faults messages actors rule ≡ [] → IsSmallRule rule
  small_rule rule filled none =
      let variables = variables_of messages rule in
      let patterns = patterns_faults messages rule.patterns in
      let twice = twice_declared slot_place variables in
      let cs = guard_comparisons rule.guard in
      let guard = guard_faults variables cs in
      let body = body_faults messages actors variables rule.body in
      let window = window_faults rule.window in
      let replies = reply_faults (length rule.patterns) [] rule.body in
      let parts = left_none (patterns ++ twice ++ guard ++ body ++ window) replies none in
      let no_reply = right_none (patterns ++ twice ++ guard ++ body ++ window) replies none in
      let four = left_none (patterns ++ twice ++ guard ++ body) window parts in
      let first = left_none (patterns ++ twice) guard (left_none (patterns ++ twice ++ guard) body four) in
      let no_pattern = left_none patterns twice first in
      let no_guard = right_none (patterns ++ twice) guard (left_none (patterns ++ twice ++ guard) body four) in
      let no_body = right_none (patterns ++ twice ++ guard) body four in
      let few_patterns = few 8 pattern_place rule.patterns (left_none (too_many 8 pattern_place rule.patterns) (flat_map (pattern_faults messages) rule.patterns) no_pattern) in
      record {
        few = few_patterns;
        patterns = each_one (λ (p : PatternDecl). pattern_faults messages p ≡ []) IsSmallPattern (small_pattern messages each) rule.patterns
            (each_none (pattern_faults messages) rule.patterns (right_none (too_many 8 pattern_place rule.patterns) (flat_map (pattern_faults messages) rule.patterns) no_pattern));
        window = small_window rule.window (right_none (patterns ++ twice ++ guard ++ body) window parts);
        guard = small_guard variables rule.guard filled.guard (each_none (comparison_faults variables) cs (right_none (too_many 64 (λ (c : Comparing). operand_place c.left) cs) (flat_map (comparison_faults variables) cs) no_guard));
        body = small_body messages actors variables (length rule.patterns) few_patterns rule.body filled.body
            (each_none (statement_faults messages actors variables) rule.body (right_none (too_many 16 statement_place rule.body ++ stop_faults rule.body) (flat_map (statement_faults messages actors variables) rule.body) no_body))
            (numbers_fit (length rule.patterns) [] rule.body no_reply);
      }

  small_actor : (actor : ActorDecl) → ActorFilled actor → actor_faults messages actors actor ≡ [] → IsSmallActor actor
  small_actor actor filled none =
      each_both RuleFilled (λ (rule : RuleDecl). rule_faults messages actors rule ≡ []) IsSmallRule small_rule actor.rules filled
      (each_none (rule_faults messages actors) actor.rules (right_none (too_many 16 (λ (r : RuleDecl). r.place) actor.rules) (flat_map (rule_faults messages actors) actor.rules) none))

pub small_tree : (tree : Tree) → IsFilled tree → faults_of tree ≡ [] → IsSmall tree
small_tree tree filled none =
    let rows = actor_rows tree.actors in
    let a = too_many 64 (λ (m : MessageDecl). m.name.place) tree.messages in
    let b = twice_declared own_place (message_rows tree.messages) in
    let c = flat_map message_faults tree.messages in
    let d = too_many 32 (λ (a : ActorDecl). a.name.place) tree.actors in
    let e = twice_declared own_place rows in
    let f = flat_map (actor_faults tree.messages rows) tree.actors in
    let five = left_none (a ++ b ++ c ++ d ++ e) f none in
    let four = left_none (a ++ b ++ c ++ d) e five in
    let three = left_none (a ++ b ++ c) d four in
    let messages = each_none message_faults tree.messages (right_none (a ++ b) c three) in
    record {
      messages = few 64 (λ (m : MessageDecl). m.name.place) tree.messages (left_none a b (left_none (a ++ b) c three));
      actors = few 32 (λ (a : ActorDecl). a.name.place) tree.actors (right_none (a ++ b ++ c) d four);
      each = each_both ActorFilled (λ (actor : ActorDecl). actor_faults tree.messages rows actor ≡ []) IsSmallActor (small_actor tree.messages rows messages) tree.actors filled.actors
          (each_none (actor_faults tree.messages rows) tree.actors (right_none (a ++ b ++ c ++ d ++ e) f none));
    }

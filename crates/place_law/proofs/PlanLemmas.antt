-- A tree has the same plan as one that differs in places alone.
use Rattle.std.proofs.Common.{◌≡◌, ◌∙◌, ℕ, ℤ, List, map, Option, None, Some, refl, ap}
use Rattle.std.specs.Option.{option_map}
use Rattle.join_base.specs.declared.message.Sort.{Sort}
use Rattle.guard_eval.specs.Condition.{Condition, Compares, Negated, Grouped, Either}
use Rattle.guard_eval.specs.declared.term.Place.{Place}
use Rattle.guard_eval.specs.declared.term.Leaf.{Leaf}
use Rattle.guard_eval.specs.declared.term.Leaf.TheVariants as leaf
use Rattle.guard_eval.specs.declared.term.Signed.{Signed}
use Rattle.guard_eval.specs.declared.term.Operand.{Operand}
use Rattle.guard_eval.specs.declared.term.Operand.TheVariants as operand
use Rattle.guard_eval.specs.declared.term.WordsLeaf.TheVariants as words
use Rattle.script_grammar.specs.Atoms.{Atom, Atoms, compares, negated, grouped, no_atoms, either}
use Rattle.script_grammar.specs.declared.tree.MessageDecl.{MessageDecl}
use Rattle.script_grammar.specs.declared.tree.Part.{Part}
use Rattle.script_grammar.specs.declared.tree.Part.TheVariants as part
use Rattle.script_grammar.specs.declared.tree.LeafDecl.{LeafDecl}
use Rattle.script_grammar.specs.declared.operand.OperandDecl.{OperandDecl}
use Rattle.script_grammar.specs.Operands as o
use Rattle.script_grammar.specs.declared.tree.ItemDecl.{ItemDecl}
use Rattle.script_grammar.specs.declared.tree.ItemDecl.TheVariants as i
use Rattle.script_grammar.specs.declared.tree.StatementDecl.{StatementDecl}
use Rattle.script_grammar.specs.declared.tree.StatementDecl.TheVariants as s
use Rattle.script_grammar.specs.declared.tree.RuleDecl.{RuleDecl}
use Rattle.script_grammar.specs.declared.tree.ActorDecl.{ActorDecl}
use Rattle.script_grammar.specs.declared.tree.Tree.{Tree}
use Rattle.script_names.specs.declared.scope.Slot.{Slot}
use Rattle.script_names.specs.Names.{item_of}
use Rattle.script_names.specs.Scope.{Variable, only_name, sort_of, variables_of}
use Rattle.script_types.specs.declared.plan.Kind.{Kind}
use Rattle.script_types.specs.declared.plan.Item.TheVariants as item
use Rattle.script_types.specs.declared.plan.Statement.{Statement}
use Rattle.script_types.specs.declared.plan.Statement.TheVariants as statement
use Rattle.script_types.specs.declared.plan.Rule.{Rule}
use Rattle.script_types.specs.declared.plan.ActorPlan.{ActorPlan}
use Rattle.script_types.specs.declared.plan.Plan.{Plan}
use Rattle.script_plan.specs.PlanOf.{actor_of, atom_of, by_sort, condition_of, field_of, kind_number, kind_of, leaf_of, names_in, operand_of, or_zero, part_of, pattern_number, pattern_of, place_of, plan_of, print_item, rule_of, rule_with, slot_place, statement_of, sum_operand, target_number, term_of, window_of}
use Rattle.place_law.proofs.Bare.{bare_pair, bare_field, bare_message, bare_pattern, bare_leaf, bare_operand, bare_atom, bare_atoms, bare_item, bare_statement, bare_window, bare_rule, bare_actor, bare_tree, bare_slot, bare_variables}
use Rattle.place_law.proofs.NamesLemmas.{actor_number-bare, item_of-beside, map_same, message_number-bare, only_name-bare, sort_of-bare, variables_of-bare}

-- ---- terms and operands

slot_place-bare : (found : Option Slot) → slot_place (option_map bare_slot found) ≡ slot_place found
slot_place-bare None = refl
slot_place-bare (Some slot) = refl

module _ (variables : List Variable) where
  place_of-bare : (name : List ℕ) → place_of (bare_variables variables) name ≡ place_of variables name
  place_of-bare name = ap slot_place (item_of-beside bare_slot name variables) ∙ slot_place-bare (item_of name variables)

  part_of-bare : (p : Part) → part_of (bare_variables variables) p ≡ part_of variables p
  part_of-bare (part.Number n) = refl
  part_of-bare (part.Named name) = ap leaf.Field (place_of-bare name)

  abbrev signed : LeafDecl → Leaf → Signed
  signed leaf given = record { minus = leaf.minus; leaf = given }

  term_of-bare : (leaves : List LeafDecl) → term_of (bare_variables variables) (map bare_leaf leaves) ≡ term_of variables leaves
  term_of-bare leaves = map_same (leaf_of (bare_variables variables)) bare_leaf (leaf_of variables) (λ leaf. ap (signed leaf) (part_of-bare leaf.part)) leaves

  -- the reading of a name by its type
  by_sort-bare : {T : Type 0} (name : List ℕ) (integer text integer' text' : T) → integer ≡ integer' → text ≡ text' → by_sort (sort_of (bare_variables variables) name) integer text ≡ by_sort (sort_of variables name) integer' text'
  by_sort-bare {T} name integer text integer' text' one other =
      ap (λ (sort : Sort). by_sort sort integer text) (sort_of-bare variables name) ∙ ap (λ (x : T). by_sort (sort_of variables name) x text) one ∙ ap (λ (x : T). by_sort (sort_of variables name) integer' x) other

  sum_operand-bare : (leaves : List LeafDecl) (name : Option (List ℕ)) → sum_operand (bare_variables variables) (map bare_leaf leaves) name ≡ sum_operand variables leaves name
  sum_operand-bare leaves None = ap operand.Sum (term_of-bare leaves)
  sum_operand-bare leaves (Some name) =
      by_sort-bare name (operand.Sum (term_of (bare_variables variables) (map bare_leaf leaves))) (operand.Words (words.Field (place_of (bare_variables variables) name)))
      (operand.Sum (term_of variables leaves)) (operand.Words (words.Field (place_of variables name)))
      (ap operand.Sum (term_of-bare leaves)) (ap (λ (place : Place). operand.Words (words.Field place)) (place_of-bare name))

  operand_of-bare : (x : OperandDecl) → operand_of (bare_variables variables) (bare_operand x) ≡ operand_of variables x
  operand_of-bare (o.Fixed place text) = refl
  operand_of-bare (o.Sum place leaves) = ap (sum_operand (bare_variables variables) (map bare_leaf leaves)) (only_name-bare leaves) ∙ sum_operand-bare leaves (only_name leaves)

-- ---- guards

mutual
  atom_of-bare : (a : Atom) (variables : List Variable) → atom_of (bare_variables variables) (bare_atom a) ≡ atom_of variables a
  atom_of-bare (compares left relation right) variables =
      ap (λ (x : Operand). Compares x relation (operand_of (bare_variables variables) (bare_operand right))) (operand_of-bare variables left)
      ∙ ap (λ (x : Operand). Compares (operand_of variables left) relation x) (operand_of-bare variables right)
  atom_of-bare (negated a) variables = ap Negated (atom_of-bare a variables)
  atom_of-bare (grouped atoms) variables = ap Grouped (condition_of-bare atoms variables)

  condition_of-bare : (atoms : Atoms) (variables : List Variable) → condition_of (bare_variables variables) (bare_atoms atoms) ≡ condition_of variables atoms
  condition_of-bare no_atoms variables = refl
  condition_of-bare (either a atoms) variables =
      ap (λ (c : Condition). Either c (condition_of (bare_variables variables) (bare_atoms atoms))) (atom_of-bare a variables)
      ∙ ap (λ (c : Condition). Either (atom_of variables a) c) (condition_of-bare atoms variables)

-- ---- bodies

module _ (variables : List Variable) where
  print_item-bare : (x : ItemDecl) → print_item (bare_variables variables) (bare_item x) ≡ print_item variables x
  print_item-bare (i.Fixed place text) = refl
  print_item-bare (i.Named spelt) =
      let place = place_of-bare variables spelt.name in
      by_sort-bare variables spelt.name (item.Plain (place_of (bare_variables variables) spelt.name)) (item.Words (words.Field (place_of (bare_variables variables) spelt.name)))
      (item.Plain (place_of variables spelt.name)) (item.Words (words.Field (place_of variables spelt.name)))
      (ap item.Plain place) (ap (λ (p : Place). item.Words (words.Field p)) place)
  print_item-bare (i.Sum place leaves) = ap item.Sum (term_of-bare variables leaves)

module _ (tree : Tree) where
  kind_number-bare : (name : List ℕ) → kind_number (bare_tree tree) name ≡ kind_number tree name
  kind_number-bare name = ap or_zero (message_number-bare tree.messages name)

  target_number-bare : (name : List ℕ) → target_number (bare_tree tree) name ≡ target_number tree name
  target_number-bare name = ap or_zero (actor_number-bare tree.actors name)

  module _ (variables : List Variable) where
    statement_of-bare : (x : StatementDecl) → statement_of (bare_tree tree) (bare_variables variables) (bare_statement x) ≡ statement_of tree variables x
    statement_of-bare (s.Print place items) = ap statement.Print (map_same (print_item (bare_variables variables)) bare_item (print_item variables) (print_item-bare variables) items)
    statement_of-bare (s.Post place target kind operands) =
        let target_moved = target_number (bare_tree tree) target.name in
        let kind_moved = kind_number (bare_tree tree) kind.name in
        ap (statement.Post target_moved kind_moved) (map_same (operand_of (bare_variables variables)) bare_operand (operand_of variables) (operand_of-bare variables) operands)
        ∙ ap (λ (n : ℕ). statement.Post target_moved n (map (operand_of variables) operands)) (kind_number-bare kind.name)
        ∙ ap (λ (n : ℕ). statement.Post n (kind_number tree kind.name) (map (operand_of variables) operands)) (target_number-bare target.name)
    statement_of-bare (s.Stop place) = refl
    statement_of-bare (s.Reply place number_place number operand) = ap (statement.Reply (pattern_number number)) (operand_of-bare variables operand)

    -- ---- definitions, actors and messages

    window_of-bare : (window : Option (ℕ × ℤ)) → window_of (bare_window window) ≡ window_of window
    window_of-bare None = refl
    window_of-bare (Some number) = refl

    abbrev rule_made : Option ℕ → List ℕ → List Condition → List (List (Option (List ℕ))) → List Statement → Rule
    rule_made window patterns conjuncts names body = record { definition = record { patterns = patterns; conjuncts = conjuncts; window = window }; variables = names; body = body }

    rule_with-bare : (rule : RuleDecl) → rule_with (bare_tree tree) (bare_variables variables) (bare_rule rule) ≡ rule_with tree variables rule
    rule_with-bare rule =
        let patterns : map (pattern_of (bare_tree tree)) (map bare_pattern rule.patterns) ≡ map (pattern_of tree) rule.patterns =
        map_same (pattern_of (bare_tree tree)) bare_pattern (pattern_of tree) (λ p. kind_number-bare p.kind.name) rule.patterns in
        let conjuncts : map (condition_of (bare_variables variables)) (map bare_atoms rule.guard) ≡ map (condition_of variables) rule.guard =
        map_same (condition_of (bare_variables variables)) bare_atoms (condition_of variables) (λ atoms. condition_of-bare atoms variables) rule.guard in
        let names : map names_in (map bare_pattern rule.patterns) ≡ map names_in rule.patterns =
        map_same names_in bare_pattern names_in (λ p. map_same (λ (v : ℕ × Option (List ℕ)). v.1) bare_pair (λ (v : ℕ × Option (List ℕ)). v.1) (λ v. refl) p.variables) rule.patterns in
        let body : map (statement_of (bare_tree tree) (bare_variables variables)) (map bare_statement rule.body) ≡ map (statement_of tree variables) rule.body =
        map_same (statement_of (bare_tree tree) (bare_variables variables)) bare_statement (statement_of tree variables) statement_of-bare rule.body in
        let window = window_of rule.window in
        ap (λ (w : Option ℕ). rule_made w (map (pattern_of (bare_tree tree)) (map bare_pattern rule.patterns)) (map (condition_of (bare_variables variables)) (map bare_atoms rule.guard)) (map names_in (map bare_pattern rule.patterns)) (map (statement_of (bare_tree tree) (bare_variables variables)) (map bare_statement rule.body))) (window_of-bare rule.window)
        ∙ ap (λ (ps : List ℕ). rule_made window ps (map (condition_of (bare_variables variables)) (map bare_atoms rule.guard)) (map names_in (map bare_pattern rule.patterns)) (map (statement_of (bare_tree tree) (bare_variables variables)) (map bare_statement rule.body))) patterns
        ∙ ap (λ (cs : List Condition). rule_made window (map (pattern_of tree) rule.patterns) cs (map names_in (map bare_pattern rule.patterns)) (map (statement_of (bare_tree tree) (bare_variables variables)) (map bare_statement rule.body))) conjuncts
        ∙ ap (λ (ns : List (List (Option (List ℕ)))). rule_made window (map (pattern_of tree) rule.patterns) (map (condition_of variables) rule.guard) ns (map (statement_of (bare_tree tree) (bare_variables variables)) (map bare_statement rule.body))) names
        ∙ ap (rule_made window (map (pattern_of tree) rule.patterns) (map (condition_of variables) rule.guard) (map names_in rule.patterns)) body

  rule_of-bare : (rule : RuleDecl) → rule_of (bare_tree tree) (bare_rule rule) ≡ rule_of tree rule
  unfolding rule_of
  rule_of-bare rule =
      ap (λ (variables : List Variable). rule_with (bare_tree tree) variables (bare_rule rule)) (variables_of-bare tree.messages rule) ∙ rule_with-bare (variables_of tree.messages rule) rule

  abbrev actor_made : List ℕ → List Rule → ActorPlan
  actor_made name rules = record { name = name; rules = rules }

  actor_of-bare : (actor : ActorDecl) → actor_of (bare_tree tree) (bare_actor actor) ≡ actor_of tree actor
  actor_of-bare actor = ap (actor_made actor.name.name) (map_same (rule_of (bare_tree tree)) bare_rule (rule_of tree) rule_of-bare actor.rules)

abbrev kind_made : List ℕ → List (List ℕ × Sort) → Kind
kind_made name fields = record { name = name; fields = fields }

kind_of-bare : (message : MessageDecl) → kind_of (bare_message message) ≡ kind_of message
kind_of-bare message = ap (kind_made message.name.name) (map_same field_of bare_field field_of (λ f. refl) message.fields)

abbrev plan_made : List Kind → List ActorPlan → Plan
plan_made kinds actors = record { kinds = kinds; actors = actors }

-- a tree and its bare tree have one plan
pub plan_of-bare : (tree : Tree) → plan_of (bare_tree tree) ≡ plan_of tree
plan_of-bare tree =
    ap (λ (kinds : List Kind). plan_made kinds (map (actor_of (bare_tree tree)) (map bare_actor tree.actors))) (map_same kind_of bare_message kind_of kind_of-bare tree.messages)
    ∙ ap (plan_made (map kind_of tree.messages)) (map_same (actor_of (bare_tree tree)) bare_actor (actor_of tree) (actor_of-bare tree) tree.actors)

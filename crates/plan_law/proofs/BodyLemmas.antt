-- The texts of statements print what they were read from.
use Rattle.std.proofs.Common.{◌≡◌, ◌∙◌, ℕ, ◌+◌, ◌-◌, ◌≤◌, true, false, List, [], ◌++◌, length, refl, ap, arith}
use Rattle.std.specs.Prelude.{ℤ, codes, unsigned_abs}
use Rattle.std.specs.Fmt.{decimal}
use Rattle.std.specs.List.{flat_map}
use Rattle.std.specs.Option.{is_none}
use Rattle.join_base.specs.declared.message.Sort.{Sort}
use Rattle.join_base.specs.declared.message.Sort.TheVariants as sort
use Rattle.guard_eval.specs.declared.term.WordsLeaf.TheVariants as words
use Rattle.script_tokens.specs.declared.token.Mark.TheVariants as m
use Rattle.script_grammar.specs.declared.tree.Spelt.{Spelt}
use Rattle.script_grammar.specs.declared.tree.LeafDecl.{LeafDecl}
use Rattle.script_grammar.specs.declared.tree.ItemDecl.{ItemDecl}
use Rattle.script_grammar.specs.declared.tree.ItemDecl.TheVariants as i
use Rattle.script_grammar.specs.declared.operand.OperandDecl.{OperandDecl}
use Rattle.script_grammar.specs.declared.tree.StatementDecl.{StatementDecl}
use Rattle.script_grammar.specs.declared.tree.StatementDecl.TheVariants as s
use Rattle.script_grammar.specs.declared.tree.Tree.{Tree}
use Rattle.script_grammar.specs.Phrases.{some}
use Rattle.script_grammar.specs.Grammar as g
use Rattle.script_names.specs.Names.{names_of, number_of}
use Rattle.script_names.specs.Scope.{Variable, actor_rows, sort_of}
use Rattle.script_grammar.specs.declared.fault.ScriptCause.TheVariants.{UnknownActor}
use Rattle.script_faults.specs.First.{fault_if, too_many}
use Rattle.script_faults.specs.Faults.{count_faults, fields_of, fields_or_none, item_faults, item_place, operand_faults, post_faults, print_faults, statement_faults, term_faults, type_faults}
use Rattle.script_types.specs.declared.plan.Item.TheVariants as item
use Rattle.script_plan.specs.PlanOf.{by_sort, operand_of, place_of, plan_of, print_item, statement_of, term_of}
use Rattle.script_check.proofs.NumberLemmas.{left_none, right_none, NumberFits}
use Rattle.script_check.proofs.SmallLemmas.{each_none, each_one}
use Rattle.plan_text.specs.PlanNames.{Variables, variable_name}
use Rattle.plan_text.specs.GuardText.{operand_text, term_text}
use Rattle.plan_text.specs.PlanText.{item_text, statement_line, statement_text}
use Rattle.plan_law.proofs.DeclarationLemmas.{comma_ends, prints_comma}
use Rattle.plan_law.proofs.NamedLemmas.{Names, actor_named, kind_named, variable_named}
use Rattle.plan_law.proofs.PhraseLemmas.{Prints, prints_any_then, prints_at_least_one, prints_before, prints_behind, prints_listed, prints_mark, prints_mark_at, prints_text, prints_then}
use Rattle.plan_law.proofs.TermLemmas.{prints_name, prints_numeral, prints_operand, prints_term, prints_words}
use Rattle.plan_law.proofs.TokenLemmas.{close_writes, keyword_space_writes, keyword_writes, line_end_writes, open_writes, post_is, print_is, reply_is, semicolon_writes, space_writes, stop_is, two_spaces_write}
use Rattle.plan_law.proofs.WriteLemmas.{Any, Ends, any, writes_as, writes_then}

module _ (variables : List Variable) (rows : Variables) (named : Names rows variables) where
  -- ---- items

  abbrev ItemPrints : ItemDecl → Type 0
  ItemPrints x = Prints Ends (g.item x) (item_text rows (print_item variables x))

  -- a variable has its name's text, of whatever type it is
  named_text : (name : List ℕ) (s : Sort) → item_text rows (by_sort s (item.Plain (place_of variables name)) (item.Words (words.Field (place_of variables name)))) ≡ variable_name rows (place_of variables name)
  named_text name sort.Int = refl
  named_text name sort.Words = refl

  prints_some_term : (leaves : List LeafDecl) → term_faults variables false leaves ≡ [] → Prints Ends (some (λ (inner : ℕ). g.term inner leaves)) (term_text rows (term_of variables leaves))
  prints_some_term leaves none = record { prints = λ tokens lexed h. let term = prints_term variables rows named h.0 false leaves none in term.prints tokens lexed h.1 }

  prints_item : (x : ItemDecl) → item_faults variables x ≡ [] → ItemPrints x
  prints_item (i.Fixed place words) none = prints_words place words
  prints_item (i.Named spelt) none = prints_name spelt _ (named_text spelt.name (sort_of variables spelt.name) ∙ variable_named rows variables named true spelt.place spelt.name none)
  prints_item (i.Sum place leaves) none =
      prints_any_then (prints_mark_at open_writes) (prints_then (prints_some_term leaves none) (λ rest q. record { ends = refl }) (prints_mark (writes_as close_writes)))

  -- ---- statements

  abbrev OperandPrints : OperandDecl → Type 0
  OperandPrints x = Prints Ends (g.operand x) (operand_text rows (operand_of variables x))

  module _ (tree : Tree) where
    abbrev StatementPrints : StatementDecl → Type 0
    StatementPrints x = Prints Any (g.statement x) (statement_text (plan_of tree) rows (statement_of tree variables x))

    prints_print : (place : ℕ) (items : List ItemDecl) → print_faults variables items ≡ [] → StatementPrints (s.Print place items)
    prints_print place items none =
        let each = each_none (item_faults variables) items (right_none (too_many 16 item_place items) (flat_map (item_faults variables) items) none) in
        prints_any_then (prints_mark_at (keyword_space_writes (codes "print") m.Print print_is))
        (prints_then
        (prints_at_least_one g.item (print_item variables) (item_text rows) space_writes (λ rest. record { ends = refl }) items (each_one (λ (x : ItemDecl). item_faults variables x ≡ []) ItemPrints prints_item items each))
        (λ rest q. record { ends = refl })
        (prints_mark semicolon_writes))

    prints_post : (place : ℕ) (target kind : Spelt) (operands : List OperandDecl) → post_faults tree.messages (actor_rows tree.actors) variables target kind operands ≡ [] → StatementPrints (s.Post place target kind operands)
    prints_post place target kind operands none =
        let a = fault_if (is_none (number_of target.name (names_of (actor_rows tree.actors)))) UnknownActor target.place in
        let b = count_faults (fields_of tree.messages kind.name) kind (length operands) in
        let c = type_faults variables (fields_or_none (fields_of tree.messages kind.name)) 0 operands in
        let d = flat_map (operand_faults variables) operands in
        let two = left_none (a ++ b) c (left_none (a ++ b ++ c) d none) in
        prints_any_then (prints_mark_at (keyword_space_writes (codes "post") m.Post post_is))
        (prints_then (prints_name target _ (actor_named tree target (left_none a b two))) (λ rest q. record { ends = refl })
        (prints_behind space_writes
        (prints_then (prints_name kind _ (kind_named tree kind (length operands) (right_none a b two))) (λ rest q. record { ends = refl })
        (prints_any_then (prints_mark open_writes)
        (prints_then
        (prints_listed g.operand (operand_of variables) (operand_text rows) prints_comma comma_ends operands
        (each_one (λ (x : OperandDecl). operand_faults variables x ≡ []) OperandPrints (prints_operand variables rows named) operands (each_none (operand_faults variables) operands (right_none (a ++ b ++ c) d none))))
        (λ rest q. record { ends = refl })
        (prints_any_then (prints_mark close_writes) (prints_mark semicolon_writes)))))))

    -- patterns count from 1 in the text
    from_one : (number : ℕ) → 1 ≤ number → number ≡ number - 1 + 1
    from_one number some = omega (arith, some)

    prints_reply : (place number_place : ℕ) (number : ℤ) (operand : OperandDecl) → 1 ≤ unsigned_abs number → operand_faults variables operand ≡ [] → StatementPrints (s.Reply place number_place number operand)
    prints_reply place number_place number operand some none =
        prints_any_then (prints_mark_at (keyword_space_writes (codes "reply") m.Reply reply_is))
        (prints_then (prints_text (ap decimal (from_one (unsigned_abs number) some)) (prints_numeral (number_place, number))) (λ rest q. record { ends = refl })
        (prints_behind space_writes
        (prints_then (prints_operand variables rows named operand none) (λ rest q. record { ends = refl }) (prints_mark semicolon_writes))))

    prints_statement : (patterns : ℕ) (x : StatementDecl) → statement_faults tree.messages (actor_rows tree.actors) variables x ≡ [] → NumberFits patterns x → StatementPrints x
    prints_statement patterns (s.Print place items) none fits = prints_print place items none
    prints_statement patterns (s.Post place target kind operands) none fits = prints_post place target kind operands none
    prints_statement patterns (s.Reply place number_place number operand) none fits = prints_reply place number_place number operand fits.0 none
    prints_statement patterns (s.Stop place) none fits = prints_then (prints_mark_at (keyword_writes (codes "stop") m.Stop stop_is)) (λ rest q. record { ends = refl }) (prints_mark semicolon_writes)

    -- the line of a statement without a fault
    pub prints_line : (patterns : ℕ) (x : StatementDecl) → statement_faults tree.messages (actor_rows tree.actors) variables x ≡ [] → NumberFits patterns x
        → Prints Any (g.statement x) (statement_line (plan_of tree) rows (statement_of tree variables x))
    prints_line patterns x none fits = prints_behind (writes_then two_spaces_write two_spaces_write) (prints_before (prints_statement patterns x none fits) (λ rest q. any) line_end_writes)

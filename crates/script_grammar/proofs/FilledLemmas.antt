-- The tree of a script is filled.
use Rattle.std.proofs.Common.{inl, inr, ℕ, zero, suc, ◌≤◌, List, [], ◌∷◌, length, sym, subst, arith}
use Rattle.std.specs.List.{AllByRecursion}
use Rattle.script_tokens.specs.declared.token.Mark.TheVariants as m
use Rattle.script_grammar.specs.Phrases.{◌then◌, each, at_least_one, separated, listed}
use Rattle.script_grammar.specs.Atoms.{Atom, Atoms, compares, negated, grouped, no_atoms, either, listed_atoms}
use Rattle.script_grammar.specs.declared.tree.LeafDecl.{LeafDecl}
use Rattle.script_grammar.specs.declared.operand.OperandDecl.{OperandDecl}
use Rattle.script_grammar.specs.Operands as o
use Rattle.script_grammar.specs.declared.tree.ItemDecl.{ItemDecl}
use Rattle.script_grammar.specs.declared.tree.ItemDecl.TheVariants as i
use Rattle.script_grammar.specs.declared.tree.StatementDecl.{StatementDecl}
use Rattle.script_grammar.specs.declared.tree.StatementDecl.TheVariants as s
use Rattle.script_grammar.specs.declared.tree.RuleDecl.{RuleDecl}
use Rattle.script_grammar.specs.declared.tree.ActorDecl.{ActorDecl}
use Rattle.script_grammar.specs.declared.tree.Tree.{Tree}
use Rattle.script_grammar.specs.Grammar.{Tokens, mark, pattern, term, operand, atom, conjunct, guard, item, statement, definition, actor, Declaration, declaration, actors_of}
use Rattle.script_grammar.specs.Filled.{OperandFilled, AtomFilled, AtomsFilled, ItemFilled, StatementFilled, RuleFilled, ActorFilled, ScriptsAreFilled}

-- ---- what each phrase of a list tells of its value holds of all values, and a list that needs one has one

module _ {T X : Type 0} (rule : X → List T → Type 0) where
  separated_some : (by : List T → Type 0) (xs : List X) (ts : List T) → separated by rule xs ts → 1 ≤ length xs
  separated_some by [] ts h = absurd h
  separated_some by (x ∷ xs) ts h = omega arith

  at_least_one_some : (xs : List X) (ts : List T) → at_least_one rule xs ts → 1 ≤ length xs
  at_least_one_some [] ts h = absurd h
  at_least_one_some (x ∷ xs) ts h = omega arith

module _ {T X : Type 0} (rule : X → List T → Type 0) (P : X → Type 0) (tells : (x : X) (ts : List T) → rule x ts → P x) where
  each_all : (xs : List X) (ts : List T) → each rule xs ts → AllByRecursion P xs
  each_all [] ts h = tt
  each_all (x ∷ xs) ts h = (tells x h.front h.one, each_all xs h.back h.other)

  at_least_one_all : (xs : List X) (ts : List T) → at_least_one rule xs ts → AllByRecursion P xs
  at_least_one_all [] ts h = absurd h
  at_least_one_all (x ∷ xs) ts h = (tells x h.front h.one, each_all xs h.back h.other)

module _ {T X : Type 0} (by : List T → Type 0) (rule : X → List T → Type 0) (P : X → Type 0) (tells : (x : X) (ts : List T) → rule x ts → P x) where
  separated_all : (xs : List X) (ts : List T) → separated by rule xs ts → AllByRecursion P xs
  separated_all [] ts h = absurd h
  separated_all (x ∷ xs) ts h = (tells x h.front h.one, each_all (λ y. by then rule y) P (λ y us k. tells y k.back k.other) xs h.back h.other)

  listed_all : (xs : List X) (ts : List T) → listed by rule xs ts → AllByRecursion P xs
  listed_all [] ts h = tt
  listed_all (x ∷ xs) ts h = separated_all (x ∷ xs) ts h

-- ---- terms, atoms and guards

term_some : (place : ℕ) (leaves : List LeafDecl) (ts : Tokens) → term place leaves ts → 1 ≤ length leaves
term_some place [] ts h = absurd h
term_some place (leaf ∷ leaves) ts h = omega arith

operand_filled : (x : OperandDecl) (ts : Tokens) → operand x ts → OperandFilled x
operand_filled (o.Fixed place words) ts h = tt
operand_filled (o.Sum place leaves) ts h = term_some place leaves ts h

atoms_filled : (as' : Atoms) → AllByRecursion AtomFilled (listed_atoms as') → AtomsFilled as'
atoms_filled no_atoms h = tt
atoms_filled (either a as') h = (h.0, atoms_filled as' h.1)

atom_filled : (depth : ℕ) (a : Atom) (ts : Tokens) → atom depth a ts → AtomFilled a
atom_filled zero (compares left relation right) ts h = (operand_filled left h.front h.one, operand_filled right h.other.back h.other.other)
atom_filled zero (negated a) ts h = absurd h
atom_filled zero (grouped as') ts h = absurd h
atom_filled (suc depth) (compares left relation right) ts h = (operand_filled left h.front h.one, operand_filled right h.other.back h.other.other)
atom_filled (suc depth) (negated a) ts h = atom_filled depth a h.back h.other
atom_filled (suc depth) (grouped as') ts h =
    atoms_filled as' (separated_all (mark m.Or) (atom depth) AtomFilled (atom_filled depth) (listed_atoms as') h.other.front h.other.one)

conjunct_filled : (c : Atoms) (ts : Tokens) → conjunct c ts → AtomsFilled c
conjunct_filled c ts h = atoms_filled c (separated_all (mark m.Or) (atom 32) AtomFilled (atom_filled 32) (listed_atoms c) ts h)

guard_filled : (cs : List Atoms) (ts : Tokens) → guard cs ts → AllByRecursion AtomsFilled cs
guard_filled [] ts h = tt
guard_filled (c ∷ cs) ts h = separated_all (mark m.And) conjunct AtomsFilled conjunct_filled (c ∷ cs) h.back h.other

-- ---- statements, definitions and actors

item_filled : (x : ItemDecl) (ts : Tokens) → item x ts → ItemFilled x
item_filled (i.Fixed place words) ts h = tt
item_filled (i.Named spelt) ts h = tt
item_filled (i.Sum place leaves) ts h = term_some h.other.one.0 leaves h.other.front h.other.one.1

statement_filled : (x : StatementDecl) (ts : Tokens) → statement x ts → StatementFilled x
statement_filled (s.Print place items) ts h =
    (at_least_one_some item items h.other.front h.other.one, at_least_one_all item ItemFilled item_filled items h.other.front h.other.one)
statement_filled (s.Post place target kind operands) ts h =
    let list = h.other.other.other.other in listed_all (mark m.Comma) operand OperandFilled operand_filled operands list.front list.one
statement_filled (s.Stop place) ts h = tt
statement_filled (s.Reply place number_place pattern value) ts h = let rest = h.other.other in operand_filled value rest.front rest.one

rule_filled : (rule : RuleDecl) (ts : Tokens) → definition rule ts → RuleFilled rule
rule_filled rule ts h =
    let patterns = h.other in
    let conjuncts = patterns.other.other in
    let statements = conjuncts.other.other in
    record {
      patterns = separated_some pattern (mark m.With) rule.patterns patterns.front patterns.one;
      guard = guard_filled rule.guard conjuncts.front conjuncts.one;
      body = each_all statement StatementFilled statement_filled rule.body statements.front statements.one;
    }

actor_filled : (a : ActorDecl) (ts : Tokens) → actor a ts → ActorFilled a
actor_filled a ts h = let rules = h.other.other.other in each_all definition RuleFilled rule_filled a.rules rules.front rules.one

actors_filled : (ds : List Declaration) (ts : Tokens) → each declaration ds ts → AllByRecursion ActorFilled (actors_of ds)
actors_filled [] ts h = tt
actors_filled (inl d ∷ ds) ts h = actors_filled ds h.back h.other
actors_filled (inr a ∷ ds) ts h = (actor_filled a h.front h.one, actors_filled ds h.back h.other)

pub scripts_are_filled : ScriptsAreFilled
scripts_are_filled tree tokens h = record {
  actor = omega (arith, h.has_actor);
  actors = subst (λ (t : Tree). AllByRecursion ActorFilled t.actors) (sym h.tree_is) (actors_filled h.declarations tokens h.spelt);
}

-- A script and its plan, computed by the definitions.
use Rattle.std.proofs.Common.{◌≡◌, refl, ℕ, List, [], ◌∷◌, Some, Option, Bool, true, false, pos, arith}
use Rattle.std.specs.Prelude.{codes}
use Rattle.std.specs.List.{IsDistinct}
use Rattle.join_base.specs.declared.message.Relation.TheVariants.{Equal, LessEqual}
use Rattle.join_base.specs.declared.message.Sort.{Sort}
use Rattle.join_base.specs.declared.message.Sort.TheVariants.{Int, Words}
use Rattle.guard_eval.specs.Condition.{Condition, Compares, Either, Grouped, Negated, Never}
use Rattle.guard_eval.specs.declared.term.Leaf.TheVariants as leaf
use Rattle.guard_eval.specs.declared.term.Signed.{Signed}
use Rattle.guard_eval.specs.declared.term.Operand.TheVariants as operand
use Rattle.guard_eval.specs.declared.term.WordsLeaf.TheVariants as words
use Rattle.script_grammar.specs.Atoms.{Atoms, compares, either, grouped, negated, no_atoms}
use Rattle.script_grammar.specs.declared.tree.FieldDecl.{FieldDecl}
use Rattle.script_grammar.specs.declared.tree.ItemDecl.TheVariants as i
use Rattle.script_grammar.specs.declared.tree.LeafDecl.{LeafDecl}
use Rattle.script_grammar.specs.declared.tree.MessageDecl.{MessageDecl}
use Rattle.script_grammar.specs.declared.operand.OperandDecl.{OperandDecl}
use Rattle.script_grammar.specs.Operands as o
use Rattle.script_grammar.specs.declared.tree.Part.TheVariants as part
use Rattle.script_grammar.specs.declared.tree.PatternDecl.{PatternDecl}
use Rattle.script_grammar.specs.declared.tree.RuleDecl.{RuleDecl}
use Rattle.script_grammar.specs.declared.tree.Spelt.{Spelt}
use Rattle.script_grammar.specs.declared.tree.StatementDecl.TheVariants as s
use Rattle.script_grammar.specs.declared.tree.Tree.{Tree}
use Rattle.script_types.specs.declared.plan.Item.TheVariants as item
use Rattle.script_types.specs.declared.plan.Plan.{Plan}
use Rattle.script_types.specs.declared.plan.Rule.{Rule}
use Rattle.script_types.specs.declared.plan.Statement.TheVariants as statement
use Rattle.script_plan.specs.PlanOf.{plan_of, rule_of}
use Rattle.script_types.specs.Typed.{IsTyped, IsTypedLeaf, IsTypedRule, IsTypedTerm, kind_types}

abbrev spelt : List ℕ → Spelt
spelt name = record { name = name; place = 0 }

abbrev field : List ℕ → Sort → FieldDecl
field name sort = record { name = spelt name; sort = sort }

abbrev pattern : List ℕ → List (Option (List ℕ)) → PatternDecl
pattern kind [] = record { kind = spelt kind; variables = [] }
pattern kind (v ∷ vs) = record { kind = spelt kind; variables = (0, v) ∷ (pattern kind vs).variables }

abbrev named : Bool → List ℕ → LeafDecl
named minus name = record { place = 0; minus = minus; part = part.Named name }

abbrev number : ℕ → LeafDecl
number n = record { place = 0; minus = false; part = part.Number (pos n) }

abbrev sum : List LeafDecl → OperandDecl
sum leaves = o.Sum 0 leaves

-- message a(x: int, t: text) message b(x: int)
abbrev messages : List MessageDecl
messages =
    record { name = spelt (codes "a"); fields = field (codes "x") Int ∷ field (codes "t") Words ∷ [] }
    ∷ record { name = spelt (codes "b"); fields = field (codes "x") Int ∷ [] }
    ∷ []

-- if x - y <= 5 && !(t == "k")
abbrev guard : List Atoms
guard =
    either (compares (sum (named false (codes "x") ∷ named true (codes "y") ∷ [])) LessEqual (sum (number 5 ∷ []))) no_atoms
    ∷ either (negated (grouped (either (compares (sum (named false (codes "t") ∷ [])) Equal (o.Fixed 0 (codes "k"))) no_atoms))) no_atoms
    ∷ []

-- when b(y) & a(x, t) within 5 if .. { print "k" t x; post n a(-y, t); reply 2 t; stop; }
abbrev rule : RuleDecl
rule = record {
  place = 0;
  patterns = pattern (codes "b") (Some (codes "y") ∷ []) ∷ pattern (codes "a") (Some (codes "x") ∷ Some (codes "t") ∷ []) ∷ [];
  window = Some (0, pos 5);
  guard = guard;
  body =
      s.Print 0 (i.Fixed 0 (codes "k") ∷ i.Named (spelt (codes "t")) ∷ i.Named (spelt (codes "x")) ∷ [])
      ∷ s.Post 0 (spelt (codes "n")) (spelt (codes "a")) (sum (named true (codes "y") ∷ []) ∷ sum (named false (codes "t") ∷ []) ∷ [])
      ∷ s.Reply 0 0 (pos 2) (sum (named false (codes "t") ∷ []))
      ∷ s.Stop 0
      ∷ [];
}

abbrev tree : Tree
tree = record { messages = messages; actors = record { name = spelt (codes "m"); rules = rule ∷ [] } ∷ record { name = spelt (codes "n"); rules = [] } ∷ [] }

abbrev leaf_at : Bool → ℕ → ℕ → Signed
leaf_at minus p f = record { minus = minus; leaf = leaf.Field (record { pattern = p; field = f }) }

abbrev conditions : List Condition
conditions =
    Either (Compares (operand.Sum (leaf_at false 1 0 ∷ leaf_at true 0 0 ∷ [])) LessEqual (operand.Sum (record { minus = false; leaf = leaf.Number (pos 5) } ∷ []))) Never
    ∷ Either (Negated (Grouped (Either (Compares (operand.Words (words.Field (record { pattern = 1; field = 1 }))) Equal (operand.Words (words.Fixed (codes "k")))) Never))) Never
    ∷ []

abbrev planned : Rule
planned = record {
  definition = record { patterns = 1 ∷ 0 ∷ []; conjuncts = conditions; window = Some 5 };
  variables = (Some (codes "y") ∷ []) ∷ (Some (codes "x") ∷ Some (codes "t") ∷ []) ∷ [];
  body =
      statement.Print (item.Words (words.Fixed (codes "k")) ∷ item.Words (words.Field (record { pattern = 1; field = 1 })) ∷ item.Plain (record { pattern = 1; field = 0 }) ∷ [])
      ∷ statement.Post 1 0 (operand.Sum (leaf_at true 0 0 ∷ []) ∷ operand.Words (words.Field (record { pattern = 1; field = 1 })) ∷ [])
      ∷ statement.Reply 1 (operand.Words (words.Field (record { pattern = 1; field = 1 })))
      ∷ statement.Stop
      ∷ [];
}

abbrev expected : Plan
expected = record {
  kinds =
      record { name = codes "a"; fields = (codes "x", Int) ∷ (codes "t", Words) ∷ [] }
      ∷ record { name = codes "b"; fields = (codes "x", Int) ∷ [] }
      ∷ [];
  actors = record { name = codes "m"; rules = planned ∷ [] } ∷ record { name = codes "n"; rules = [] } ∷ [];
}

plan : plan_of tree ≡ expected
unfolding rule_of
plan = refl

-- ---- it is well typed

one_leaf : (leaf : Signed) → IsTypedLeaf (kind_types expected.kinds) (1 ∷ 0 ∷ []) leaf.leaf → IsTypedTerm (kind_types expected.kinds) (1 ∷ 0 ∷ []) (leaf ∷ [])
one_leaf leaf typed = record { some = omega arith; few = omega arith; each = (typed, tt) }

typed_rule : IsTypedRule 2 (kind_types expected.kinds) planned
unfolding IsDistinct
typed_rule = record {
  some_patterns = omega arith;
  few_patterns = omega arith;
  variables = (refl, (refl, tt));
  window = (omega arith, omega arith);
  guard = (
    (record { left_typed = record { some = omega arith; few = omega arith; each = (refl, (refl, tt)) }; right_typed = one_leaf (record { minus = false; leaf = leaf.Number (pos 5) }) tt; one_type = refl; may_compare = tt }, tt),
    (((record { left_typed = refl; right_typed = tt; one_type = refl; may_compare = tt }, tt), tt), tt),
  );
  few_statements = omega arith;
  body = (record { some = omega arith; few = omega arith; each = (tt, (refl, (refl, tt))) }, (record { to_actor = omega arith; of_kind = refl; each = (one_leaf (leaf_at true 0 0) refl, (refl, tt)) }, ((omega arith, refl), (tt, tt))));
  stop_last = (tt, (tt, (tt, tt)));
  reply_once = (tt, tt);
}

typed : IsTyped expected
typed = record {
  few_kinds = omega arith;
  some_actors = omega arith;
  few_actors = omega arith;
  kind_names = record { each = (refl, (refl, tt)); apart = ((refl, tt), (tt, tt)) };
  actor_names = record { each = (refl, (refl, tt)); apart = ((refl, tt), (tt, tt)) };
  field_names = (record { each = (refl, (refl, tt)); apart = ((refl, tt), (tt, tt)) }, (record { each = (refl, tt); apart = (tt, tt) }, tt));
  kinds = (omega arith, (omega arith, tt));
  actors = (
    record { few = omega arith; few_comparisons = (omega arith, tt); each = (typed_rule, tt) },
    (record { few = omega arith; few_comparisons = tt; each = tt }, tt),
  );
}

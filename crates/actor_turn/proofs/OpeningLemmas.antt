-- The trees of a new actor.
use Rattle.std.proofs.Common.{◌≡◌, ◌∙◌, ℕ, zero, suc, ◌+◌, ◌<◌, List, [], ◌∷◌, ◌++◌, length, take, get_or, None, ap, sym, subst, arith}
use Rattle.std.specs.List.{AllByRecursion}
use Rattle.std.proofs.lemmas.List.{length-map, length-take-le, map-append, take_more}
use Rattle.pattern_core.specs.declared.definition.Definition.{Definition}
use Rattle.match_tree.specs.Tree.{Tree, empty_of}
use Rattle.script_types.specs.declared.plan.Rule.{Rule}
use Rattle.fair_semantics.specs.Step.{definitions_of}
use Rattle.actor_turn.specs.Held.{new_trees}
use Rattle.actor_turn.specs.Steady.{HasPatterns}

definitions_more : (rules : List Rule) (i : ℕ) (rule : Rule) → i < length rules → rule ≡ get_or rules i rule → definitions_of (take (i + 1) rules) ≡ definitions_of (take i rules) ++ rule.definition ∷ []
definitions_more rules i rule l e =
    ap definitions_of (take_more rules i rule l ∙ ap (λ (r : Rule). take i rules ++ r ∷ []) (sym e))
    ∙ map-append (λ (r : Rule). r.definition) (take i rules) (rule ∷ [])

abbrev new_tree : ℕ → Definition → Tree
new_tree rule definition = record { definition = definition; rule = rule; paths = empty_of definition ∷ []; reserve = None }

new_trees_push : (rule n : ℕ) (ds : List Definition) (d : Definition) → n ≡ rule + length ds → new_trees rule (ds ++ d ∷ []) ≡ new_trees rule ds ++ new_tree n d ∷ []
new_trees_push rule n [] d e = let is : rule ≡ n = omega arith in λ i. new_tree (is i) d ∷ []
new_trees_push rule n (x ∷ ds) d e = ap (λ (ts : List Tree). new_tree rule x ∷ ts) (new_trees_push (rule + 1) n ds d (omega arith))

-- one rule more is one tree more
pub new_trees_more : (rules : List Rule) (i n : ℕ) (rule : Rule) (trees now : List Tree) (tree : Tree) → i < length rules → rule ≡ get_or rules i rule → n ≡ i + 1 → tree ≡ new_tree n rule.definition
    → trees ≡ new_trees 1 (definitions_of (take i rules)) → now ≡ trees ++ tree ∷ [] → now ≡ new_trees 1 (definitions_of (take (i + 1) rules))
new_trees_more rules i n rule trees now tree within is number made before more =
    let count : length (definitions_of (take i rules)) ≡ i = length-map (take i rules) (λ (r : Rule). r.definition) ∙ length-take-le i rules (omega arith) in
    more
    ∙ (λ j. before j ++ made j ∷ [])
    ∙ sym (new_trees_push 1 n (definitions_of (take i rules)) rule.definition (omega arith))
    ∙ ap (new_trees 1) (sym (definitions_more rules i rule within is))

-- a rule of rules that have few patterns
pub patterns_at : (rules : List Rule) (i : ℕ) (rule : Rule) → i < length rules → rule ≡ get_or rules i rule → AllByRecursion HasPatterns (definitions_of rules) → HasPatterns rule.definition
patterns_at [] i rule within is h = absurd (omega arith)
patterns_at (r ∷ rules) zero rule within is h = subst (λ (x : Rule). HasPatterns x.definition) (sym is) h.0
patterns_at (r ∷ rules) (suc i) rule within is h = patterns_at rules i rule (omega arith) is h.1

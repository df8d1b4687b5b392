-- What is small of a whole is small of its parts.
use Rattle.std.proofs.Common.{◌≡◌, ℕ, zero, suc, ◌+◌, ◌<◌, ◌≤◌, List, [], ◌∷◌, length, get_or, map, Option, None, Some, sym, subst, arith}
use Rattle.std.specs.List.{AllByRecursion}
use Rattle.join_base.specs.declared.message.Sort.{Sort}
use Rattle.script_grammar.specs.declared.tree.MessageDecl.{MessageDecl}
use Rattle.script_grammar.specs.declared.tree.PatternDecl.{PatternDecl}
use Rattle.script_names.specs.Scope.{sort_at, sorts_of, variable_at, variables_from, variables_in}
use Rattle.script_plan.specs.Small.{IsSmallPattern, IsWithin}
pub use Rattle.join_base.proofs.EachLemmas.{each_append}

-- a fact of what each item gives holds of the item that a loop has reached
pub each_reached_by : {X Y : Type 0} (P : Y → Type 0) (f : X → Y) (xs : List X) (i : ℕ) (x : X) → i < length xs → x ≡ get_or xs i x → AllByRecursion P (map f xs) → P (f x)
each_reached_by P f [] i x within is each = absurd (omega arith)
each_reached_by {X} P f (y ∷ xs) zero x within is each = let Q : X → Type 0 = λ z. P (f z) in subst Q (sym is) each.0
each_reached_by P f (y ∷ xs) (suc i) x within is each = each_reached_by P f xs i x (omega arith) is each.1

-- ---- the variables of a small definition

within_at : (place pattern field : ℕ) (s : Sort) (name : Option (List ℕ)) → pattern < 8 → field < 8
    → AllByRecursion IsWithin (variable_at (record { place = place; pattern = pattern; field = field; sort = s }) name)
within_at place pattern field s None p f = tt
within_at place pattern field s (Some name) p f = ((p, f), tt)

within_pattern : (pattern : ℕ) (sorts : List Sort) (field : ℕ) (variables : List (ℕ × Option (List ℕ))) → pattern < 8 → field + length variables ≤ 8
    → AllByRecursion IsWithin (variables_in pattern sorts field variables)
within_pattern pattern sorts field [] p f = tt
within_pattern pattern sorts field (v ∷ vs) p f =
    each_append IsWithin (variable_at (record { place = v.0; pattern = pattern; field = field; sort = sort_at sorts field }) v.1) (variables_in pattern sorts (field + 1) vs)
    (within_at v.0 pattern field (sort_at sorts field) v.1 p (omega arith)) (within_pattern pattern sorts (field + 1) vs p (omega arith))

pub within_definition : (messages : List MessageDecl) (pattern : ℕ) (patterns : List PatternDecl) → pattern + length patterns ≤ 8 → AllByRecursion IsSmallPattern patterns
    → AllByRecursion IsWithin (variables_from messages pattern patterns)
within_definition messages pattern [] p each = tt
within_definition messages pattern (d ∷ ds) p each =
    let here : 0 + length d.variables ≤ 8 = omega (arith, each.0) in
    each_append IsWithin (variables_in pattern (sorts_of messages d.kind.name) 0 d.variables) (variables_from messages (pattern + 1) ds)
    (within_pattern pattern (sorts_of messages d.kind.name) 0 d.variables (omega arith) here) (within_definition messages (pattern + 1) ds (omega arith) each.1)

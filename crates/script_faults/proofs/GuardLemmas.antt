-- The faults of a guard, from those of its comparisons as they are read.
use Rattle.std.proofs.Common.{◌≡◌, ◌∙◌, ◌++◌, ◌+◌, ℕ, ◌&&◌, not, List, [], ◌∷◌, Bor, Option, Ok, refl, sym, ap}
use Rattle.std.specs.Prelude.{false, fold, true}
use Rattle.script_tokens.specs.declared.token.Token.{Token}
use Rattle.script_tokens.specs.declared.token.Mark.TheVariants as m
use Rattle.script_grammar.specs.Atoms.{Atom, Atoms, atoms_of, compares, grouped, negated}
use Rattle.script_grammar.specs.Grammar.{relation_of}
use Rattle.script_grammar.specs.Operands.{operand_place}
use Rattle.script_grammar.specs.Reading.{head, token}
use Rattle.script_grammar.specs.ScriptReading.{Reads, compare_read, conjunct_read, atom_read, group_read, guard_read, is_mark, mark_read, not_read, operand_read, separated_read}
use Rattle.script_grammar.specs.declared.fault.ScriptCause.TheVariants.{WrongType}
use Rattle.script_grammar.specs.declared.operand.OperandDecl.{OperandDecl}
use Rattle.join_base.specs.declared.message.Relation.{Relation}
use Rattle.join_base.specs.declared.message.Sort.{Sort}
use Rattle.script_names.specs.Scope.{Variable, operand_sort}
use Rattle.script_faults.specs.declared.first.Fault.{Fault}
use Rattle.script_faults.specs.declared.guard.Compared.{Compared}
use Rattle.script_faults.specs.First.{fault_if, first_of}
use Rattle.script_grammar.specs.Gives.{Noted}
use Rattle.script_faults.specs.Numbered.{at_most, numbered_faults}
use Rattle.script_faults.specs.Steps.{atom_after, comparison_after, conjunct_after}
use Rattle.script_faults.specs.Faults.{Comparing, atom_comparisons, comparison_faults, comparisons, guard_comparisons, guard_faults, is_order, is_same, is_words, operand_faults}
use Rattle.script_faults.proofs.FirstLemmas.{first_of-append, first_of-then}
use Rattle.script_faults.proofs.SameLemmas.{numbered_same}

-- an operand's place and type
abbrev Side : Type 0
Side = ℕ × Sort

abbrev side_of : List Variable → OperandDecl → Side
side_of variables o = (operand_place o, operand_sort variables o)

-- ---- one comparison

abbrev sorts_wrong : Side → Relation → Side → List Fault
sorts_wrong l r o = fault_if (is_order r && is_words l.1) WrongType l.0 ++ fault_if (not (is_same l.1 o.1)) WrongType o.0

pub noted_compare : (s new : Compared) (l o : Side) (r : Relation) (one two three : Option Fault) (tokens middle more rest : List Token)
    → Noted (λ x. (l ≡ side_of s.variables.now x) × (one ≡ first_of s.found (operand_faults s.variables.now x))) middle (operand_read tokens) → token relation_of middle ≡ Ok (r, more)
    → Noted (λ x. (o ≡ side_of s.variables.now x) × (two ≡ first_of one (operand_faults s.variables.now x))) rest (operand_read more)
    → three ≡ first_of two (sorts_wrong l r o) → new.variables ≡ s.variables → new.number ≡ s.number + 1 → new.found ≡ first_of three (at_most 64 s.number l.0)
    → Noted (λ atom. new ≡ atom_after s atom) rest (compare_read tokens)
unfolding compare_read
noted_compare s new l o r one two three tokens middle more rest left related right is-three variables number is-found =
    let x = left.phrase in
    let y = right.phrase in
    let c : Comparing = record { left = x; relation = r; right = y } in
    let a = operand_faults s.variables.now x in
    let b = operand_faults s.variables.now y in
    let order = fault_if (is_order r && is_words (operand_sort s.variables.now x)) WrongType (operand_place x) in
    let other = fault_if (not (is_same (operand_sort s.variables.now x) (operand_sort s.variables.now y))) WrongType (operand_place y) in
    let many = at_most 64 s.number (operand_place x) in
    let wrong : three ≡ first_of two (order ++ other) =
    is-three ∙ ap (λ (p : Side). first_of two (sorts_wrong p r o)) left.holds.0 ∙ ap (λ (p : Side). first_of two (sorts_wrong (side_of s.variables.now x) r p)) right.holds.0 in
    let ordered : three ≡ first_of (first_of two order) other = wrong ∙ first_of-append two order other in
    let first : first_of two order ≡ first_of s.found (a ++ b ++ order) =
    first_of-then s.found two (first_of two order) (a ++ b) order (first_of-then s.found one two a b left.holds.1 right.holds.1) refl in
    let last : new.found ≡ first_of three many = is-found ∙ ap (λ (p : Side). first_of three (at_most 64 s.number p.0)) left.holds.0 in
    let found : new.found ≡ first_of s.found (comparison_faults s.variables.now c ++ many) =
    first_of-then s.found three new.found (a ++ b ++ order ++ other) many (first_of-then s.found (first_of two order) three (a ++ b ++ order) other first ordered) last in
    record {
      phrase = compares x r y;
      reads = rw (left.reads, related, right.reads) refl;
      holds = λ i. record { variables = variables i; number = number i; found = found i };
    }

-- ---- atoms

fold_append : {X S : Type 0} (after : S → X → S) (s : S) (xs ys : List X) → fold after s (xs ++ ys) ≡ fold after (fold after s xs) ys
fold_append after s [] ys = refl
fold_append after s (x ∷ xs) ys = fold_append after (after s x) xs ys

atoms_fold : (s : Compared) (atoms : List Atom) → fold atom_after s atoms ≡ fold comparison_after s (comparisons (atoms_of atoms))
atoms_fold s [] = refl
atoms_fold s (atom ∷ atoms) = atoms_fold (atom_after s atom) atoms ∙ sym (fold_append comparison_after s (atom_comparisons atom) (comparisons (atoms_of atoms)))

pub noted_not : {s new : Compared} (inner : Reads Atom) (place : ℕ) (tokens more rest : List Token) → mark_read m.Not tokens ≡ Ok (place, more)
    → Noted (λ atom. new ≡ atom_after s atom) rest (inner more) → Noted (λ atom. new ≡ atom_after s atom) rest (not_read inner tokens)
noted_not inner place tokens more rest read noted = record { phrase = negated noted.phrase; reads = rw (read, noted.reads) refl; holds = noted.holds }

pub noted_group : {s new : Compared} (inner : Reads Atom) (place close : ℕ) (tokens more closing rest : List Token) → mark_read m.Open tokens ≡ Ok (place, more)
    → Noted (λ atoms. new ≡ fold atom_after s atoms) closing (separated_read m.Or inner more) → mark_read m.Close closing ≡ Ok (close, rest)
    → Noted (λ atom. new ≡ atom_after s atom) rest (group_read inner tokens)
noted_group {s} inner place close tokens more closing rest read noted closed = record {
  phrase = grouped (atoms_of noted.phrase);
  reads = rw (read, noted.reads, closed) refl;
  holds = noted.holds ∙ atoms_fold s noted.phrase;
}

pub noted_conjunct : (s new : Compared) (tokens rest : List Token) → Noted (λ atoms. new ≡ fold atom_after s atoms) rest (separated_read m.Or (atom_read 32) tokens)
    → Noted (λ atoms. new ≡ conjunct_after s atoms) rest (conjunct_read tokens)
unfolding conjunct_read
noted_conjunct s new tokens rest noted = record { phrase = atoms_of noted.phrase; reads = rw noted.reads refl; holds = noted.holds ∙ atoms_fold s noted.phrase }

-- ---- a guard

conjuncts_fold : (s : Compared) (guard : List Atoms) → fold conjunct_after s guard ≡ fold comparison_after s (guard_comparisons guard)
conjuncts_fold s [] = refl
conjuncts_fold s (atoms ∷ guard) = conjuncts_fold (conjunct_after s atoms) guard ∙ sym (fold_append comparison_after s (comparisons atoms) (guard_comparisons guard))

abbrev left_place : Comparing → ℕ
left_place c = operand_place c.left

compared_found : (s : Compared) (cs : List Comparing) → (fold comparison_after s cs).found ≡ first_of s.found (numbered_faults 64 left_place (comparison_faults s.variables.now) s.number cs)
compared_found s [] = refl
compared_found s (c ∷ cs) =
    compared_found (comparison_after s c) cs
    ∙ sym (first_of-append s.found (comparison_faults s.variables.now c ++ at_most 64 s.number (left_place c)) (numbered_faults 64 left_place (comparison_faults s.variables.now) (s.number + 1) cs))

pub noted_no_guard : (variables : List Variable) (found : Option Fault) (tokens : List Token) → is_mark m.If (head tokens) ≡ false
    → Noted (λ guard. found ≡ first_of found (guard_faults variables (guard_comparisons guard))) tokens (guard_read tokens)
unfolding guard_read
noted_no_guard variables found tokens none = record { phrase = []; reads = rw none refl; holds = refl }

pub noted_guard : (variables : Bor (List Variable)) (before : Option Fault) (new : Compared) (place : ℕ) (tokens more rest : List Token) → is_mark m.If (head tokens) ≡ true
    → mark_read m.If tokens ≡ Ok (place, more)
    → Noted (λ guard. new ≡ fold conjunct_after (record { variables = variables; number = 0; found = before }) guard) rest (separated_read m.And conjunct_read more)
    → Noted (λ guard. new.found ≡ first_of before (guard_faults variables.now (guard_comparisons guard))) rest (guard_read tokens)
unfolding guard_read
noted_guard variables before new place tokens more rest some read noted =
    let start : Compared = record { variables = variables; number = 0; found = before } in
    let cs = guard_comparisons noted.phrase in
    record {
      phrase = noted.phrase;
      reads = rw (some, read) noted.reads;
      holds = ap (λ (c : Compared). c.found) (noted.holds ∙ conjuncts_fold start noted.phrase) ∙ compared_found start cs ∙ (numbered_same 64 left_place (comparison_faults variables.now) cs).is before;
    }

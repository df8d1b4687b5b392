-- The texts of conditions and guards print what they were read from.
use Rattle.std.proofs.Common.{◌≡◌, ◌∙◌, ℕ, zero, suc, List, [], ◌∷◌, ◌++◌, map, Some, refl, sym, ap, subst}
use Rattle.std.specs.Prelude.{codes}
use Rattle.std.specs.List.{AllByRecursion, flat_map}
use Rattle.std.proofs.lemmas.List.{append-nil}
use Rattle.join_base.specs.declared.message.Relation.{Relation}
use Rattle.join_base.specs.declared.message.Relation.TheVariants as relation
use Rattle.guard_eval.specs.Condition.{Condition}
use Rattle.script_tokens.specs.declared.token.Kind.{Kind}
use Rattle.script_tokens.specs.declared.token.Kind.TheVariants as kind
use Rattle.script_tokens.specs.declared.token.Mark.TheVariants as m
use Rattle.script_grammar.specs.declared.operand.OperandDecl.{OperandDecl}
use Rattle.script_grammar.specs.Atoms.{Atom, Atoms, compares, negated, grouped, no_atoms, either, listed_atoms}
use Rattle.script_grammar.specs.Phrases.{one, ◌then◌, separated}
use Rattle.script_grammar.specs.Grammar as g
use Rattle.script_names.specs.Scope.{Variable}
use Rattle.script_faults.specs.First.{too_many}
use Rattle.script_faults.specs.Faults.{Comparing, atom_comparisons, comparison_faults, comparisons, guard_comparisons, guard_faults, operand_faults, operand_place}
use Rattle.script_plan.specs.PlanOf.{atom_of, condition_of, operand_of}
use Rattle.script_check.proofs.NumberLemmas.{right_none}
use Rattle.script_check.proofs.SmallLemmas.{each_left, each_none, each_one, each_right, operands_right}
use Rattle.plan_text.specs.PlanNames.{Variables}
use Rattle.plan_text.proofs.GuardLemmas.{one_text}
use Rattle.plan_text.specs.GuardText.{atom_texts, comparison_text, condition_text, either_text, guard_text, operand_text, relation_text}
use Rattle.plan_law.proofs.NamedLemmas.{Names}
use Rattle.plan_law.proofs.PhraseLemmas.{Begins, Prints, begins_text, begins_then, prints_any_then, prints_behind, prints_mark, prints_nothing, prints_one, prints_separated, prints_text, prints_then, prints_unequal_then}
use Rattle.plan_law.proofs.TermLemmas.{begins_operand, prints_operand}
use Rattle.plan_law.proofs.TokenLemmas.{Spaced, and_writes, between_spaces, close_writes, equal_writes, greater_equal_writes, greater_writes, if_is, keyword_space_writes, less_equal_writes, less_writes, not_equal_writes, not_writes, open_writes, or_writes, space_leads, space_writes}
use Rattle.plan_law.proofs.WriteLemmas.{Writes, Any, Ends, Leads, writes_as}

-- ---- relations

-- a mark between operands
relation_kind : (k : Kind) (r : Relation) → g.relation_by k ≡ Some r → Writes Spaced (relation_text r) (k ∷ [])
relation_kind (kind.Mark m.Equal) r e = let same : relation.Equal ≡ r = cc in subst (λ (x : Relation). Writes Spaced (relation_text x) (kind.Mark m.Equal ∷ [])) same equal_writes
relation_kind (kind.Mark m.NotEqual) r e = let same : relation.NotEqual ≡ r = cc in subst (λ (x : Relation). Writes Spaced (relation_text x) (kind.Mark m.NotEqual ∷ [])) same not_equal_writes
relation_kind (kind.Mark m.Less) r e = let same : relation.Less ≡ r = cc in subst (λ (x : Relation). Writes Spaced (relation_text x) (kind.Mark m.Less ∷ [])) same less_writes
relation_kind (kind.Mark m.LessEqual) r e = let same : relation.LessEqual ≡ r = cc in subst (λ (x : Relation). Writes Spaced (relation_text x) (kind.Mark m.LessEqual ∷ [])) same less_equal_writes
relation_kind (kind.Mark m.Greater) r e = let same : relation.Greater ≡ r = cc in subst (λ (x : Relation). Writes Spaced (relation_text x) (kind.Mark m.Greater ∷ [])) same greater_writes
relation_kind (kind.Mark m.GreaterEqual) r e = let same : relation.GreaterEqual ≡ r = cc in subst (λ (x : Relation). Writes Spaced (relation_text x) (kind.Mark m.GreaterEqual ∷ [])) same greater_equal_writes
relation_kind _ r e = absurd cc

prints_relation : (r : Relation) → Prints Spaced (one g.relation_of r) (relation_text r)
prints_relation r = prints_one (λ t lexed is. relation_kind t.kind r is)

-- ---- atoms and their comparisons

module _ (variables : List Variable) where
  abbrev Right : Comparing → Type 0
  Right c = comparison_faults variables c ≡ []

  -- an atom none of whose comparisons has a fault
  abbrev pub AtomRight : Atom → Type 0
  AtomRight a = AllByRecursion Right (atom_comparisons a)

  atoms_right : (atoms : Atoms) → AllByRecursion Right (comparisons atoms) → AllByRecursion AtomRight (listed_atoms atoms)
  atoms_right no_atoms each = tt
  atoms_right (either a atoms) each = (each_left Right (atom_comparisons a) (comparisons atoms) each, atoms_right atoms (each_right Right (atom_comparisons a) (comparisons atoms) each))

  conjuncts_right : (guard : List Atoms) → AllByRecursion Right (flat_map comparisons guard) → AllByRecursion (λ (c : Atoms). AllByRecursion AtomRight (listed_atoms c)) guard
  conjuncts_right [] each = tt
  conjuncts_right (c ∷ cs) each = (atoms_right c (each_left Right (comparisons c) (flat_map comparisons cs) each), conjuncts_right cs (each_right Right (comparisons c) (flat_map comparisons cs) each))

-- ---- the texts of atoms

module _ (variables : List Variable) (rows : Variables) where
  abbrev atom_text : Atom → List ℕ
  atom_text a = condition_text rows (atom_of variables a)

  -- an atom has one text
  atom_texts-atom : (a : Atom) → atom_texts rows (atom_of variables a) ≡ atom_text a ∷ []
  atom_texts-atom (compares left relation right) = one_text (comparison_text rows (operand_of variables left) relation (operand_of variables right))
  atom_texts-atom (negated a) = one_text (codes "!" ++ atom_text a)
  atom_texts-atom (grouped atoms) = one_text (codes "(" ++ (condition_text rows (condition_of variables atoms) ++ codes ")"))

  atom_texts-atoms : (atoms : Atoms) → atom_texts rows (condition_of variables atoms) ≡ map atom_text (listed_atoms atoms)
  atom_texts-atoms no_atoms = refl
  atom_texts-atoms (either a atoms) =
      ap (λ (texts : List (List ℕ)). texts ++ atom_texts rows (condition_of variables atoms)) (atom_texts-atom a) ∙ ap (λ (texts : List (List ℕ)). atom_text a ∷ texts) (atom_texts-atoms atoms)

  atoms_text : (atoms : Atoms) → condition_text rows (condition_of variables atoms) ≡ either_text (map atom_text (listed_atoms atoms))
  atoms_text atoms = ap either_text (atom_texts-atoms atoms)

  -- ---- atoms, conditions and guards

  module _ (named : Names rows variables) where
    -- two operands and what is between them
    prints_comparison : (left : OperandDecl) (r : Relation) (right : OperandDecl) → operand_faults variables left ≡ [] → operand_faults variables right ≡ []
        → Prints Ends (g.operand left then one g.relation_of r then g.operand right) (comparison_text rows (operand_of variables left) r (operand_of variables right))
    prints_comparison left r right no_left no_right =
        let text : List ℕ = operand_text rows (operand_of variables right) in
        prints_then (prints_operand variables rows named left no_left) (λ rest q. record { ends = refl })
        (prints_behind space_writes (prints_then (prints_relation r) (space_leads text Ends) (prints_behind space_writes (prints_operand variables rows named right no_right))))

    or_between : Prints Any (g.mark m.Or) (codes " || ")
    or_between = prints_mark (between_spaces or_writes)

    or_ends : (rest : List ℕ) → Ends (codes " || " ++ rest)
    or_ends rest = record { ends = refl }

    abbrev AtomPrints : ℕ → Atom → Type 0
    AtomPrints depth a = Prints Ends (g.atom depth a) (atom_text a)

    prints_atoms : (depth : ℕ) (atoms : Atoms) → AllByRecursion (AtomPrints depth) (listed_atoms atoms) → Prints Ends (separated (g.mark m.Or) (g.atom depth) (listed_atoms atoms)) (condition_text rows (condition_of variables atoms))
    prints_atoms depth atoms each = prints_text (sym (atoms_text atoms)) (prints_separated (g.atom depth) atom_text (λ (t : List ℕ). t) or_between or_ends (listed_atoms atoms) each)

    -- an atom does not begin with `=`
    begins_atom : (depth : ℕ) (a : Atom) → AtomRight variables a → Begins (g.atom depth a) (atom_text a)
    begins_atom depth (compares left r right) each =
        let rights = operands_right variables (record { left = left; relation = r; right = right }) each.0 in
        let text : List ℕ = operand_text rows (operand_of variables right) in
        begins_text (sym (append-nil (comparison_text rows (operand_of variables left) r (operand_of variables right))))
        (begins_then (codes " " ++ (relation_text r ++ (codes " " ++ text))) (begins_operand variables rows named left rights.0))
    begins_atom depth (negated a) each = record { begins = λ tokens lexed h. record { opens = λ rest. record { other = refl } } }
    begins_atom depth (grouped atoms) each = record { begins = λ tokens lexed h. record { opens = λ rest. record { other = refl } } }

    prints_compares : (left : OperandDecl) (r : Relation) (right : OperandDecl) → AtomRight variables (compares left r right) → Prints Ends (g.operand left then one g.relation_of r then g.operand right) (atom_text (compares left r right))
    prints_compares left r right each =
        let rights = operands_right variables (record { left = left; relation = r; right = right }) each.0 in
        prints_text (sym (append-nil (comparison_text rows (operand_of variables left) r (operand_of variables right)))) (prints_comparison left r right rights.0 rights.1)

    prints_negated : (depth : ℕ) (a : Atom) → AtomRight variables a → AtomPrints depth a → AtomPrints (suc depth) (negated a)
    prints_negated depth a each prints =
        prints_text (sym (append-nil (codes "!" ++ atom_text a))) (prints_unequal_then (prints_mark not_writes) (begins_atom depth a each) prints)

    prints_grouped : (depth : ℕ) (atoms : Atoms) → AllByRecursion (AtomPrints depth) (listed_atoms atoms) → AtomPrints (suc depth) (grouped atoms)
    prints_grouped depth atoms each =
        let text : List ℕ = condition_text rows (condition_of variables atoms) in
        prints_text (sym (append-nil (codes "(" ++ (text ++ codes ")"))))
        (prints_any_then (prints_mark open_writes) (prints_then (prints_atoms depth atoms each) (λ rest q. record { ends = refl }) (prints_mark (writes_as close_writes))))

    -- an atom none of whose comparisons has a fault
    prints_atom : (depth : ℕ) (a : Atom) → AtomRight variables a → AtomPrints depth a
    prints_atom depth (compares left r right) each = prints_compares left r right each
    prints_atom zero (negated a) each = record { prints = λ tokens lexed h. absurd h }
    prints_atom zero (grouped atoms) each = record { prints = λ tokens lexed h. absurd h }
    prints_atom (suc depth) (negated a) each = prints_negated depth a each (prints_atom depth a each)
    prints_atom (suc depth) (grouped atoms) each = prints_grouped depth atoms (each_one (AtomRight variables) (AtomPrints depth) (prints_atom depth) (listed_atoms atoms) (atoms_right variables atoms each))

    -- atoms with `||` between them
    prints_conjunct : (c : Atoms) → AllByRecursion (AtomRight variables) (listed_atoms c) → Prints Ends (g.conjunct c) (condition_text rows (condition_of variables c))
    prints_conjunct c each = prints_atoms 32 c (each_one (AtomRight variables) (AtomPrints 32) (prints_atom 32) (listed_atoms c) each)

    and_between : Prints Any (g.mark m.And) (codes " && ")
    and_between = prints_mark (between_spaces and_writes)

    if_before : Prints Any (g.mark m.If) (codes " if ")
    if_before = prints_behind space_writes (prints_mark (keyword_space_writes (codes "if") m.If if_is))

    conjuncts_print : (guard : List Atoms) → AllByRecursion (λ (c : Atoms). AllByRecursion (AtomRight variables) (listed_atoms c)) guard → Prints Ends (g.guard guard) (guard_text rows (map (condition_of variables) guard))
    conjuncts_print [] each = prints_nothing Ends
    conjuncts_print (c ∷ cs) each =
        prints_any_then if_before
        (prints_separated g.conjunct (condition_of variables) (condition_text rows) and_between (λ rest. record { ends = refl }) (c ∷ cs)
        (each_one (λ (c : Atoms). AllByRecursion (AtomRight variables) (listed_atoms c)) (λ (c : Atoms). Prints Ends (g.conjunct c) (condition_text rows (condition_of variables c))) prints_conjunct (c ∷ cs) each))

    -- a guard without a fault
    pub prints_guard : (guard : List Atoms) → guard_faults variables (guard_comparisons guard) ≡ [] → Prints Ends (g.guard guard) (guard_text rows (map (condition_of variables) guard))
    prints_guard guard none =
        let cs = guard_comparisons guard in
        conjuncts_print guard (conjuncts_right variables guard (each_none (comparison_faults variables) cs (right_none (too_many 64 (λ (c : Comparing). operand_place c.left) cs) (flat_map (comparison_faults variables) cs) none)))

-- what is behind a guard, or the guard, ends the word before it
pub guard_leads : (rows : Variables) (conditions : List Condition) (text : List ℕ) → Leads Ends (guard_text rows conditions ++ (codes " " ++ text)) Any
guard_leads rows [] text rest q = record { ends = refl }
guard_leads rows (c ∷ cs) text rest q = record { ends = refl }

-- The guard of a dead definition is never true.
use Rattle.std.proofs.Common.{◌≡◌, ◌∙◌, inl, inr, List, [], Bool, true, false, not, ◌||◌, Option, None, Some, refl, ap, sym, subst}
use Rattle.std.specs.Option.{option_and_then}
use Rattle.std.specs.List.{AllByRecursion}
use Rattle.std.specs.Str.{bytes_eq}
use Rattle.std.proofs.lemmas.Slice.Eq.{bytes_eq-Decides}
use Rattle.std.proofs.lemmas.Bool.{not-true}
use Rattle.join_base.specs.declared.message.Message.{Message}
use Rattle.join_base.specs.declared.message.Relation.TheVariants.{Equal, NotEqual, Less, LessEqual, Greater, GreaterEqual}
use Rattle.guard_eval.specs.Condition.{Condition, Never, Compares, Negated, Grouped, Either}
use Rattle.guard_eval.specs.declared.term.Place.{Place}
use Rattle.guard_eval.specs.declared.term.WordsLeaf.{WordsLeaf}
use Rattle.guard_eval.specs.declared.term.WordsLeaf.TheVariants as words
use Rattle.guard_eval.specs.declared.term.Operand.TheVariants as operand
use Rattle.guard_eval.specs.Meaning.{Assignment, has_some, is_true, needs_of, value_at, words_of, words_value}
use Rattle.guard_eval.proofs.ExtendLemmas.{both_true}
use Rattle.pattern_core.specs.declared.definition.Definition.{Definition}
use Rattle.pattern_core.specs.Matches.{makes_all_true}
use Rattle.pattern_core.specs.Members.{IsIn}
use Rattle.script_lint.specs.declared.bounds.Bound.{Bound}
use Rattle.script_lint.specs.Bounds.{bound_of, interval_of, is_same_place, only_atom}
use Rattle.script_lint.specs.Findings.{Fixing, fixes_otherwise, fixing_by, fixing_of, fixing_of_atom, is_always_false, is_constant, is_contradicted, is_dead, is_emptied, is_excluded}
use Rattle.script_lint.specs.Law.{HasValuesInRange}
use Rattle.script_lint.proofs.BoundLemmas.{constant, empty_has_none, in_interval, is_same_place-tells, only_is}
use Rattle.script_lint.proofs.ListLemmas.{all_at, any_in, or_cases}

pub not_both : (b : Bool) → b ≡ true → b ≡ false → ⊥
not_both true e f = absurd cc
not_both false e f = absurd cc

module _ (messages : List Message) (slots : Assignment) where
  -- a fixing conjunct that is true says the text of its place
  fixing_by_says : (l r : WordsLeaf) (f : Fixing) → fixing_by l r ≡ Some f → bytes_eq (words_value messages slots l) (words_value messages slots r) ≡ true → words_of (value_at messages slots f.0) ≡ f.1
  fixing_by_says (words.Field p) (words.Fixed t) f e h =
      let same : (p, t) ≡ f = cc in
      let Says : Fixing → Type 0 = λ g. words_of (value_at messages slots g.0) ≡ g.1 in
      subst Says same ((bytes_eq-Decides (words_of (value_at messages slots p)) t).0 h)
  fixing_by_says (words.Fixed t) (words.Field p) f e h =
      let same : (p, t) ≡ f = cc in
      let Says : Fixing → Type 0 = λ g. words_of (value_at messages slots g.0) ≡ g.1 in
      subst Says same (sym ((bytes_eq-Decides t (words_of (value_at messages slots p))).0 h))
  fixing_by_says (words.Fixed t) (words.Fixed u) f e h = absurd cc
  fixing_by_says (words.Field p) (words.Field q) f e h = absurd cc

  fixing_atom_says : (atom : Condition) (f : Fixing) → fixing_of_atom atom ≡ Some f → is_true messages slots atom ≡ true → words_of (value_at messages slots f.0) ≡ f.1
  fixing_atom_says Never f e h = absurd cc
  fixing_atom_says (Compares (operand.Words l) Equal (operand.Words r)) f e h = fixing_by_says l r f e h
  fixing_atom_says (Compares (operand.Words l) NotEqual (operand.Words r)) f e h = absurd cc
  fixing_atom_says (Compares (operand.Words l) Less (operand.Words r)) f e h = absurd cc
  fixing_atom_says (Compares (operand.Words l) LessEqual (operand.Words r)) f e h = absurd cc
  fixing_atom_says (Compares (operand.Words l) Greater (operand.Words r)) f e h = absurd cc
  fixing_atom_says (Compares (operand.Words l) GreaterEqual (operand.Words r)) f e h = absurd cc
  fixing_atom_says (Compares (operand.Words l) Equal (operand.Sum r)) f e h = absurd cc
  fixing_atom_says (Compares (operand.Words l) NotEqual (operand.Sum r)) f e h = absurd cc
  fixing_atom_says (Compares (operand.Words l) Less (operand.Sum r)) f e h = absurd cc
  fixing_atom_says (Compares (operand.Words l) LessEqual (operand.Sum r)) f e h = absurd cc
  fixing_atom_says (Compares (operand.Words l) Greater (operand.Sum r)) f e h = absurd cc
  fixing_atom_says (Compares (operand.Words l) GreaterEqual (operand.Sum r)) f e h = absurd cc
  fixing_atom_says (Compares (operand.Sum l) given right) f e h = absurd cc
  fixing_atom_says (Negated c) f e h = absurd cc
  fixing_atom_says (Grouped c) f e h = absurd cc
  fixing_atom_says (Either a b) f e h = absurd cc

  fixing_says : (c : Condition) (f : Fixing) → fixing_of c ≡ Some f → is_true messages slots c ≡ true → words_of (value_at messages slots f.0) ≡ f.1
  fixing_says c f e h = by (only_atom c) refl e
    where
      by : (o : Option Condition) → only_atom c ≡ o → option_and_then fixing_of_atom o ≡ Some f → words_of (value_at messages slots f.0) ≡ f.1
      by None g e = absurd cc
      by (Some atom) g e = fixing_atom_says atom f e (sym (only_is messages slots c atom g) ∙ h)

  module _ (values : AllByRecursion HasValuesInRange messages) (conjuncts : List Condition) (true_guard : makes_all_true messages conjuncts slots ≡ true) where
    true_at : (c : Condition) → IsIn c conjuncts → is_true messages slots c ≡ true
    true_at c m = all_at (is_true messages slots) conjuncts c m true_guard

    not_false : (c : Condition) → IsIn c conjuncts → is_always_false c ≡ true → ⊥
    not_false c m e =
        let parts = both_true (is_constant c) (not (is_true [] [] c)) e in
        not_both (is_true messages slots c) (true_at c m) (constant messages slots c (not-true (has_some (needs_of c)) parts.0) ∙ not-true (is_true [] [] c) parts.1)

    not_emptied : (o : Option Bound) → is_emptied conjuncts o ≡ true → ⊥
    not_emptied None e = absurd cc
    not_emptied (Some b) e = empty_has_none (interval_of conjuncts b.place) _ e (in_interval messages slots b.place conjuncts values true_guard)

    not_otherwise : (f : Fixing) → words_of (value_at messages slots f.0) ≡ f.1 → (other : Condition) → IsIn other conjuncts → fixes_otherwise f (fixing_of other) ≡ true → ⊥
    not_otherwise f says other m e = by (fixing_of other) refl e
      where
        by : (o : Option Fixing) → fixing_of other ≡ o → fixes_otherwise f o ≡ true → ⊥
        by None g e = absurd cc
        by (Some g) i e =
            let parts = both_true (is_same_place f.0 g.0) (not (bytes_eq f.1 g.1)) e in
            let place = is_same_place-tells f.0 g.0 parts.0 in
            let same : f.1 ≡ g.1 = sym says ∙ ap (λ (p : Place). words_of (value_at messages slots p)) place ∙ fixing_says other g i (true_at other m) in
            not_both (bytes_eq f.1 g.1) ((bytes_eq-Decides f.1 g.1).1 same) (not-true (bytes_eq f.1 g.1) parts.1)

    not_contradicted : (c : Condition) → IsIn c conjuncts → is_contradicted conjuncts (fixing_of c) ≡ true → ⊥
    not_contradicted c m e = by (fixing_of c) refl e
      where
        by : (o : Option Fixing) → fixing_of c ≡ o → is_contradicted conjuncts o ≡ true → ⊥
        by None g e = absurd cc
        by (Some f) g e =
            let found = any_in (λ (other : Condition). fixes_otherwise f (fixing_of other)) conjuncts e in
            not_otherwise f (fixing_says c f g (true_at c m)) found.0 found.1 found.2

    not_excluded : (c : Condition) → IsIn c conjuncts → is_excluded conjuncts c ≡ true → ⊥
    not_excluded c m e =
        elim (or_cases (is_always_false c) (is_emptied conjuncts (bound_of c) || is_contradicted conjuncts (fixing_of c)) e) [
          | inl f ↦ not_false c m f
          | inr f ↦ elim (or_cases (is_emptied conjuncts (bound_of c)) (is_contradicted conjuncts (fixing_of c)) f) [ inl g ↦ not_emptied (bound_of c) g | inr g ↦ not_contradicted c m g ]
        ]

  pub dead_is_false : (d : Definition) → AllByRecursion HasValuesInRange messages → makes_all_true messages d.conjuncts slots ≡ true → is_dead d ≡ true → ⊥
  dead_is_false d values h e =
      let found = any_in (is_excluded d.conjuncts) d.conjuncts e in
      not_excluded values d.conjuncts h found.0 found.1 found.2

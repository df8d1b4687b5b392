-- The texts of names, terms and operands print what they were read from.
use Rattle.std.proofs.Common.{◌≡◌, ◌∙◌, ℕ, Bool, true, false, ◌&&◌, not, ◌==◌, List, [], ◌∷◌, ◌++◌, length, Option, None, Some, refl, sym, ap, subst, ⊎_elim}
use Rattle.std.specs.Prelude.{ℤ, codes, if◌then◌else◌, unsigned_abs}
use Rattle.std.specs.Fmt.{decimal, signed_decimal}
use Rattle.std.specs.List.{AllByRecursion, flat_map}
use Rattle.std.proofs.lemmas.List.{append-nil}
use Rattle.join_base.specs.declared.message.Sort.{Sort}
use Rattle.join_base.specs.declared.message.Sort.TheVariants as sort
use Rattle.join_base.specs.Quoted.{quoted}
use Rattle.guard_eval.specs.declared.term.Signed.{Signed}
use Rattle.script_tokens.specs.declared.token.Kind.{Kind}
use Rattle.script_tokens.specs.declared.token.Kind.TheVariants as kind
use Rattle.script_tokens.specs.declared.token.Mark.TheVariants as m
use Rattle.script_grammar.specs.declared.tree.Spelt.{Spelt}
use Rattle.script_grammar.specs.declared.tree.Part.{Part}
use Rattle.script_grammar.specs.declared.tree.Part.TheVariants as part
use Rattle.script_grammar.specs.declared.tree.LeafDecl.{LeafDecl}
use Rattle.script_grammar.specs.declared.operand.OperandDecl.{OperandDecl}
use Rattle.script_grammar.specs.Operands as o
use Rattle.script_grammar.specs.Phrases.{one, ◌then◌}
use Rattle.script_grammar.specs.Grammar as g
use Rattle.script_names.specs.Scope.{Variable, name_in, only_name, sort_of}
use Rattle.script_faults.specs.First.{too_many}
use Rattle.script_faults.specs.Faults.{leaf_faults, operand_faults, part_faults, term_faults}
use Rattle.guard_eval.specs.declared.term.Operand.TheVariants as operand
use Rattle.guard_eval.specs.declared.term.WordsLeaf.TheVariants as words
use Rattle.script_plan.specs.PlanOf.{by_sort, leaf_of, operand_of, part_of, place_of, sum_operand, term_of}
use Rattle.script_check.proofs.NumberLemmas.{right_none}
use Rattle.script_check.proofs.SmallLemmas.{each_none, each_one}
use Rattle.plan_text.specs.PlanNames.{Variables, variable_name}
use Rattle.plan_text.specs.GuardText.{first_leaf, further_leaf, leaf_text, operand_text, term_text}
use Rattle.plan_law.proofs.LexedLemmas.{IsLexed, IsNumber}
use Rattle.plan_law.proofs.NamedLemmas.{Names, variable_named}
use Rattle.plan_law.proofs.PhraseLemmas.{Begins, begins_one, begins_text, begins_then, Prints, each_leads, prints_each, prints_mark_at, prints_one, prints_text, prints_then, prints_any_then}
use Rattle.plan_law.proofs.TokenLemmas.{minus_writes, name_opens, name_writes, plus_writes, space_writes}
use Rattle.plan_law.proofs.ValueLemmas.{number_opens, number_writes, quoted_writes}
use Rattle.plan_law.proofs.WriteLemmas.{Writes, Any, Ends, Opens, writes_text, writes_then}

-- ---- names and texts

name_kind : (place : ℕ) (k : Kind) (spelt : Spelt) → g.name_by place k ≡ Some spelt → IsLexed k → Writes Ends spelt.name (k ∷ [])
name_kind place (kind.Name name) spelt e lexed = let same : Path Spelt (record { name = name; place = place }) spelt = cc in subst (λ (s : Spelt). Writes Ends s.name (kind.Name name ∷ [])) same (name_writes name lexed)
name_kind place (kind.Mark a) spelt e lexed = absurd cc
name_kind place (kind.Number z) spelt e lexed = absurd cc
name_kind place (kind.Words text) spelt e lexed = absurd cc
name_kind place kind.Bad spelt e lexed = absurd cc

-- a name, which a text is
pub prints_name : (spelt : Spelt) (text : List ℕ) → text ≡ spelt.name → Prints Ends (g.name spelt) text
prints_name spelt text e = prints_text (sym e) (prints_one (λ t lexed is. name_kind t.place t.kind spelt is lexed))

words_kind : (place : ℕ) (k : Kind) (words : ℕ × List ℕ) → g.words_by place k ≡ Some words → IsLexed k → Writes Ends (quoted words.1) (k ∷ [])
words_kind place (kind.Words text) words e lexed = let same : Path (ℕ × List ℕ) (place, text) words = cc in subst (λ (w : ℕ × List ℕ). Writes Ends (quoted w.1) (kind.Words text ∷ [])) same (quoted_writes text lexed)
words_kind place (kind.Name name) words e lexed = absurd cc
words_kind place (kind.Mark a) words e lexed = absurd cc
words_kind place (kind.Number z) words e lexed = absurd cc
words_kind place kind.Bad words e lexed = absurd cc

-- a quoted text
pub prints_words : (place : ℕ) (words : List ℕ) → Prints Ends (one g.words_of (place, words)) (quoted words)
prints_words place words = prints_one (λ t lexed is. words_kind t.place t.kind (place, words) is lexed)

-- a number that was read has no sign
unsigned_text : (z : ℤ) → IsNumber z → signed_decimal z ≡ decimal (unsigned_abs z)
unsigned_text z h = rw (h.is) refl

numeral_kind : (place : ℕ) (k : Kind) (n : ℕ × ℤ) → g.numeral_by place k ≡ Some n → IsLexed k → Writes Ends (decimal (unsigned_abs n.1)) (k ∷ [])
numeral_kind place (kind.Number z) n e lexed =
    let same : Path (ℕ × ℤ) (place, z) n = cc in
    subst (λ (m : ℕ × ℤ). Writes Ends (decimal (unsigned_abs m.1)) (kind.Number z ∷ [])) same (writes_text (unsigned_text z lexed) (number_writes z lexed))
numeral_kind place (kind.Name name) n e lexed = absurd cc
numeral_kind place (kind.Mark a) n e lexed = absurd cc
numeral_kind place (kind.Words text) n e lexed = absurd cc
numeral_kind place kind.Bad n e lexed = absurd cc

-- a number that stands alone
pub prints_numeral : (n : ℕ × ℤ) → Prints Ends (one g.numeral_of n) (decimal (unsigned_abs n.1))
prints_numeral n = prints_one (λ t lexed is. numeral_kind t.place t.kind n is lexed)

-- ---- signs

abbrev sign_text : Bool → List ℕ
sign_text minus = if minus then codes " - " else codes " + "

sign_kind : (k : Kind) (minus : Bool) → g.sign_by k ≡ Some minus → Writes Any (sign_text minus) (k ∷ [])
sign_kind (kind.Mark m.Plus) false e = writes_then space_writes (writes_then plus_writes space_writes)
sign_kind (kind.Mark m.Plus) true e = absurd cc
sign_kind (kind.Mark m.Minus) true e = writes_then space_writes (writes_then minus_writes space_writes)
sign_kind (kind.Mark m.Minus) false e = absurd cc
sign_kind _ minus e = absurd cc

prints_sign : (minus : Bool) → Prints Any (one g.sign_of minus) (sign_text minus)
prints_sign minus = prints_one (λ t lexed is. sign_kind t.kind minus is)

sign_ends : (minus : Bool) (text rest : List ℕ) → Ends ((sign_text minus ++ text) ++ rest)
sign_ends true text rest = record { ends = refl }
sign_ends false text rest = record { ends = refl }

further_ends : (rows : Variables) (signed : Signed) (rest : List ℕ) → Ends (further_leaf rows signed ++ rest)
further_ends rows signed rest = sign_ends signed.minus (leaf_text rows signed.leaf) rest

-- ---- leaves and terms

module _ (variables : List Variable) (rows : Variables) (named : Names rows variables) where
  -- a number, or a name that is known
  part_kind : (place : ℕ) (k : Kind) (p : ℕ × Part) (alone : Bool) → g.part_by place k ≡ Some p → IsLexed k → part_faults variables alone p.0 p.1 ≡ [] → Writes Ends (leaf_text rows (part_of variables p.1)) (k ∷ [])
  part_kind place (kind.Number z) p alone e lexed none =
      let same : Path (ℕ × Part) (place, part.Number z) p = cc in
      subst (λ (q : ℕ × Part). Writes Ends (leaf_text rows (part_of variables q.1)) (kind.Number z ∷ [])) same (number_writes z lexed)
  part_kind place (kind.Name name) p alone e lexed none =
      let same : Path (ℕ × Part) (place, part.Named name) p = cc in
      let here = subst (λ (q : ℕ × Part). part_faults variables alone q.0 q.1 ≡ []) (sym same) none in
      subst (λ (q : ℕ × Part). Writes Ends (leaf_text rows (part_of variables q.1)) (kind.Name name ∷ [])) same (writes_text (sym (variable_named rows variables named alone place name here)) (name_writes name lexed))
  part_kind place (kind.Words text) p alone e lexed none = absurd cc
  part_kind place (kind.Mark a) p alone e lexed none = absurd cc
  part_kind place kind.Bad p alone e lexed none = absurd cc

  abbrev PartPrints : ℕ → Part → Type 0
  PartPrints place p = Prints Ends (one g.part_of (place, p)) (leaf_text rows (part_of variables p))

  prints_part : (place : ℕ) (p : Part) (alone : Bool) → part_faults variables alone place p ≡ [] → PartPrints place p
  prints_part place p alone none = prints_one (λ t lexed is. part_kind t.place t.kind (place, p) alone is lexed none)

  abbrev first_text : Bool → List ℕ → List ℕ
  first_text minus text = (if minus then codes "-" else []) ++ text

  -- a leaf, and a minus in front of it or nothing
  prints_first : (place : ℕ) (leaf : LeafDecl) → PartPrints leaf.place leaf.part → Prints Ends (g.first_leaf place leaf) (first_leaf rows (leaf_of variables leaf))
  prints_first place leaf prints =
      let text = leaf_text rows (part_of variables leaf.part) in
      record {
        prints = λ tokens lexed h.
            ⊎_elim
            (λ plain. writes_text (sym (ap (λ (b : Bool). first_text b text) plain.0)) (prints.prints tokens lexed plain.2))
            (λ minus.
            let both : Prints Ends (g.mark_at m.Minus place then one g.part_of (leaf.place, leaf.part)) (codes "-" ++ text) = prints_any_then (prints_mark_at minus_writes) prints in
            writes_text (sym (ap (λ (b : Bool). first_text b text) minus.0)) (both.prints tokens lexed minus.1))
            h;
      }

  abbrev Known : Bool → LeafDecl → Type 0
  Known alone leaf = leaf_faults variables alone leaf ≡ []

  part_known : (alone : Bool) (leaf : LeafDecl) → Known alone leaf → PartPrints leaf.place leaf.part
  part_known alone leaf none = prints_part leaf.place leaf.part (alone && not leaf.minus) none

  -- a sign and a leaf
  prints_further : (alone : Bool) (leaf : LeafDecl) → Known alone leaf → Prints Ends (g.further_leaf leaf) (further_leaf rows (leaf_of variables leaf))
  prints_further alone leaf none = prints_any_then (prints_sign leaf.minus) (part_known alone leaf none)

  prints_leaves : (place : ℕ) (alone : Bool) (leaves : List LeafDecl) → AllByRecursion (Known alone) leaves → Prints Ends (g.term place leaves) (term_text rows (term_of variables leaves))
  prints_leaves place alone [] none = record { prints = λ tokens lexed h. absurd h }
  prints_leaves place alone (leaf ∷ leaves) none =
      prints_then (prints_first place leaf (part_known alone leaf none.0)) (each_leads g.further_leaf (leaf_of variables) (further_leaf rows) (further_ends rows) (term_of variables leaves))
      (prints_each g.further_leaf (leaf_of variables) (further_leaf rows) (further_ends rows) leaves
      (each_one (Known alone) (λ (l : LeafDecl). Prints Ends (g.further_leaf l) (further_leaf rows (leaf_of variables l))) (prints_further alone) leaves none.1))

  -- a term whose names are known
  pub prints_term : (place : ℕ) (bare : Bool) (leaves : List LeafDecl) → term_faults variables bare leaves ≡ [] → Prints Ends (g.term place leaves) (term_text rows (term_of variables leaves))
  prints_term place bare leaves none =
      let alone = bare && length leaves == 1 in
      prints_leaves place alone leaves (each_none (leaf_faults variables alone) leaves (right_none (too_many 64 (λ (l : LeafDecl). l.place) leaves) (flat_map (leaf_faults variables alone) leaves) none))

  -- ---- operands

  only_by : (minus : Bool) (p : Part) (name : List ℕ) → name_in minus p ≡ Some name → variable_name rows (place_of variables name) ≡ first_text minus (leaf_text rows (part_of variables p)) ++ []
  only_by false (part.Named name) other e = let same : name ≡ other = cc in sym (append-nil (variable_name rows (place_of variables name)) ∙ ap (λ (n : List ℕ). variable_name rows (place_of variables n)) same)
  only_by false (part.Number z) other e = absurd cc
  only_by true p other e = absurd cc

  -- a term that is one name has the name's text
  only_text : (leaves : List LeafDecl) (name : List ℕ) → only_name leaves ≡ Some name → variable_name rows (place_of variables name) ≡ term_text rows (term_of variables leaves)
  only_text [] name e = absurd cc
  only_text (leaf ∷ []) name e = only_by leaf.minus leaf.part name e
  only_text (leaf ∷ other ∷ leaves) name e = absurd cc

  -- an operand that is a term has the term's text, also where it is one text variable
  sum_text : (leaves : List LeafDecl) (found : Option (List ℕ)) → only_name leaves ≡ found → operand_text rows (sum_operand variables leaves found) ≡ term_text rows (term_of variables leaves)
  sum_text leaves None e = refl
  sum_text leaves (Some name) e = by-sort (sort_of variables name)
    where
      by-sort : (s : Sort) → operand_text rows (by_sort s (operand.Sum (term_of variables leaves)) (operand.Words (words.Field (place_of variables name)))) ≡ term_text rows (term_of variables leaves)
      by-sort sort.Int = refl
      by-sort sort.Words = only_text leaves name e

  -- an operand whose names are known
  pub prints_operand : (x : OperandDecl) → operand_faults variables x ≡ [] → Prints Ends (g.operand x) (operand_text rows (operand_of variables x))
  prints_operand (o.Fixed place words) none = prints_words place words
  prints_operand (o.Sum place leaves) none = prints_text (sym (sum_text leaves (only_name leaves) refl)) (prints_term place true leaves none)

  -- ---- where the text of an operand begins

  -- neither a number nor a name that is known begins with `=`
  part_opens : (place : ℕ) (k : Kind) (p : ℕ × Part) (alone : Bool) → g.part_by place k ≡ Some p → IsLexed k → part_faults variables alone p.0 p.1 ≡ [] → Opens (leaf_text rows (part_of variables p.1))
  part_opens place (kind.Number z) p alone e lexed none =
      let same : Path (ℕ × Part) (place, part.Number z) p = cc in
      subst (λ (q : ℕ × Part). Opens (leaf_text rows (part_of variables q.1))) same (number_opens z lexed)
  part_opens place (kind.Name name) p alone e lexed none =
      let same : Path (ℕ × Part) (place, part.Named name) p = cc in
      let here = subst (λ (q : ℕ × Part). part_faults variables alone q.0 q.1 ≡ []) (sym same) none in
      subst (λ (q : ℕ × Part). Opens (leaf_text rows (part_of variables q.1))) same (subst Opens (sym (variable_named rows variables named alone place name here)) (name_opens name lexed))
  part_opens place (kind.Words text) p alone e lexed none = absurd cc
  part_opens place (kind.Mark a) p alone e lexed none = absurd cc
  part_opens place kind.Bad p alone e lexed none = absurd cc

  abbrev PartBegins : ℕ → Part → Type 0
  PartBegins place p = Begins (one g.part_of (place, p)) (leaf_text rows (part_of variables p))

  begins_first : (place : ℕ) (leaf : LeafDecl) → PartBegins leaf.place leaf.part → Begins (g.first_leaf place leaf) (first_leaf rows (leaf_of variables leaf))
  begins_first place leaf begins =
      let text = leaf_text rows (part_of variables leaf.part) in
      record {
        begins = λ tokens lexed h.
            ⊎_elim
            (λ plain. subst Opens (sym (ap (λ (b : Bool). first_text b text) plain.0)) (begins.begins tokens lexed plain.2))
            (λ minus. subst Opens (sym (ap (λ (b : Bool). first_text b text) minus.0)) (record { opens = λ rest. record { other = refl } }))
            h;
      }

  begins_leaves : (place : ℕ) (alone : Bool) (leaves : List LeafDecl) → AllByRecursion (Known alone) leaves → Begins (g.term place leaves) (term_text rows (term_of variables leaves))
  begins_leaves place alone [] none = record { begins = λ tokens lexed h. absurd h }
  begins_leaves place alone (leaf ∷ leaves) none =
      begins_then (flat_map (further_leaf rows) (term_of variables leaves)) (begins_first place leaf (begins_one (λ t lexed is. part_opens t.place t.kind (leaf.place, leaf.part) (alone && not leaf.minus) is lexed none.0)))

  -- an operand does not begin with `=`
  pub begins_operand : (x : OperandDecl) → operand_faults variables x ≡ [] → Begins (g.operand x) (operand_text rows (operand_of variables x))
  begins_operand (o.Fixed place words) none = record { begins = λ tokens lexed h. record { opens = λ rest. record { other = refl } } }
  begins_operand (o.Sum place leaves) none =
      let alone = true && length leaves == 1 in
      let each = each_none (leaf_faults variables alone) leaves (right_none (too_many 64 (λ (l : LeafDecl). l.place) leaves) (flat_map (leaf_faults variables alone) leaves) none) in
      begins_text (sym (sum_text leaves (only_name leaves) refl)) (begins_leaves place alone leaves each)

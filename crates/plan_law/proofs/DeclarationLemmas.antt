-- The texts of messages and patterns print what they were read from.
use Rattle.std.proofs.Common.{◌≡◌, ℕ, List, [], ◌∷◌, ◌++◌, length, map, Option, Some, None, refl, sym, ap, subst}
use Rattle.std.specs.Prelude.{codes}
use Rattle.std.specs.List.{AllByRecursion, join_by}
use Rattle.join_base.specs.declared.message.Sort.{Sort}
use Rattle.join_base.specs.declared.message.Sort.TheVariants as sort
use Rattle.script_tokens.specs.declared.token.Kind.{Kind}
use Rattle.script_tokens.specs.declared.token.Kind.TheVariants as kind
use Rattle.script_tokens.specs.declared.token.Mark.TheVariants as m
use Rattle.script_grammar.specs.declared.tree.FieldDecl.{FieldDecl}
use Rattle.script_grammar.specs.declared.tree.MessageDecl.{MessageDecl}
use Rattle.script_grammar.specs.declared.tree.PatternDecl.{PatternDecl}
use Rattle.script_grammar.specs.declared.tree.Tree.{Tree}
use Rattle.script_grammar.specs.Phrases.{one, separated}
use Rattle.script_grammar.specs.Grammar as g
use Rattle.script_faults.specs.Faults.{pattern_faults}
use Rattle.script_plan.specs.PlanOf.{field_of, kind_of, names_in, pattern_of, plan_of}
use Rattle.script_check.proofs.SmallLemmas.{each_one}
use Rattle.plan_text.specs.PlanNames.{Row, sort_name}
use Rattle.plan_text.specs.PlanText.{field_text, kind_line, pattern_text, patterns_of, variable_text}
use Rattle.plan_law.proofs.LexedLemmas.{IsLexed}
use Rattle.plan_law.proofs.NamedLemmas.{kind_named}
use Rattle.plan_law.proofs.PhraseLemmas.{Prints, prints_any_then, prints_listed, prints_mark, prints_one, prints_separated, prints_text, prints_then}
use Rattle.plan_law.proofs.TermLemmas.{prints_name}
use Rattle.plan_law.proofs.TokenLemmas.{between_spaces, blank_is, close_writes, colon_writes, comma_writes, int_is, keyword_space_writes, keyword_writes, line_end_writes, message_is, name_writes, open_writes, space_writes, text_is, with_writes}
use Rattle.plan_law.proofs.WriteLemmas.{Writes, Any, Ends, writes_as, writes_then}

-- ---- what stands between values

pub prints_comma : Prints Any (g.mark m.Comma) (codes ", ")
prints_comma = prints_mark (writes_then comma_writes space_writes)

pub comma_ends : (rest : List ℕ) → Ends (codes ", " ++ rest)
comma_ends rest = record { ends = refl }

pub all_of : {X : Type 0} (P : X → Type 0) → ((x : X) → P x) → (xs : List X) → AllByRecursion P xs
all_of P every [] = tt
all_of P every (x ∷ xs) = (every x, all_of P every xs)

-- ---- messages

sort_kind : (k : Kind) (s : Sort) → g.sort_by k ≡ Some s → Writes Ends (sort_name s) (k ∷ [])
sort_kind (kind.Mark m.Int) sort.Int e = keyword_writes (codes "int") m.Int int_is
sort_kind (kind.Mark m.Int) sort.Words e = absurd cc
sort_kind (kind.Mark m.Text) sort.Words e = keyword_writes (codes "text") m.Text text_is
sort_kind (kind.Mark m.Text) sort.Int e = absurd cc
sort_kind _ s e = absurd cc

prints_field : (f : FieldDecl) → Prints Ends (g.field f) (field_text (field_of f))
prints_field f =
    prints_then (prints_name f.name f.name.name refl) (λ rest q. record { ends = refl })
    (prints_any_then (prints_mark (writes_then colon_writes space_writes)) (prints_one (λ t lexed is. sort_kind t.kind f.sort is)))

-- a message's line
pub prints_message : (d : MessageDecl) → Prints Any (g.message d) (kind_line (kind_of d))
prints_message d =
    prints_any_then (prints_mark (keyword_space_writes (codes "message") m.Message message_is))
    (prints_then (prints_name d.name d.name.name refl) (λ rest q. record { ends = refl })
    (prints_any_then (prints_mark open_writes)
    (prints_then (prints_listed g.field field_of field_text prints_comma comma_ends d.fields (all_of (λ (f : FieldDecl). Prints Ends (g.field f) (field_text (field_of f))) prints_field d.fields)) (λ rest q. record { ends = refl })
    (prints_mark (writes_then close_writes line_end_writes)))))

-- ---- patterns

variable_kind : (place : ℕ) (k : Kind) (v : ℕ × Option (List ℕ)) → g.variable_by place k ≡ Some v → IsLexed k → Writes Ends (variable_text v.1) (k ∷ [])
variable_kind place (kind.Name name) v e lexed =
    let same : Path (ℕ × Option (List ℕ)) (place, Some name) v = cc in subst (λ (x : ℕ × Option (List ℕ)). Writes Ends (variable_text x.1) (kind.Name name ∷ [])) same (name_writes name lexed)
variable_kind place (kind.Mark m.Blank) v e lexed =
    let same : Path (ℕ × Option (List ℕ)) (place, None) v = cc in subst (λ (x : ℕ × Option (List ℕ)). Writes Ends (variable_text x.1) (kind.Mark m.Blank ∷ [])) same (keyword_writes (codes "_") m.Blank blank_is)
variable_kind place _ v e lexed = absurd cc

abbrev without_place : ℕ × Option (List ℕ) → Option (List ℕ)
without_place v = v.1

abbrev VariablePrints : ℕ × Option (List ℕ) → Type 0
VariablePrints v = Prints Ends (one g.variable_of v) (variable_text (without_place v))

prints_variable : (v : ℕ × Option (List ℕ)) → VariablePrints v
prints_variable v = prints_one (λ t lexed is. variable_kind t.place t.kind v is lexed)

module _ (tree : Tree) where
  -- the number and the variables of a pattern
  abbrev numbered : PatternDecl → ℕ × Row
  numbered p = (pattern_of tree p, names_in p)

  abbrev PatternPrints : PatternDecl → Type 0
  PatternPrints p = Prints Ends (g.pattern p) (pattern_text (plan_of tree) (numbered p))

  -- a pattern of a kind that is known
  prints_pattern : (p : PatternDecl) → pattern_faults tree.messages p ≡ [] → PatternPrints p
  prints_pattern p none =
      prints_then (prints_name p.kind _ (kind_named tree p.kind (length p.variables) none)) (λ rest q. record { ends = refl })
      (prints_any_then (prints_mark open_writes)
      (prints_then (prints_listed (one g.variable_of) without_place variable_text prints_comma comma_ends p.variables (all_of VariablePrints prints_variable p.variables)) (λ rest q. record { ends = refl })
      (prints_mark (writes_as close_writes))))

  patterns_numbered : (ps : List PatternDecl) → patterns_of (map (pattern_of tree) ps) (map names_in ps) ≡ map numbered ps
  patterns_numbered [] = refl
  patterns_numbered (p ∷ ps) = ap (λ (l : List (ℕ × Row)). numbered p ∷ l) (patterns_numbered ps)

  pub prints_patterns : (ps : List PatternDecl) → AllByRecursion (λ (p : PatternDecl). pattern_faults tree.messages p ≡ []) ps
      → Prints Ends (separated (g.mark m.With) g.pattern ps) (join_by (pattern_text (plan_of tree)) (codes " & ") (patterns_of (map (pattern_of tree) ps) (map names_in ps)))
  prints_patterns ps none =
      prints_text (sym (ap (join_by (pattern_text (plan_of tree)) (codes " & ")) (patterns_numbered ps)))
      (prints_separated g.pattern numbered (pattern_text (plan_of tree)) (prints_mark (between_spaces with_writes)) (λ rest. record { ends = refl }) ps
      (each_one (λ (p : PatternDecl). pattern_faults tree.messages p ≡ []) PatternPrints prints_pattern ps none))

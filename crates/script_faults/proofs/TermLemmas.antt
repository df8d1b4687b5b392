-- The faults of terms and operands, from those of their leaves as they are read.
use Rattle.std.proofs.Common.{◌≡◌, ◌∙◌, ◌++◌, ◌+◌, ◌<◌, ℕ, suc, Bool, true, false, cond, ◌&&◌, List, [], ◌∷◌, length, Option, Ok, Err, refl, sym, ap, arith}
use Rattle.std.specs.Prelude.{◌==◌, fold}
use Rattle.std.specs.List.{flat_map}
use Rattle.std.proofs.lemmas.Bool.Decides.{nat_tests}
use Rattle.std.proofs.lemmas.List.{append-nil}
use Rattle.script_tokens.specs.declared.token.Token.{Token}
use Rattle.script_tokens.specs.declared.token.Kind.{Kind}
use Rattle.script_grammar.specs.Grammar.{words_of}
use Rattle.script_grammar.specs.Operands as o
use Rattle.script_grammar.specs.Operands.{leaf_place, operand_place}
use Rattle.script_grammar.specs.Reading.{Outcome, and_then, head, pure, repeated, token, turns}
use Rattle.script_grammar.specs.ScriptReading.{Reads, first_read, further_read, is_sign, is_words, next_is, operand_read, term_read}
use Rattle.script_grammar.specs.declared.tree.LeafDecl.{LeafDecl}
use Rattle.script_grammar.proofs.LoopLemmas.{begun, ends, with_front_nil}
use Rattle.join_base.specs.declared.message.Sort.{Sort}
use Rattle.join_base.specs.declared.message.Sort.TheVariants as sort
use Rattle.script_names.specs.Scope.{Variable, name_in, name_sort, only_name, operand_sort}
use Rattle.script_faults.specs.declared.first.Fault.{Fault}
use Rattle.script_faults.specs.declared.term.Leaves.{Leaves}
use Rattle.script_faults.specs.First.{first_of, too_many}
use Rattle.script_grammar.specs.Gives.{Noted}
use Rattle.script_faults.specs.Numbered.{at_most, numbered_faults}
use Rattle.script_faults.specs.Steps.{leaf_after}
use Rattle.script_faults.specs.Faults.{leaf_faults, operand_faults, term_faults}
use Rattle.script_faults.proofs.FirstLemmas.{first_of-append}
use Rattle.script_faults.proofs.SameLemmas.{Same, numbered_same, same_equal, same_joined, same_then}
use Rattle.script_grammar.proofs.WalkLemmas.{one_ok}

-- ---- lists of which none begins, or some

pub none_read : {X : Type 0} (test : Kind → Bool) (reader : Reads X) (tokens : List Token) → next_is test (head tokens) ≡ false → repeated (next_is test) reader tokens ≡ Ok ([], tokens)
none_read test reader tokens is = sym (with_front_nil (repeated (next_is test) reader tokens)) ∙ ends is begun

-- one phrase, and then so many at the most
abbrev one_and : {X : Type 0} → (Kind → Bool) → Reads X → ℕ → X → Reads (List X)
one_and test reader n x = λ after. and_then (turns (next_is test) reader n after) (λ xs. pure (x ∷ xs))

pub some_read : {X : Type 0} (test : Kind → Bool) (reader : Reads X) (tokens rest : List Token) (xs : List X) → next_is test (head tokens) ≡ true
    → repeated (next_is test) reader tokens ≡ Ok (xs, rest) → 0 < length xs
unfolding repeated turns
some_read test reader [] rest xs is read = absurd cc
some_read {X} test reader (t ∷ ts) rest xs is read =
    one (reader (t ∷ ts)) (sym (ap (λ (b : Bool). cond b (and_then (reader (t ∷ ts)) (one_and test reader (length ts))) (Ok ([], t ∷ ts))) is) ∙ read)
  where
    two : (x : X) (r : Outcome Token (List X)) → and_then r (λ (ys : List X). pure (x ∷ ys)) ≡ Ok (xs, rest) → 0 < length xs
    two x (Err e) given = absurd cc
    two x (Ok q) given = let same = ap (λ (p : List X × List Token). length p.0) (one_ok (x ∷ q.0, q.1) (xs, rest) given) in omega (arith, same)

    one : (r : Outcome Token X) → and_then r (one_and test reader (length ts)) ≡ Ok (xs, rest) → 0 < length xs
    one (Err e) given = absurd cc
    one (Ok p) given = two p.0 (turns (next_is test) reader (length ts) p.1) given

-- ---- leaves

pub leaf_noted : (s new : Leaves) (leaf : LeafDecl) (middle : Option Fault) → new.variables ≡ s.variables → new.number ≡ s.number + 1
    → middle ≡ first_of s.found (leaf_faults s.variables.now false leaf) → new.found ≡ first_of middle (at_most 64 s.number (leaf_place leaf)) → new ≡ leaf_after s leaf
leaf_noted s new leaf middle variables number is-middle is-found =
    let found : new.found ≡ first_of s.found (leaf_faults s.variables.now false leaf ++ at_most 64 s.number (leaf_place leaf)) =
    is-found ∙ ap (λ (f : Option Fault). first_of f (at_most 64 s.number (leaf_place leaf))) is-middle
    ∙ sym (first_of-append s.found (leaf_faults s.variables.now false leaf) (at_most 64 s.number (leaf_place leaf))) in
    λ i. record { variables = variables i; number = number i; found = found i }

leaves_found : (s : Leaves) (leaves : List LeafDecl)
    → (fold leaf_after s leaves).found ≡ first_of s.found (numbered_faults 64 leaf_place (leaf_faults s.variables.now false) s.number leaves)
leaves_found s [] = refl
leaves_found s (leaf ∷ leaves) =
    leaves_found (leaf_after s leaf) leaves
    ∙ sym (first_of-append s.found (leaf_faults s.variables.now false leaf ++ at_most 64 s.number (leaf_place leaf))
    (numbered_faults 64 leaf_place (leaf_faults s.variables.now false) (s.number + 1) leaves))

pub leaves_noted : (s new : Leaves) (rest : List Token) (read : Outcome Token (List LeafDecl)) → Noted (λ leaves. new ≡ fold leaf_after s leaves) rest read
    → Noted (λ leaves. new.found ≡ first_of s.found (numbered_faults 64 leaf_place (leaf_faults s.variables.now false) s.number leaves)) rest read
leaves_noted s new rest read noted = record {
  phrase = noted.phrase;
  reads = noted.reads;
  holds = ap (λ (l : Leaves). l.found) noted.holds ∙ leaves_found s noted.phrase;
}

-- ---- terms

-- what is told of a term or of an operand
abbrev told : ℕ → Sort → ℕ × Sort
told place s = (place, s)

and_true : (b : Bool) → (b && true) ≡ b
and_true true = refl
and_true false = refl

and_false : (b : Bool) → (b && false) ≡ false
and_false true = refl
and_false false = refl

not_one : (n : ℕ) → 0 < n → (suc n == 1) ≡ false
not_one n some = grind (arith, nat_tests)

module _ (variables : List Variable) (bare : Bool) where
  one_leaf : (first : LeafDecl) → term_faults variables bare (first ∷ []) ≡ leaf_faults variables bare first
  one_leaf first =
      append-nil (leaf_faults variables (bare && true) first) ∙ ap (λ (alone : Bool). leaf_faults variables alone first) (and_true bare)

  more_leaves : (first : LeafDecl) (leaves : List LeafDecl) → 0 < length leaves
      → Same (leaf_faults variables false first ++ numbered_faults 64 leaf_place (leaf_faults variables false) 1 leaves) (term_faults variables bare (first ∷ leaves))
  more_leaves first leaves some =
      let all : List LeafDecl = first ∷ leaves in
      let alone : (bare && (length all == 1)) ≡ false = ap (λ (b : Bool). bare && b) (not_one (length leaves) some) ∙ and_false bare in
      let one : Same (leaf_faults variables false first) (leaf_faults variables false first ++ []) = same_equal (sym (append-nil (leaf_faults variables false first))) in
      same_then (same_joined one (same_equal refl))
      (same_then (numbered_same 64 leaf_place (leaf_faults variables false) all)
      (same_equal (ap (λ (b : Bool). too_many 64 leaf_place all ++ flat_map (leaf_faults variables b) all) (sym alone))))

  pub noted_one_leaf : (place : ℕ) (first : LeafDecl) (tokens rest : List Token) (before found : Option Fault) (s : Sort) → first_read tokens ≡ Ok ((place, first), rest)
      → next_is is_sign (head rest) ≡ false → found ≡ first_of before (leaf_faults variables bare first) → s ≡ name_sort variables (name_in first.minus first.part)
      → Noted (λ term. (told place s ≡ (term.0, name_sort variables (only_name term.1))) × (found ≡ first_of before (term_faults variables bare term.1))) rest (term_read tokens)
  unfolding term_read
  noted_one_leaf place first tokens rest before found s read none is-found is-sort = record {
    phrase = (place, first ∷ []);
    reads = rw (read, none_read is_sign further_read rest none) refl;
    holds = (ap (told place) is-sort, is-found ∙ ap (first_of before) (sym (one_leaf first)));
  }

  pub noted_more_leaves : (place : ℕ) (first : LeafDecl) (tokens more rest : List Token) (before middle found : Option Fault) → first_read tokens ≡ Ok ((place, first), more)
      → next_is is_sign (head more) ≡ true → middle ≡ first_of before (leaf_faults variables false first)
      → Noted (λ leaves. found ≡ first_of middle (numbered_faults 64 leaf_place (leaf_faults variables false) 1 leaves)) rest (repeated (next_is is_sign) further_read more)
      → Noted (λ term. (told place sort.Int ≡ (term.0, name_sort variables (only_name term.1))) × (found ≡ first_of before (term_faults variables bare term.1))) rest (term_read tokens)
  unfolding term_read
  noted_more_leaves place first tokens more rest before middle found read some is-middle noted =
      let leaves = noted.phrase in
      let many = some_read is_sign further_read more rest leaves some noted.reads in
      record {
        phrase = (place, first ∷ leaves);
        reads = rw (read, noted.reads) refl;
        holds = (
          ap (told place) (no_name leaves many),
          noted.holds ∙ ap (λ (f : Option Fault). first_of f (numbered_faults 64 leaf_place (leaf_faults variables false) 1 leaves)) is-middle
              ∙ sym (first_of-append before (leaf_faults variables false first) (numbered_faults 64 leaf_place (leaf_faults variables false) 1 leaves))
              ∙ (more_leaves first leaves many).is before,
        );
      }
    where
      no_name : (leaves : List LeafDecl) → 0 < length leaves → sort.Int ≡ name_sort variables (only_name (first ∷ leaves))
      no_name [] many = absurd (omega (arith, many))
      no_name (second ∷ leaves) many = refl

-- ---- operands

module _ (variables : List Variable) where
  pub noted_fixed : (place : ℕ) (words : List ℕ) (tokens rest : List Token) (found : Option Fault) → next_is is_words (head tokens) ≡ true → token words_of tokens ≡ Ok ((place, words), rest)
      → Noted (λ operand. (told place sort.Words ≡ (operand_place operand, operand_sort variables operand)) × (found ≡ first_of found (operand_faults variables operand))) rest (operand_read tokens)
  unfolding operand_read
  noted_fixed place words tokens rest found is read = record { phrase = o.Fixed place words; reads = rw (is, read) refl; holds = (refl, refl) }

  pub noted_sum : (p : ℕ × Sort) (tokens rest : List Token) (before found : Option Fault) → next_is is_words (head tokens) ≡ false
      → Noted (λ term. (p ≡ (term.0, name_sort variables (only_name term.1))) × (found ≡ first_of before (term_faults variables true term.1))) rest (term_read tokens)
      → Noted (λ operand. (p ≡ (operand_place operand, operand_sort variables operand)) × (found ≡ first_of before (operand_faults variables operand))) rest (operand_read tokens)
  unfolding operand_read
  noted_sum p tokens rest before found is noted = record { phrase = o.Sum noted.phrase.0 noted.phrase.1; reads = rw (is, noted.reads) refl; holds = noted.holds }

-- A text that prints the phrases of a rule: in front of any text it puts the tokens of each of them.
use Rattle.std.proofs.Common.{◌≡◌, ℕ, List, [], ◌∷◌, ◌++◌, map, Option, Some, sym, subst, append_assoc}
use Rattle.std.specs.List.{flat_map, join_by, AllByRecursion}
use Rattle.std.proofs.lemmas.List.{append-nil}
use Rattle.script_tokens.specs.declared.token.Kind.{Kind}
use Rattle.script_tokens.specs.declared.token.Kind.TheVariants as kind
use Rattle.script_tokens.specs.declared.token.Mark.{Mark}
use Rattle.script_tokens.specs.declared.token.Token.{Token}
use Rattle.script_grammar.specs.Phrases.{one, nothing, ◌then◌, each, at_least_one, separated, listed}
use Rattle.script_grammar.specs.Grammar.{Tokens, mark_at, mark}
use Rattle.script_grammar.proofs.MarkLemmas.{place_of_is}
use Rattle.plan_law.specs.Printed.{kinds}
use Rattle.plan_law.proofs.LexedLemmas.{IsLexed, AreLexed, lexed_front, lexed_back}
use Rattle.plan_law.proofs.WriteLemmas.{Writes, Any, Ends, any, Leads, Opens, Unequal, writes_both, writes_then, writes_parts, writes_nil, writes_same}

-- the text writes the tokens of each phrase of the rule, in front of each text of which P holds
pub record Prints (P : List ℕ → Type 0) (rule : Tokens → Type 0) (text : List ℕ) : Type 0 where
  pub prints : (tokens : Tokens) → AreLexed tokens → rule tokens → Writes P text (kinds tokens)

-- ---- one token

pub prints_one : {P : List ℕ → Type 0} {X : Type 0} {gives : Token → Option X} {x : X} {text : List ℕ}
    → ((t : Token) → IsLexed t.kind → gives t ≡ Some x → Writes P text (t.kind ∷ [])) → Prints P (one gives x) text
prints_one {P} {text = text} writes = record {
  prints = λ tokens lexed h.
      let is : tokens ≡ h.0 ∷ [] = h.2 in
      let single : AreLexed (h.0 ∷ []) = subst AreLexed is lexed in
      subst (λ (ts : Tokens). Writes P text (kinds ts)) (sym is) (writes h.0 single.0 h.1);
}

pub prints_mark_at : {P : List ℕ → Type 0} {a : Mark} {place : ℕ} {text : List ℕ} → Writes P text (kind.Mark a ∷ []) → Prints P (mark_at a place) text
prints_mark_at {P} {a} {place} {text} w =
    prints_one (λ t lexed h. subst (λ (k : Kind). Writes P text (k ∷ [])) (sym ((place_of_is a t place h).0)) w)

pub prints_mark : {P : List ℕ → Type 0} {a : Mark} {text : List ℕ} → Writes P text (kind.Mark a ∷ []) → Prints P (mark a) text
prints_mark {P} {a} {text} w = record { prints = λ tokens lexed h. let at : Prints P (mark_at a (h.0)) text = prints_mark_at w in at.prints tokens lexed h.1 }

-- ---- one phrase and then another

pub prints_then : {P Q : List ℕ → Type 0} {first second : Tokens → Type 0} {f g : List ℕ} → Prints P first f → Leads P g Q → Prints Q second g → Prints Q (first then second) (f ++ g)
prints_then w leads v = record {
  prints = λ tokens lexed h.
      writes_parts tokens h.front h.back h.parts (w.prints h.front (lexed_front tokens h.front h.back h.parts lexed) h.one) leads (v.prints h.back (lexed_back tokens h.front h.back h.parts lexed) h.other);
}

pub prints_any_then : {Q : List ℕ → Type 0} {first second : Tokens → Type 0} {f g : List ℕ} → Prints Any first f → Prints Q second g → Prints Q (first then second) (f ++ g)
prints_any_then w v = prints_then w (λ rest q. any) v

-- blanks in front
pub prints_behind : {Q : List ℕ → Type 0} {rule : Tokens → Type 0} {f g : List ℕ} → Writes Any f [] → Prints Q rule g → Prints Q rule (f ++ g)
prints_behind w v = record { prints = λ tokens lexed h. writes_then w (v.prints tokens lexed h) }

-- blanks behind
pub prints_before : {P Q : List ℕ → Type 0} {rule : Tokens → Type 0} {f g : List ℕ} → Prints P rule f → Leads P g Q → Writes Q g [] → Prints Q rule (f ++ g)
prints_before {P} {Q} {rule} {f} {g} w leads v = record {
  prints = λ tokens lexed h. writes_same (append-nil (kinds tokens)) (writes_both (w.prints tokens lexed h) leads v);
}

pub prints_text : {P : List ℕ → Type 0} {rule : Tokens → Type 0} {f g : List ℕ} → f ≡ g → Prints P rule f → Prints P rule g
prints_text {P} {rule} e w = subst (λ (l : List ℕ). Prints P rule l) e w

pub prints_nothing : (P : List ℕ → Type 0) → Prints P nothing []
prints_nothing P = record { prints = λ tokens lexed h. writes_nil P tokens h }

-- ---- where a phrase begins

-- the text of each phrase of the rule does not begin with `=`
pub record Begins (rule : Tokens → Type 0) (text : List ℕ) : Type 0 where
  pub begins : (tokens : Tokens) → AreLexed tokens → rule tokens → Opens text

pub begins_one : {X : Type 0} {gives : Token → Option X} {x : X} {text : List ℕ} → ((t : Token) → IsLexed t.kind → gives t ≡ Some x → Opens text) → Begins (one gives x) text
begins_one opens = record {
  begins = λ tokens lexed h.
      let single : AreLexed (h.0 ∷ []) = subst AreLexed h.2 lexed in
      opens h.0 single.0 h.1;
}

pub begins_then : {first second : Tokens → Type 0} {f : List ℕ} (g : List ℕ) → Begins first f → Begins (first then second) (f ++ g)
begins_then {f = f} g w = record {
  begins = λ tokens lexed h.
      let front : Opens f = w.begins h.front (lexed_front tokens h.front h.back h.parts lexed) h.one in
      record { opens = λ rest. rw (append_assoc f g rest) (front.opens (g ++ rest)) };
}

pub begins_text : {rule : Tokens → Type 0} {f g : List ℕ} → f ≡ g → Begins rule f → Begins rule g
begins_text {rule} e w = subst (λ (l : List ℕ). Begins rule l) e w

-- what may not stand in front of `=`, and then the other
pub prints_unequal_then : {Q : List ℕ → Type 0} {first second : Tokens → Type 0} {f g : List ℕ} → Prints Unequal first f → Begins second g → Prints Q second g → Prints Q (first then second) (f ++ g)
prints_unequal_then w begins v = record {
  prints = λ tokens lexed h.
      let back = lexed_back tokens h.front h.back h.parts lexed in
      let opens = begins.begins h.back back h.other in
      writes_parts tokens h.front h.back h.parts (w.prints h.front (lexed_front tokens h.front h.back h.parts lexed) h.one) (λ rest q. opens.opens rest) (v.prints h.back back h.other);
}

-- ---- lists of phrases

-- each phrase is printed behind what ends the one before it
module _ {X Y : Type 0} (rule : X → Tokens → Type 0) (f : X → Y) (text : Y → List ℕ) where
  -- phrases that end anywhere
  pub prints_each_any : (xs : List X) → AllByRecursion (λ (x : X). Prints Any (rule x) (text (f x))) xs → Prints Any (each rule xs) (flat_map text (map f xs))
  prints_each_any [] all = prints_nothing Any
  prints_each_any (x ∷ xs) all = prints_any_then all.0 (prints_each_any xs all.1)

  -- each text ends the word before it
  module _ (ends : (y : Y) (rest : List ℕ) → Ends (text y ++ rest)) where
    pub each_leads : (ys : List Y) → Leads Ends (flat_map text ys) Ends
    each_leads [] rest q = q
    each_leads (y ∷ ys) rest q = rw (append_assoc (text y) (flat_map text ys) rest) (ends y (flat_map text ys ++ rest))

    pub prints_each : (xs : List X) → AllByRecursion (λ (x : X). Prints Ends (rule x) (text (f x))) xs → Prints Ends (each rule xs) (flat_map text (map f xs))
    prints_each [] all = prints_nothing Ends
    prints_each (x ∷ xs) all = prints_then all.0 (each_leads (map f xs)) (prints_each xs all.1)

-- values with a separator between two of them
module _ {X Y : Type 0} {by : Tokens → Type 0} (rule : X → Tokens → Type 0) (f : X → Y) (text : Y → List ℕ) {sep : List ℕ} (prints_by : Prints Any by sep) (ends : (rest : List ℕ) → Ends (sep ++ rest)) where
  abbrev further : Y → List ℕ
  further y = sep ++ text y

  further_ends : (y : Y) (rest : List ℕ) → Ends (further y ++ rest)
  further_ends y rest = rw (append_assoc sep (text y) rest) (ends (text y ++ rest))

  further_print : (xs : List X) → AllByRecursion (λ (x : X). Prints Ends (rule x) (text (f x))) xs → AllByRecursion (λ (x : X). Prints Ends (by then rule x) (further (f x))) xs
  further_print [] all = tt
  further_print (x ∷ xs) all = (prints_any_then prints_by all.0, further_print xs all.1)

  pub prints_separated : (xs : List X) → AllByRecursion (λ (x : X). Prints Ends (rule x) (text (f x))) xs → Prints Ends (separated by rule xs) (join_by text sep (map f xs))
  prints_separated [] all = record { prints = λ tokens lexed h. absurd h }
  prints_separated (x ∷ xs) all =
      prints_then all.0 (each_leads (λ (y : X). by then rule y) f further further_ends (map f xs)) (prints_each (λ (y : X). by then rule y) f further further_ends xs (further_print xs all.1))

  pub prints_listed : (xs : List X) → AllByRecursion (λ (x : X). Prints Ends (rule x) (text (f x))) xs → Prints Ends (listed by rule xs) (join_by text sep (map f xs))
  prints_listed [] all = prints_nothing Ends
  prints_listed (x ∷ xs) all = prints_separated (x ∷ xs) all

-- at least one value, with blanks between two of them
module _ {X Y : Type 0} (rule : X → Tokens → Type 0) (f : X → Y) (text : Y → List ℕ) {blanks : List ℕ} (writes : Writes Any blanks []) (ends : (rest : List ℕ) → Ends (blanks ++ rest)) where
  abbrev apart : Y → List ℕ
  apart y = blanks ++ text y

  apart_ends : (y : Y) (rest : List ℕ) → Ends (apart y ++ rest)
  apart_ends y rest = rw (append_assoc blanks (text y) rest) (ends (text y ++ rest))

  apart_print : (xs : List X) → AllByRecursion (λ (x : X). Prints Ends (rule x) (text (f x))) xs → AllByRecursion (λ (x : X). Prints Ends (rule x) (apart (f x))) xs
  apart_print [] all = tt
  apart_print (x ∷ xs) all = (prints_behind writes all.0, apart_print xs all.1)

  pub prints_at_least_one : (xs : List X) → AllByRecursion (λ (x : X). Prints Ends (rule x) (text (f x))) xs → Prints Ends (at_least_one rule xs) (join_by text blanks (map f xs))
  prints_at_least_one [] all = record { prints = λ tokens lexed h. absurd h }
  prints_at_least_one (x ∷ xs) all = prints_then all.0 (each_leads rule f apart apart_ends (map f xs)) (prints_each rule f apart apart_ends xs (apart_print xs all.1))

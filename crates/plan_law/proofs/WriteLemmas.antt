-- Texts in front of any text that is cut into tokens.
use Rattle.std.proofs.Common.{◌≡◌, ◌∙◌, ℕ, false, ◌==◌, List, [], ◌++◌, get_or, sym, ap, subst, append_assoc}
use Rattle.std.proofs.lemmas.List.{map-append}
use Rattle.join_base.specs.Text.{goes_on_word}
use Rattle.script_tokens.specs.declared.token.Kind.{Kind}
use Rattle.script_tokens.specs.declared.token.Token.{Token}
use Rattle.plan_law.specs.Printed.{kinds}
use Rattle.plan_law.proofs.CutLemmas.{IsCut}

-- in front of each text of which P holds, and its tokens, the front puts its own
pub record Writes (P : List ℕ → Type 0) (front : List ℕ) (ks : List Kind) : Type 0 where
  pub before : (rest : List ℕ) (more : List Kind) → P rest → IsCut rest more → IsCut (front ++ rest) (ks ++ more)

-- any text
pub record Any (rest : List ℕ) : Type 0 where
  pub any : Unit {0}

-- a text that does not begin with a byte of a word
pub record Ends (rest : List ℕ) : Type 0 where
  pub ends : goes_on_word (get_or rest 0 0) ≡ false

-- a text that does not begin with `=`
pub record Unequal (rest : List ℕ) : Type 0 where
  pub other : (get_or rest 0 0 == 61) ≡ false

-- the text does not begin with `=`
pub record Opens (text : List ℕ) : Type 0 where
  pub opens : (rest : List ℕ) → Unequal (text ++ rest)

pub any : {rest : List ℕ} → Any rest
any = record { any = tt }

-- a text in front of each text of which Q holds makes one of which P holds
abbrev pub Leads : (List ℕ → Type 0) → List ℕ → (List ℕ → Type 0) → Type 0
Leads P front Q = (rest : List ℕ) → Q rest → P (front ++ rest)

pub writes_nothing : (P : List ℕ → Type 0) → Writes P [] []
writes_nothing P = record { before = λ rest more p h. h }

-- one and then the other
pub writes_both : {P Q : List ℕ → Type 0} {f g : List ℕ} {ks ls : List Kind} → Writes P f ks → Leads P g Q → Writes Q g ls → Writes Q (f ++ g) (ks ++ ls)
writes_both {P} {Q} {f} {g} {ks} {ls} w leads v = record {
  before = λ rest more q h. rw (append_assoc f g rest, append_assoc ks ls more) (w.before (g ++ rest) (ls ++ more) (leads rest q) (v.before rest more q h));
}

-- what can stand anywhere, and then the other
pub writes_then : {Q : List ℕ → Type 0} {f g : List ℕ} {ks ls : List Kind} → Writes Any f ks → Writes Q g ls → Writes Q (f ++ g) (ks ++ ls)
writes_then w v = writes_both w (λ rest q. any) v

-- what can stand anywhere can stand there
pub writes_as : {Q : List ℕ → Type 0} {f : List ℕ} {ks : List Kind} → Writes Any f ks → Writes Q f ks
writes_as w = record { before = λ rest more q h. w.before rest more any h }

-- ---- tokens and their kinds

pub kinds-append : (ts us : List Token) → kinds (ts ++ us) ≡ kinds ts ++ kinds us
kinds-append ts us = map-append (λ (t : Token). t.kind) ts us

-- the front of the tokens is written by one text and what is behind by the other
pub writes_parts : {P Q : List ℕ → Type 0} {f g : List ℕ} (tokens front back : List Token) → tokens ≡ front ++ back → Writes P f (kinds front) → Leads P g Q → Writes Q g (kinds back) → Writes Q (f ++ g) (kinds tokens)
writes_parts {P} {Q} {f} {g} tokens front back e w leads v =
    subst (λ (ks : List Kind). Writes Q (f ++ g) ks) (sym (ap kinds e ∙ kinds-append front back)) (writes_both w leads v)

pub writes_nil : (P : List ℕ → Type 0) (tokens : List Token) → tokens ≡ [] → Writes P [] (kinds tokens)
writes_nil P tokens e = subst (λ (ts : List Token). Writes P [] (kinds ts)) (sym e) (writes_nothing P)

-- the same tokens
pub writes_same : {P : List ℕ → Type 0} {f : List ℕ} {ks ls : List Kind} → ks ≡ ls → Writes P f ks → Writes P f ls
writes_same {P} {f} e w = subst (λ (l : List Kind). Writes P f l) e w

-- the same text
pub writes_text : {P : List ℕ → Type 0} {f g : List ℕ} {ks : List Kind} → f ≡ g → Writes P f ks → Writes P g ks
writes_text {P} {ks = ks} e w = subst (λ (l : List ℕ). Writes P l ks) e w

-- Something in front of a text that is cut into tokens.
use Rattle.std.proofs.Common.{◌≡◌, ◌∙◌, ℕ, ◌-◌, ◌<◌, ◌≤◌, Bool, true, false, ◌&&◌, nat_lt, List, [], ◌∷◌, ◌++◌, length, get_or, refl, sym, ap, arith}
use Rattle.std.specs.Str.{IsUtf8, IsAscii}
use Rattle.std.specs.List.{list_all}
use Rattle.std.proofs.lemmas.Bool.Decides.{nat_tests}
use Rattle.std.proofs.lemmas.List.{length-append}
use Rattle.std.proofs.Math.Seq.{drop-append_seam}
use Rattle.std.proofs.lemmas.Str.{IsUtf8-append, IsUtf8-from_ascii, IsUtf8-nil}
use Rattle.std.proofs.lemmas.Str.Ascii.{IsAscii-cons, IsAscii-nil}
use Rattle.script_tokens.specs.declared.token.Kind.{Kind}
use Rattle.script_tokens.specs.declared.token.Token.{Token}
use Rattle.script_tokens.specs.Tokens.{skip_from, skip, is_bad, is_quote, plain_at, IsToken, IsPlainToken, IsQuotedToken, AreTokens}
use Rattle.plan_law.specs.Printed.{kinds}

-- the text is UTF-8, and behind any other its tokens are of these kinds
pub record IsCut (text : List ℕ) (ks : List Kind) : Type 0 where
  pub utf8 : IsUtf8 text
  pub tokens : (size : ℕ) → length text ≤ size → (ts : List Token) × (AreTokens size text ts × (kinds ts ≡ ks))

-- nothing has no tokens
pub nothing_cut : IsCut [] []
unfolding skip_from
nothing_cut = record { utf8 = IsUtf8-nil; tokens = λ size fits. ([], (refl, refl)) }

-- ---- what separates tokens

skipped : (size : ℕ) (text rest : List ℕ) (ts : List Token) → skip text ≡ skip rest → AreTokens size rest ts → AreTokens size text ts
skipped size text rest [] e h = e ∙ h
skipped size text rest (t ∷ ts) e h = rw e h

-- what is skipped in front of a text leaves its tokens
pub skipped_in_front : (front rest : List ℕ) (ks : List Kind) → IsUtf8 front → skip (front ++ rest) ≡ skip rest → IsCut rest ks → IsCut (front ++ rest) ks
skipped_in_front front rest ks utf8 e h = record {
  utf8 = IsUtf8-append front rest utf8 h.utf8;
  tokens = λ size fits. let more = h.tokens size (omega (arith, length-append front rest)) in (more.0, (skipped size (front ++ rest) rest more.0 e more.1.0, more.1.1));
}

-- ---- a token

-- a token in front of a text, with the text behind it
pub token_in_front : (front rest : List ℕ) (k : Kind) (ks : List Kind) → IsUtf8 front → 0 < length front → skip (front ++ rest) ≡ front ++ rest → IsToken (front ++ rest) k rest → is_bad k ≡ false
    → IsCut rest ks → IsCut (front ++ rest) (k ∷ ks)
token_in_front front rest k ks utf8 some e token good h = record {
  utf8 = IsUtf8-append front rest utf8 h.utf8;
  tokens = λ size fits.
      let more = h.tokens size (omega (arith, length-append front rest)) in
      let t : Token = record { place = size - length (front ++ rest); kind = k } in
      (t ∷ more.0, (first size more.0 fits more.1.0, ap (λ (l : List Kind). k ∷ l) more.1.1));
}
  where
    first : (size : ℕ) (ts : List Token) → length (front ++ rest) ≤ size → AreTokens size rest ts → AreTokens size (front ++ rest) (record { place = size - length (front ++ rest); kind = k } ∷ ts)
    first size ts fits more = rw e (omega (arith, length-append front rest), omega arith, (rest, (token, rw good more)))

is_plain : (text rest : List ℕ) (k : Kind) → is_quote (get_or text 0 0) ≡ false → IsPlainToken text k rest → IsToken text k rest
is_plain text rest k e h = rw e h

pub is_quoted : (text rest : List ℕ) (k : Kind) → is_quote (get_or text 0 0) ≡ true → IsQuotedToken text k rest → IsToken text k rest
is_quoted text rest k e h = rw e h

-- a word, a number or a symbol in front of a text
pub plain_in_front : (front rest : List ℕ) (k : Kind) (ks : List Kind) → IsUtf8 front → 0 < length front → skip (front ++ rest) ≡ front ++ rest → is_quote (get_or (front ++ rest) 0 0) ≡ false
    → (plain_at (front ++ rest) ≡ (k, length front)) → is_bad k ≡ false → IsCut rest ks → IsCut (front ++ rest) (k ∷ ks)
plain_in_front front rest k ks utf8 some e plain at good h =
    token_in_front front rest k ks utf8 some e (is_plain (front ++ rest) rest k plain (rw at (refl, sym (drop-append_seam front rest)))) good h

-- ---- bytes below 128

-- both tests of a pair that passes
pub first_true : (p q : Bool) → (p && q) ≡ true → p ≡ true
first_true true q e = refl
first_true false q e = absurd cc

pub second_true : (p q : Bool) → (p && q) ≡ true → q ≡ true
second_true true q e = e
second_true false q e = absurd cc

abbrev pub is_below : ℕ → Bool
is_below b = nat_lt b 128

pub ascii_by_test : (bytes : List ℕ) → list_all is_below bytes ≡ true → IsAscii bytes
ascii_by_test [] h = IsAscii-nil
ascii_by_test (b ∷ bytes) h = let low : b < 128 = grind (arith, nat_tests) in IsAscii-cons b bytes low (ascii_by_test bytes (second_true (is_below b) (list_all is_below bytes) h))

pub utf8_by_test : (bytes : List ℕ) → list_all is_below bytes ≡ true → IsUtf8 bytes
utf8_by_test bytes h = IsUtf8-from_ascii bytes (ascii_by_test bytes h)

-- The list of a text's tokens is that of its relation.
use Rattle.std.proofs.Common.{◌≡◌, ℕ, zero, suc, ◌+◌, ◌-◌, ◌<◌, ◌≤◌, Bool, true, false, List, [], ◌∷◌, ◌++◌, length, drop, get_or, Option, Some, None, refl, sym, ap, subst, ◌∙◌, ⊎_elim, append_assoc, arith}
use Rattle.std.specs.Prelude.{MatchBool, if◌then◌else◌}
use Rattle.std.specs.List.{flat_map}
use Rattle.std.specs.Str.{is_utf8}
use Rattle.std.proofs.lemmas.Str.{IsUtf8-from_is_utf8, is_utf8-from_IsUtf8}
use Rattle.std.proofs.lemmas.Bool.{cases_Bool}
use Rattle.std.proofs.lemmas.Bool.Decides.{nat_tests}
use Rattle.std.proofs.lemmas.List.{length-drop}
use Rattle.std.proofs.Math.Seq.{drop-append_seam}
use Rattle.join_base.specs.Quoted.{byte_form, Unquotes, BeginsNoQuoted}
use Rattle.join_base.specs.Unquoted.{form_at}
use Rattle.join_base.proofs.QuotedLemmas.{form_at-form, front_is, quoted_split, quoted_is_decided}
use Rattle.script_tokens.specs.declared.token.Kind.{Kind}
use Rattle.script_tokens.specs.declared.token.Kind.TheVariants as kind
use Rattle.script_tokens.specs.declared.token.Token.{Token}
use Rattle.script_tokens.specs.Tokens.{skip, plain_at, is_quote, is_bad, IsToken, IsPlainToken, IsQuotedToken, AreTokens}
use Rattle.script_tokens.specs.Listed.{Read, with_byte, with_form, forms_until, quoted_by, token_in, token_and, from_front, tokens_by, tokens_of, tokens_left}
use Rattle.script_tokens.proofs.WordLemmas.{skip_shorter, plain_some}
use Rattle.script_tokens.proofs.ListLemmas.{token_eq, quoted_shorter, some_list}

-- ---- forms in front of a quote

-- a byte's form doesn't begin with a quote
form_no_quote : (b : ℕ) (rest : List ℕ) → is_quote (get_or (byte_form b ++ rest) 0 0) ≡ false
form_no_quote b rest = grind (arith, nat_tests)

forms_complete : (max : ℕ) (w rest : List ℕ) → length w ≤ max → forms_until max (flat_map byte_form w ++ 34 ∷ rest) ≡ Some (w, rest)
unfolding forms_until
forms_complete zero [] rest short = refl
forms_complete (suc max) [] rest short = refl
forms_complete zero (b ∷ bs) rest short = absurd (omega arith)
forms_complete (suc max) (b ∷ bs) rest short =
    let behind : List ℕ = flat_map byte_form bs ++ 34 ∷ rest in
    let cut : flat_map byte_form (b ∷ bs) ++ 34 ∷ rest ≡ byte_form b ++ behind = append_assoc (byte_form b) (flat_map byte_form bs) (34 ∷ rest) in
    let dropped : drop (length (byte_form b)) (byte_form b ++ behind) ≡ behind = drop-append_seam (byte_form b) behind in
    rw (cut, form_no_quote b behind, form_at-form b behind, dropped, forms_complete max bs rest (omega arith)) refl

-- what was read stands there
record IsRead (max : ℕ) (bytes w rest : List ℕ) : Type 0 where
  short : length w ≤ max
  split : bytes ≡ flat_map byte_form w ++ 34 ∷ rest

read_here : (max : ℕ) (bytes : List ℕ) (p : Read) → is_quote (get_or bytes 0 0) ≡ true → Path (Option Read) (Some ([], drop 1 bytes)) (Some p) → IsRead max bytes p.0 p.1
read_here max [] p h e = absurd cc
read_here max (b ∷ bs) p h e =
    let is : b ≡ 34 = grind (arith, nat_tests) in
    let same : Path Read ([], bs) p = cc in
    let P : Read → Type 0 = λ q. IsRead max (b ∷ bs) q.0 q.1 in
    subst P same (record { short = omega arith; split = ap (λ (n : ℕ). n ∷ bs) is })

read_more : (max : ℕ) (bytes : List ℕ) (found : Option (ℕ × ℕ)) (p : Read) → form_at bytes ≡ found
    → ((size : ℕ) (q : Read) → forms_until max (drop size bytes) ≡ Some q → IsRead max (drop size bytes) q.0 q.1)
    → with_form found (λ size. forms_until max (drop size bytes)) ≡ Some p → IsRead (suc max) bytes p.0 p.1
read_more max bytes None p is further e = absurd cc
read_more max bytes (Some (v, n)) p is further e = read_by (forms_until max (drop n bytes)) refl
  where
    read_by : (r : Option Read) → forms_until max (drop n bytes) ≡ r → IsRead (suc max) bytes p.0 p.1
    read_by None told = absurd (let none : Path (Option Read) None (Some p) = sym (ap (with_byte v) told) ∙ e in cc)
    read_by (Some q) told =
        let same : Path Read (v ∷ q.0, q.1) p = (let s : Path (Option Read) (Some (v ∷ q.0, q.1)) (Some p) = sym (ap (with_byte v) told) ∙ e in cc) in
        let more = further n q told in
        let front = front_is bytes v n is in
        let P : Read → Type 0 = λ r. IsRead (suc max) bytes r.0 r.1 in
        subst P same (record {
          short = omega (arith, more.short);
          split = front.split ∙ (ap (λ (l : List ℕ). byte_form v ++ l) more.split ∙ sym (append_assoc (byte_form v) (flat_map byte_form q.0) (34 ∷ q.1)));
        })

forms_sound : (max : ℕ) (bytes : List ℕ) (p : Read) → forms_until max bytes ≡ Some p → IsRead max bytes p.0 p.1
unfolding forms_until
forms_sound zero bytes p e =
    ⊎_elim
    (λ (h : is_quote (get_or bytes 0 0) ≡ true). read_here 0 bytes p h (rw h at e))
    (λ (h : is_quote (get_or bytes 0 0) ≡ false). absurd (let none : Path (Option Read) None (Some p) = rw h at e in cc))
    (cases_Bool (is_quote (get_or bytes 0 0)))
forms_sound (suc max) bytes p e =
    ⊎_elim
    (λ (h : is_quote (get_or bytes 0 0) ≡ true). read_here (suc max) bytes p h (rw h at e))
    (λ (h : is_quote (get_or bytes 0 0) ≡ false). read_more max bytes (form_at bytes) p refl (λ size q told. forms_sound max (drop size bytes) q told) (rw h at e))
    (cases_Bool (is_quote (get_or bytes 0 0)))

-- ---- the token in front

quote_here : (text : List ℕ) → is_quote (get_or text 0 0) ≡ true → text ≡ 34 ∷ drop 1 text
quote_here [] h = absurd cc
quote_here (b ∷ bs) h = let is : b ≡ 34 = grind (arith, nat_tests) in ap (λ (n : ℕ). n ∷ bs) is

quoted_none : (text : List ℕ) (found : Option Read) → is_quote (get_or text 0 0) ≡ true → BeginsNoQuoted 120 text → forms_until 120 (drop 1 text) ≡ found
    → quoted_by found ≡ (kind.Bad, [])
quoted_none text None h none e = refl
quoted_none text (Some p) h none e =
    ⊎_elim
    (λ (t : is_utf8 p.0 ≡ true).
    let read = forms_sound 120 (drop 1 text) p e in
    absurd (none p.0 p.1 (record {
      is_text = record { utf8 = IsUtf8-from_is_utf8 p.0 t; short = read.short };
      split = quote_here text h ∙ (ap (λ (l : List ℕ). 34 ∷ l) read.split ∙ sym (quoted_split p.0 p.1));
    })))
    (λ (f : is_utf8 p.0 ≡ false). rw f refl)
    (cases_Bool (is_utf8 p.0))

quoted_some : (text w rest : List ℕ) → Unquotes 120 text w rest → quoted_by (forms_until 120 (drop 1 text)) ≡ (kind.Words w, rest)
quoted_some text w rest h =
    let behind : drop 1 text ≡ flat_map byte_form w ++ 34 ∷ rest = ap (drop 1) (h.split ∙ quoted_split w rest) in
    let valid : is_utf8 w ≡ true = is_utf8-from_IsUtf8 w h.is_text.utf8 in
    rw (behind, forms_complete 120 w rest h.is_text.short, valid) refl

quoted_is : (text : List ℕ) (k : Kind) (rest : List ℕ) → is_quote (get_or text 0 0) ≡ true → IsQuotedToken text k rest → quoted_by (forms_until 120 (drop 1 text)) ≡ (k, rest)
quoted_is text (kind.Words w) rest e h = quoted_some text w rest h
quoted_is text kind.Bad rest e h = quoted_none text (forms_until 120 (drop 1 text)) e h.0 refl ∙ ap (λ (l : List ℕ). (kind.Bad, l)) (sym h.1)
quoted_is text (kind.Mark m) rest e h = absurd h
quoted_is text (kind.Name n) rest e h = absurd h
quoted_is text (kind.Number n) rest e h = absurd h

plain_is : (text : List ℕ) (k : Kind) (rest : List ℕ) → IsPlainToken text k rest → Path (Kind × List ℕ) ((plain_at text).0, drop ((plain_at text).1) text) (k, rest)
plain_is text k rest h = rw (h.0, h.1) refl

token_by : (b : Bool) (text : List ℕ) (k : Kind) (rest : List ℕ) → is_quote (get_or text 0 0) ≡ b → MatchBool b (IsQuotedToken text k rest) (IsPlainToken text k rest) → token_in text ≡ (k, rest)
unfolding token_in
token_by true text k rest e h = rw e (quoted_is text k rest e h)
token_by false text k rest e h = rw e (plain_is text k rest h)

token_is : (text : List ℕ) (k : Kind) (rest : List ℕ) → IsToken text k rest → token_in text ≡ (k, rest)
token_is text k rest h = token_by (is_quote (get_or text 0 0)) text k rest refl h

-- ---- all tokens

from_some : (size : ℕ) (front : List ℕ) (more : List ℕ → List Token) → 0 < length front → from_front size front more ≡ token_and size front (token_in front) more
from_some size [] more some = absurd (omega arith)
from_some size (b ∷ bs) more some = refl

quoted_goes_on : (text : List ℕ) (k : Kind) (rest : List ℕ) → IsQuotedToken text k rest → is_bad k ≡ false → length rest < length text
quoted_goes_on text (kind.Words w) rest h good = quoted_shorter text w rest h
quoted_goes_on text kind.Bad rest h good = absurd cc
quoted_goes_on text (kind.Mark m) rest h good = absurd h
quoted_goes_on text (kind.Name n) rest h good = absurd h
quoted_goes_on text (kind.Number n) rest h good = absurd h

-- a token takes a byte
goes_on : (b : Bool) (text : List ℕ) (k : Kind) (rest : List ℕ) → 0 < length text → MatchBool b (IsQuotedToken text k rest) (IsPlainToken text k rest) → is_bad k ≡ false → length rest < length text
goes_on true text k rest some h good = quoted_goes_on text k rest h good
goes_on false text k rest some h good = omega (arith, ap length h.1, length-drop ((plain_at text).1) text, plain_some text some)

behind_by : (b : Bool) (ts others : List Token) (P : Type 0) → MatchBool b (ts ≡ []) P → (b ≡ false → P → others ≡ ts) → (if b then [] else others) ≡ ts
behind_by true ts others P h more = sym h
behind_by false ts others P h more = more refl h

-- each bound that is enough gives the tokens
listed : (n size : ℕ) (text : List ℕ) (ts : List Token) → length text ≤ n → AreTokens size text ts → tokens_by n size text ≡ ts
unfolding tokens_by
listed zero size text [] few h = refl
listed (suc n) size text [] few h = rw h refl
listed zero size text (t ∷ ts) few h = absurd (omega (arith, skip_shorter text, h.0))
listed (suc n) size text (t ∷ ts) few h =
    let front : List ℕ = skip text in
    let rest : List ℕ = h.2.0 in
    let token = token_is front t.kind rest h.2.1.0 in
    let place : size - length front ≡ t.place = omega (arith, h.1) in
    let behind : (if is_bad t.kind then [] else tokens_by n size rest) ≡ ts =
    behind_by (is_bad t.kind) ts (tokens_by n size rest) (AreTokens size rest ts) h.2.1.1
    (λ good are. listed n size rest ts (omega (arith, few, skip_shorter text, goes_on (is_quote (get_or front 0 0)) front t.kind rest h.0 h.2.1.0 good)) are) in
    from_some size front (tokens_by n size) h.0
    ∙ (ap (λ (p : Kind × List ℕ). token_and size front p (tokens_by n size)) token
    ∙ (ap (λ (ks : List Token). record { place = size - length front; kind = t.kind } ∷ ks) behind
    ∙ ap (λ (x : Token). x ∷ ts) (token_eq (record { place = size - length front; kind = t.kind }) t place refl)))

tokens_are : (size : ℕ) (text : List ℕ) (ts : List Token) → AreTokens size text ts → tokens_of size text ≡ ts
unfolding tokens_of
tokens_are size text ts h = listed (length text) size text ts (omega arith) h

-- the list is one of the tokens
pub are_tokens : (size : ℕ) (text : List ℕ) → length text ≤ size → AreTokens size text (tokens_of size text)
are_tokens size text fits =
    let some = some_list quoted_is_decided size text fits in
    subst (λ (ts : List Token). AreTokens size text ts) (sym (tokens_are size text some.0 some.1)) some.1

more_by : (b : Bool) (ts : List Token) (P : List Token → Type 0) → P ts → MatchBool b ((if b then [] else ts) ≡ []) (P (if b then [] else ts))
more_by true ts P h = refl
more_by false ts P h = h

-- nothing is left
pub none_left : (size : ℕ) (text : List ℕ) → skip text ≡ [] → tokens_of size text ≡ []
none_left size text none = tokens_are size text [] none

-- the first token, and those of what stands behind it
pub first_left : (size : ℕ) (text front rest : List ℕ) (k : Kind) → front ≡ skip text → 0 < length front → length front ≤ size → length rest ≤ size → IsToken front k rest
    → tokens_left (Some (record { place = size - length front; kind = k })) size rest ≡ tokens_of size text
first_left size text front rest k is some fits within token =
    let t : Token = record { place = size - length front; kind = k } in
    let behind : List Token = if is_bad k then [] else tokens_of size rest in
    let place : size - length front + length front ≡ size = omega arith in
    let P : List ℕ → Type 0 = λ f. (0 < length f) × (t.place + length f ≡ size) × ((after : List ℕ) × (IsToken f k after × MatchBool (is_bad k) (behind ≡ []) (AreTokens size after behind))) in
    let are : AreTokens size text (t ∷ behind) =
    subst P is (some, place, (rest, (token, more_by (is_bad k) (tokens_of size rest) (AreTokens size rest) (are_tokens size rest within)))) in
    sym (tokens_are size text (t ∷ behind) are)

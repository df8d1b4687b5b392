-- A text has one list of tokens.
use Rattle.std.proofs.Common.{◌≡◌, ℕ, ◌+◌, ◌-◌, ◌<◌, ◌≤◌, zero, suc, ◌⊎◌, inl, inr, ⊎_elim, Bool, true, false, List, [], ◌∷◌, ◌++◌, length, take, drop, get_or, refl, sym, ap, subst, ◌∙◌, arith}
use Rattle.std.specs.Prelude.{MatchBool}
use Rattle.std.proofs.lemmas.Bool.{cases_Bool}
use Rattle.std.proofs.lemmas.List.{nil_from_length, length-append, length-drop}
use Rattle.script_tokens.proofs.WordLemmas.{skip_shorter, plain_some}
use Rattle.join_base.specs.Quoted.{Unquotes, QuotedIsPrefixFree, QuotedIsDecided}
use Rattle.script_tokens.specs.declared.token.Kind.{Kind}
use Rattle.script_tokens.specs.declared.token.Kind.TheVariants as kind
use Rattle.script_tokens.specs.declared.token.Token.{Token}
use Rattle.script_tokens.specs.Tokens.{skip, is_bad, is_quote, plain_at, IsToken, IsPlainToken, IsQuotedToken, AreTokens, OneList, SomeList}

pub token_eq : (t u : Token) → t.place ≡ u.place → t.kind ≡ u.kind → t ≡ u
token_eq t u p k =
    let one : Path Token t (record { place = u.place; kind = t.kind }) = ap (λ (n : ℕ). record { place = n; kind = t.kind }) p in
    one ∙ ap (λ (n : Kind). record { place = u.place; kind = n }) k

-- ---- one token at a place

quoted_once : QuotedIsPrefixFree → (text : List ℕ) (k l : Kind) (r s : List ℕ) → IsQuotedToken text k r → IsQuotedToken text l s → (k ≡ l) × (r ≡ s)
quoted_once law text (kind.Words w) (kind.Words v) r s h i = let same = law w v r s (sym h.split ∙ i.split) in (ap kind.Words same.0, same.1)
quoted_once law text (kind.Words w) kind.Bad r s h i = absurd (i.0 w r h)
quoted_once law text kind.Bad (kind.Words v) r s h i = absurd (h.0 v s i)
quoted_once law text kind.Bad kind.Bad r s h i = (refl, h.1 ∙ sym i.1)
quoted_once law text (kind.Mark m) l r s h i = absurd h
quoted_once law text (kind.Name n) l r s h i = absurd h
quoted_once law text (kind.Number n) l r s h i = absurd h
quoted_once law text (kind.Words w) (kind.Mark m) r s h i = absurd i
quoted_once law text (kind.Words w) (kind.Name m) r s h i = absurd i
quoted_once law text (kind.Words w) (kind.Number m) r s h i = absurd i
quoted_once law text kind.Bad (kind.Mark m) r s h i = absurd i
quoted_once law text kind.Bad (kind.Name m) r s h i = absurd i
quoted_once law text kind.Bad (kind.Number m) r s h i = absurd i

token_once : QuotedIsPrefixFree → (b : Bool) (text : List ℕ) (k l : Kind) (r s : List ℕ)
    → MatchBool b (IsQuotedToken text k r) (IsPlainToken text k r) → MatchBool b (IsQuotedToken text l s) (IsPlainToken text l s) → (k ≡ l) × (r ≡ s)
token_once law true text k l r s h i = quoted_once law text k l r s h i
token_once law false text k l r s h i = (h.0 ∙ sym i.0, h.1 ∙ sym i.1)

-- ---- one list

one_rest : (b : Bool) (P Q R S : Type 0) (T : Type 0) → MatchBool b P Q → MatchBool b R S → (P → R → T) → (Q → S → T) → T
one_rest true P Q R S T p r f g = f p r
one_rest false P Q R S T q s f g = g q s

one_list_of : QuotedIsPrefixFree → (size : ℕ) (text : List ℕ) (ts us : List Token) → AreTokens size text ts → AreTokens size text us → ts ≡ us
one_list_of law size text [] [] h k = refl
one_list_of law size text [] (u ∷ us) h k = absurd (omega (arith, ap length h, k.0))
one_list_of law size text (t ∷ ts) [] h k = absurd (omega (arith, ap length k, h.0))
one_list_of law size text (t ∷ ts) (u ∷ us) h k =
    let place : t.place ≡ u.place = omega (arith, h.1, k.1) in
    let same = token_once law (is_quote (get_or (skip text) 0 0)) (skip text) t.kind u.kind h.2.0 k.2.0 h.2.1.0 k.2.1.0 in
    let rest : List ℕ = h.2.0 in
    let P : Bool → Type 0 = λ b. MatchBool b (us ≡ []) (AreTokens size rest us) in
    let Q : List ℕ → Type 0 = λ r. MatchBool (is_bad u.kind) (us ≡ []) (AreTokens size r us) in
    let others : ts ≡ us = one_rest (is_bad t.kind) (ts ≡ []) (AreTokens size rest ts) (us ≡ []) (AreTokens size rest us) (ts ≡ us) h.2.1.1
    (subst P (sym (ap is_bad same.0)) (subst Q (sym same.1) k.2.1.1))
    (λ p r. p ∙ sym r) (λ q s. one_list_of law size rest ts us q s) in
    ap (λ (x : Token). x ∷ ts) (token_eq t u place same.0) ∙ ap (λ (l : List Token). u ∷ l) others

pub one_list : QuotedIsPrefixFree → OneList
one_list law text tokens other h k = one_list_of law (length text) text tokens other h k

-- ---- some list

zero_or_some : (n : ℕ) → (n ≡ 0) ⊎ (0 < n)
zero_or_some zero = inl refl
zero_or_some (suc n) = inr (omega arith)

IsSomeToken : List ℕ → Kind → List ℕ → Type 0
IsSomeToken text k rest = IsToken text k rest × (is_bad k ≡ false → length rest < length text)

SomeToken : List ℕ → Type 0
SomeToken text = (k : Kind) × ((rest : List ℕ) × IsSomeToken text k rest)

pub quoted_shorter : (text words rest : List ℕ) → Unquotes 120 text words rest → length rest < length text
quoted_shorter text words rest h = omega (arith, simp length-append at (ap length h.split))

some_quoted : QuotedIsDecided → (text : List ℕ) → is_quote (get_or text 0 0) ≡ true → SomeToken text
unfolding IsSomeToken SomeToken
some_quoted decided text e =
    ⊎_elim
    (λ h. (kind.Words h.0, (h.1.0, (rw e h.1.1, λ good. quoted_shorter text h.0 h.1.0 h.1.1))))
    (λ none. (kind.Bad, ([], (rw e (none, refl), λ good. absurd cc))))
    (decided 120 text)

some_plain : (text : List ℕ) → 0 < length text → is_quote (get_or text 0 0) ≡ false → SomeToken text
unfolding IsSomeToken SomeToken
some_plain text some e =
    ((plain_at text).0, (drop ((plain_at text).1) text, (rw e (refl, refl), λ good. omega (arith, length-drop ((plain_at text).1) text, plain_some text some))))

some_token : QuotedIsDecided → (text : List ℕ) → 0 < length text → SomeToken text
some_token decided text some =
    ⊎_elim
    (λ (e : is_quote (get_or text 0 0) ≡ true). some_quoted decided text e)
    (λ (e : is_quote (get_or text 0 0) ≡ false). some_plain text some e)
    (cases_Bool (is_quote (get_or text 0 0)))

SomeTokens : ℕ → List ℕ → Type 0
SomeTokens size text = (tokens : List Token) × AreTokens size text tokens

at_place : ℕ → List ℕ → Kind → Token
at_place size front k = record { place = size - length front; kind = k }

tokens_from : (size : ℕ) (text : List ℕ) → length (skip text) ≤ size → 0 < length (skip text) → SomeToken (skip text)
    → ((rest : List ℕ) → length rest < length (skip text) → SomeTokens size rest) → SomeTokens size text
unfolding SomeTokens SomeToken IsSomeToken at_place
tokens_from size text fits some token further =
    let place : size - length (skip text) + length (skip text) ≡ size = omega arith in
    ⊎_elim
    (λ (bad : is_bad token.0 ≡ true). (at_place size (skip text) token.0 ∷ [], (some, place, (token.1.0, (token.1.1.0, rw bad refl)))))
    (λ (good : is_bad token.0 ≡ false).
    let more = further token.1.0 (token.1.1.1 good) in
    (at_place size (skip text) token.0 ∷ more.0, (some, place, (token.1.0, (token.1.1.0, rw good more.1)))))
    (cases_Bool (is_bad token.0))

tokens_by : QuotedIsDecided → (bound size : ℕ) (text : List ℕ) → length text ≤ bound → length text ≤ size → SomeTokens size text
unfolding SomeTokens
tokens_by decided zero size text few fits = ([], nil_from_length (skip text) (omega (arith, skip_shorter text)))
tokens_by decided (suc bound) size text few fits =
    ⊎_elim
    (λ (none : length (skip text) ≡ 0). ([], nil_from_length (skip text) none))
    (λ (some : 0 < length (skip text)).
    tokens_from size text (omega (arith, skip_shorter text)) some (some_token decided (skip text) some)
    (λ rest shorter. tokens_by decided bound size rest (omega (arith, skip_shorter text)) (omega (arith, skip_shorter text))))
    (zero_or_some (length (skip text)))

pub some_list : QuotedIsDecided → SomeList
unfolding SomeTokens
some_list decided size text fits = tokens_by decided (length text) size text (omega arith) fits

-- ---- a list that grows keeps its front

pub kept_more : {X : Type 0} (xs ys : List X) (y : X) → take (length xs) ys ≡ xs → take (length xs) (ys ++ y ∷ []) ≡ xs
kept_more [] ys y kept = refl
kept_more (x ∷ xs) [] y kept = absurd cc
kept_more {X} (x ∷ xs) (z ∷ ys) y kept =
    let head : z ≡ x = cc in
    let tail : take (length xs) ys ≡ xs = cc in
    ap (λ (w : X). w ∷ take (length xs) (ys ++ y ∷ [])) head ∙ ap (λ (ws : List X). x ∷ ws) (kept_more xs ys y tail)

-- The tokens of a text, one after the other.
use Rattle.std.proofs.Common.{◌≡◌, ℕ, ◌+◌, ◌-◌, ◌<◌, ◌≤◌, sym, arith, Bool, true, false, List, [], ◌∷◌, ◌++◌, length, refl, subst, append_assoc}
use Rattle.std.specs.Prelude.{MatchBool}
use Rattle.std.proofs.lemmas.List.{append-nil}
use Rattle.script_tokens.specs.declared.token.Kind.{Kind}
use Rattle.script_tokens.specs.declared.token.Token.{Token}
use Rattle.script_tokens.specs.Tokens.{skip, is_bad, IsToken, AreTokens, AreFront}

more_by : (b : Bool) (P Q : Type 0) → b ≡ false → Q → MatchBool b P Q
more_by false P Q e q = q
more_by true P Q e q = absurd cc

end_by : (b : Bool) (P Q : Type 0) → b ≡ true → P → MatchBool b P Q
end_by true P Q e p = p
end_by false P Q e p = absurd cc

pub front_more : (text : List ℕ) (list : List Token) (rest after : List ℕ) (t : Token) → AreFront text list rest
    → 0 < length (skip rest) → t.place + length (skip rest) ≡ length text → IsToken (skip rest) t.kind after → is_bad t.kind ≡ false
    → AreFront text (list ++ t ∷ []) after
front_more text list rest after t h some place token good more are =
    rw (append_assoc list (t ∷ []) more) (h (t ∷ more) (some, place, (after, (token, more_by (is_bad t.kind) (more ≡ []) (AreTokens (length text) after more) good are))))

pub front_bad : (text : List ℕ) (list : List Token) (rest after : List ℕ) (t : Token) → AreFront text list rest
    → 0 < length (skip rest) → t.place + length (skip rest) ≡ length text → IsToken (skip rest) t.kind after → is_bad t.kind ≡ true
    → AreTokens (length text) text (list ++ t ∷ [])
front_bad text list rest after t h some place token bad =
    h (t ∷ []) (some, place, (after, (token, end_by (is_bad t.kind) ([] ≡ []) (AreTokens (length text) after []) bad refl)))

pub front_end : (text : List ℕ) (list : List Token) (rest : List ℕ) → AreFront text list rest → skip rest ≡ [] → AreTokens (length text) text list
front_end text list rest h e = subst (λ (l : List Token). AreTokens (length text) text l) (append-nil list) (h [] e)

-- one more token is read
pub front_next : (text : List ℕ) (list pushed : List Token) (rest front after : List ℕ) (k : Kind) → AreFront text list rest → front ≡ skip rest
    → 0 < length front → length front ≤ length text → IsToken front k after → is_bad k ≡ false
    → pushed ≡ list ++ record { place = length text - length front; kind = k } ∷ [] → AreFront text pushed after
front_next text list pushed rest front after k h is some fits token good grown =
    let t : Token = record { place = length text - length front; kind = k } in
    let place : length text - length front + length front ≡ length text = omega arith in
    subst (λ (l : List Token). AreFront text l after) (sym grown)
    (front_more text list rest after t h (subst (λ (l : List ℕ). 0 < length l) is some) (subst (λ (l : List ℕ). length text - length front + length l ≡ length text) is place)
    (subst (λ (l : List ℕ). IsToken l k after) is token) good)

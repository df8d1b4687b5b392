-- One mark more in a prefix, and one less.
use Rattle.std.proofs.Common.{◌≡◌, ℕ, zero, suc, ◌+◌, ◌*◌, ◌-◌, ◌/◌, ◌%◌, ◌<◌, true, false, ◌∷◌, ap, subst, ◌∙◌, arith}
use Rattle.std.specs.Prelude.{◌==◌}
use Rattle.std.proofs.lemmas.Nat.{div-mul-add}
use Rattle.std.proofs.Math.Nat.{mod-eq-sub-div-mul}
use Rattle.script_grammar.specs.Prefixes.{bits_of}

half : (bits bit : ℕ) → bit < 2 → (bits * 2 + bit) / 2 ≡ bits
half bits bit small = div-mul-add bits 2 bit small

lowest : (bits bit : ℕ) → bit < 2 → (bits * 2 + bit) % 2 ≡ bit
lowest bits bit small =
    let e : (bits * 2 + bit) % 2 ≡ (bits * 2 + bit) - bits * 2 =
    mod-eq-sub-div-mul (bits * 2 + bit) 2 ∙ ap (λ (n : ℕ). (bits * 2 + bit) - n * 2) (half bits bit small) in
    omega (arith, e)

more : (count bits bit : ℕ) → bit < 2 → bits_of (suc count) (bits * 2 + bit) ≡ (bit == 1) ∷ bits_of count bits
more count bits bit small =
    ap (λ (n : ℕ). (n == 1) ∷ bits_of count ((bits * 2 + bit) / 2)) (lowest bits bit small)
    ∙ ap (λ (n : ℕ). (bit == 1) ∷ bits_of count n) (half bits bit small)

next : (count : ℕ) → suc count ≡ count + 1
next count = omega arith

pub with_not : (count bits : ℕ) → bits_of (count + 1) (bits * 2 + 1) ≡ true ∷ bits_of count bits
with_not count bits = subst (λ (n : ℕ). bits_of n (bits * 2 + 1) ≡ true ∷ bits_of count bits) (next count) (more count bits 1 (omega arith))

pub with_parentheses : (count bits : ℕ) → bits_of (count + 1) (bits * 2) ≡ false ∷ bits_of count bits
with_parentheses count bits =
    let same : bits * 2 + 0 ≡ bits * 2 = omega arith in
    subst (λ (n : ℕ). bits_of n (bits * 2) ≡ false ∷ bits_of count bits) (next count)
    (subst (λ (n : ℕ). bits_of (suc count) n ≡ false ∷ bits_of count bits) same (more count bits 0 (omega arith)))

pub bits_split : (count bits : ℕ) → 0 < count → bits_of count bits ≡ (bits % 2 == 1) ∷ bits_of (count - 1) (bits / 2)
bits_split zero bits some = absurd (omega (arith, some))
bits_split (suc count) bits some =
    let less : count ≡ suc count - 1 = omega arith in
    ap (λ (n : ℕ). (bits % 2 == 1) ∷ bits_of n (bits / 2)) less

-- Lists of faults of which the same is reported, whatever was found before.
use Rattle.std.proofs.Common.{◌≡◌, ◌∙◌, ◌++◌, ◌+◌, ◌<◌, ℕ, zero, suc, Bool, true, false, List, [], ◌∷◌, Option, refl, sym, ap, append_assoc, arith}
use Rattle.std.specs.Prelude.{◌==◌}
use Rattle.std.specs.List.{flat_map}
use Rattle.std.proofs.lemmas.Bool.Decides.{nat_tests}
use Rattle.std.proofs.lemmas.List.{append-nil}
use Rattle.script_grammar.specs.declared.fault.ScriptCause.TheVariants.{TooMany}
use Rattle.script_faults.specs.declared.first.Fault.{Fault}
use Rattle.script_faults.specs.First.{fault, fault_if, first_of, too_many}
use Rattle.script_faults.specs.Numbered.{at_most, numbered_faults}
use Rattle.script_faults.proofs.FirstLemmas.{first_of-append}
use Rattle.script_faults.proofs.OrderLemmas.{first_of-swap}

pub record Same (faults others : List Fault) : Type 0 where
  pub is : (found : Option Fault) → first_of found faults ≡ first_of found others

pub same_equal : {faults others : List Fault} → faults ≡ others → Same faults others
same_equal {faults} {others} e = record { is = λ found. ap (first_of found) e }

pub same_back : {faults others : List Fault} → Same faults others → Same others faults
same_back p = record { is = λ found. sym (p.is found) }

pub same_then : {faults others more : List Fault} → Same faults others → Same others more → Same faults more
same_then p q = record { is = λ found. p.is found ∙ q.is found }

pub same_joined : {one other some more : List Fault} → Same one some → Same other more → Same (one ++ other) (some ++ more)
same_joined {one} {other} {some} {more} p q = record {
  is = λ found. first_of-append found one other ∙ ap (λ (o : Option Fault). first_of o other) (p.is found) ∙ q.is (first_of found some) ∙ sym (first_of-append found some more);
}

-- the order does not matter
pub same_swap : (one other : List Fault) → Same (one ++ other) (other ++ one)
same_swap one other = record { is = λ found. first_of-append found one other ∙ first_of-swap found one other ∙ sym (first_of-append found other one) }

-- one in front of two, and between them
pub same_past : (one other more : List Fault) → Same (one ++ (other ++ more)) (other ++ (one ++ more))
same_past one other more =
    same_then (same_equal (sym (append_assoc one other more)))
    (same_then (same_joined (same_swap one other) (same_equal refl)) (same_equal (append_assoc other one more)))

-- two and two, by their firsts and their seconds
pub same_cross : (a b c d : List Fault) → Same ((a ++ b) ++ (c ++ d)) ((a ++ c) ++ (b ++ d))
same_cross a b c d =
    let inner : Same (a ++ (b ++ (c ++ d))) (a ++ (c ++ (b ++ d))) = same_joined (same_equal refl) (same_past b c d) in
    same_then (same_equal (append_assoc a b (c ++ d))) (same_then inner (same_equal (sym (append_assoc a c (b ++ d)))))

-- ---- lists with a most

module _ {X : Type 0} (most : ℕ) (place : X → ℕ) (faults : X → List Fault) where
  number_past : (number : ℕ) → most < number → (number == most) ≡ false
  number_past number past = grind (arith, nat_tests)

  number_at : (number : ℕ) → number ≡ most → (number == most) ≡ true
  number_at number at = grind (arith, nat_tests)

  number_before : (number : ℕ) → number < most → (number == most) ≡ false
  number_before number less = grind (arith, nat_tests)

  -- an item that is not the one too many
  none_many : (number : ℕ) (x : X) → (number == most) ≡ false → faults x ++ at_most most number (place x) ≡ faults x
  none_many number x is = ap (λ (b : Bool). faults x ++ fault_if b TooMany (place x)) is ∙ append-nil (faults x)

  behind_most : (number : ℕ) (xs : List X) → most < number → Same (numbered_faults most place faults number xs) (flat_map faults xs)
  behind_most number [] past = same_equal refl
  behind_most number (x ∷ xs) past =
      same_joined (same_equal (none_many number x (number_past number past))) (behind_most (number + 1) xs (omega (arith, past)))

  up_to_most : (number left : ℕ) (xs : List X) → number + left ≡ most → Same (numbered_faults most place faults number xs) (too_many left place xs ++ flat_map faults xs)
  up_to_most number left [] at = same_equal refl
  up_to_most number zero (x ∷ xs) at =
      let one : Same (faults x ++ at_most most number (place x)) (faults x ++ fault TooMany (place x) ∷ []) =
      same_equal (ap (λ (b : Bool). faults x ++ fault_if b TooMany (place x)) (number_at number (omega (arith, at)))) in
      same_then (same_joined (same_then one (same_swap (faults x) (fault TooMany (place x) ∷ []))) (behind_most (number + 1) xs (omega (arith, at))))
      (same_equal (append_assoc (fault TooMany (place x) ∷ []) (faults x) (flat_map faults xs)))
  up_to_most number (suc left) (x ∷ xs) at =
      same_then (same_joined (same_equal (none_many number x (number_before number (omega (arith, at))))) (up_to_most (number + 1) left xs (omega (arith, at))))
      (same_past (faults x) (too_many left place xs) (flat_map faults xs))

  pub numbered_same : (xs : List X) → Same (numbered_faults most place faults 0 xs) (too_many most place xs ++ flat_map faults xs)
  numbered_same xs = up_to_most 0 most xs (omega arith)

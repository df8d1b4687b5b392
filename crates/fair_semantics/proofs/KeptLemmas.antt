-- Late counts of 0 show nothing, and live numbers rise with one that is greater.
use Rattle.std.proofs.Common.{◌≡◌, ◌∙◌, inl, inr, ℕ, ◌+◌, ◌<◌, List, [], ◌∷◌, ◌++◌, true, length, length-append, get_or, refl, ap, arith}
use Rattle.std.specs.Prelude.{◌==◌}
use Rattle.std.specs.List.{AllByRecursion}
use Rattle.std.specs.List.Sorted.{IsStrictlyIncreasing}
use Rattle.std.proofs.Math.ListN.{get_or-append}
use Rattle.std.proofs.Math.Seq.{get_or-append_seam}
use Rattle.std.proofs.lemmas.Bool.{cases_lt}
use Rattle.join_base.specs.declared.message.Source.{Source}
use Rattle.join_base.specs.Late.{late_list}

pub late_list_zero : (source : ℕ → Source) (from : ℕ) (counts : List ℕ) → AllByRecursion (λ n. n ≡ 0) counts → late_list source from counts ≡ []
late_list_zero source from [] h = refl
late_list_zero source from (count ∷ counts) h = let zero_is : (count == 0) ≡ true = ap (λ (n : ℕ). n == 0) h.0 in rw zero_is (late_list_zero source (from + 1) counts h.1)

-- a greater number behind ascending ones
pub increasing_push : (xs : List ℕ) (n : ℕ) → IsStrictlyIncreasing xs → ((k : ℕ) → k < length xs → get_or xs k 0 < n) → IsStrictlyIncreasing (xs ++ n ∷ [])
increasing_push xs n inc below k h =
    let l = length-append xs (n ∷ []) in
    elim (cases_lt (k + 1) (length xs)) [
      | inl within ↦
          let a = get_or-append xs (n ∷ []) 0 k (omega arith) in
          let b = get_or-append xs (n ∷ []) 0 (k + 1) (omega arith) in
          let c = inc k (omega arith) in
          omega arith
      | inr past ↦
          let last : k + 1 ≡ length xs = omega arith in
          let a = get_or-append xs (n ∷ []) 0 k (omega arith) in
          let b : get_or (xs ++ n ∷ []) (k + 1) 0 ≡ n = ap (λ (i : ℕ). get_or (xs ++ n ∷ []) i 0) last ∙ get_or-append_seam xs n [] 0 in
          let c = below k (omega arith) in
          omega arith
    ]

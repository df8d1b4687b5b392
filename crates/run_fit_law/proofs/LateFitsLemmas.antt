-- The late counts that a state lists fit the plan, and stand in the order of their sources.
use Rattle.std.proofs.Common.{◌≡◌, ℕ, zero, suc, ◌+◌, ◌^◌, ◌<◌, ◌≤◌, List, [], ◌∷◌, ◌++◌, length, map, Bool, true, false, refl, sym, subst, arith}
use Rattle.std.specs.Prelude.{if◌then◌else◌, ◌==◌, slice_index}
use Rattle.std.specs.List.{AllByRecursion}
use Rattle.std.specs.List.Sorted.{IsStrictlyIncreasing}
use Rattle.std.proofs.lemmas.List.{append-nil}
use Rattle.std.proofs.lemmas.Bool.Decides.{nat_tests}
use Rattle.join_base.specs.declared.message.Source.{Source}
use Rattle.join_base.specs.declared.message.Source.TheVariants.{Feed, Actor}
use Rattle.script_types.specs.declared.plan.Plan.{Plan}
use Rattle.join_base.specs.Late.{late_counts, late_list}
use Rattle.fair_semantics.specs.Fits.{LateFits, SourceFits, source_place}
use Rattle.join_base.specs.Late.{Late}
use Rattle.fair_semantics.proofs.ListLemmas.{each_append}

-- each number is at least the one before it and 1
abbrev Rising : ℕ → List ℕ → Type 0
Rising least [] = Unit {0}
Rising least (x ∷ xs) = (least ≤ x) × Rising (x + 1) xs

rising_is : (least : ℕ) (xs : List ℕ) → Rising least xs → IsStrictlyIncreasing xs
rising_is least [] h k l = absurd (omega arith)
rising_is least (x ∷ []) h k l = absurd (omega arith)
rising_is least (x ∷ y ∷ ys) h zero l = omega (arith, h.1.0)
rising_is least (x ∷ y ∷ ys) h (suc k) l =
    let next : suc k + 1 ≡ suc (k + 1) = omega arith in
    let later : slice_index (y ∷ ys) k < slice_index (y ∷ ys) (k + 1) = rising_is (x + 1) (y ∷ ys) h.1 k (omega arith) in
    subst (λ (n : ℕ). slice_index (y ∷ ys) k < slice_index (x ∷ y ∷ ys) n) (sym next) later

abbrev places : ℕ → List (Source × ℕ) → List ℕ
places feeds late = map (λ (l : Source × ℕ). source_place feeds l.0) late

module _ (feeds low : ℕ) (source : ℕ → Source) (rises : (k : ℕ) → low ≤ k → source_place feeds (source k) + 1 ≤ source_place feeds (source (k + 1))) where
  rising_list : (counts : List ℕ) (from least : ℕ) (rest : List (Source × ℕ)) → low ≤ from → least ≤ source_place feeds (source from) → ((n : ℕ) → n ≤ source_place feeds (source (from + length counts)) → Rising n (places feeds rest)) → Rising least (places feeds (late_list source from counts ++ rest))
  rising_list [] from least rest l m h = let e : from ≡ from + 0 = omega arith in h least (subst (λ (n : ℕ). least ≤ source_place feeds (source n)) e m)
  rising_list (c ∷ counts) from least rest l m h =
      by (c == 0)
      (rising_list counts (from + 1) least rest (omega arith) (omega (arith, rises from l, m)) (λ n s. h n (subst (λ (k : ℕ). n ≤ source_place feeds (source k)) (next from (length counts)) s)))
      (rising_list counts (from + 1) (source_place feeds (source from) + 1) rest (omega arith) (rises from l) (λ n s. h n (subst (λ (k : ℕ). n ≤ source_place feeds (source k)) (next from (length counts)) s)))
    where
      next : (a b : ℕ) → a + 1 + b ≡ a + suc b
      next a b = omega arith

      by : (b : Bool) → Rising least (places feeds (late_list source (from + 1) counts ++ rest)) → Rising (source_place feeds (source from) + 1) (places feeds (late_list source (from + 1) counts ++ rest))
          → Rising least (places feeds ((if b then late_list source (from + 1) counts else (source from, c) ∷ late_list source (from + 1) counts) ++ rest))
      by true skipped listed = skipped
      by false skipped listed = (m, listed)

-- the late counts of a state are listed by source, the feeds first
pub late_in_order : (feeds : ℕ) (late : Late) → length late.feeds ≡ feeds → IsStrictlyIncreasing (places feeds (late_counts late))
late_in_order feeds late count =
    rising_is 0 (places feeds (late_counts late))
    (rising_list feeds 1 (λ k. Feed k) (λ k l. omega (arith, l)) late.feeds 1 0 (late_list (λ a. Actor a) 0 late.actors) (omega arith) (omega arith) (λ n l.
    subst (λ (xs : List (Source × ℕ)). Rising n (places feeds xs)) (append-nil (late_list (λ a. Actor a) 0 late.actors))
    (rising_list feeds 0 (λ a. Actor a) (λ k l. omega arith) late.actors 0 n [] (omega arith) (omega (arith, l, count)) (λ m s. tt))))

module _ (plan : Plan) (feeds : ℕ) where
  late_fit : (source : ℕ → Source) (counts : List ℕ) (from : ℕ) → ((k : ℕ) → from ≤ k → k < from + length counts → SourceFits plan feeds (source k)) → AllByRecursion (λ n. n < 2 ^ 64) counts → AllByRecursion (LateFits plan feeds) (late_list source from counts)
  late_fit source [] from fit small = tt
  late_fit source (c ∷ counts) from fit small = by (c == 0) refl (late_fit source counts (from + 1) (λ k l m. fit k (omega (arith, l)) (omega (arith, m))) small.1)
    where
      above : (n : ℕ) → (n == 0) ≡ false → 0 < n
      above n e = grind (arith, nat_tests)

      by : (b : Bool) → (c == 0) ≡ b → AllByRecursion (LateFits plan feeds) (late_list source (from + 1) counts) → AllByRecursion (LateFits plan feeds) (if b then late_list source (from + 1) counts else (source from, c) ∷ late_list source (from + 1) counts)
      by true e later = later
      by false e later = (record { source = fit from (omega arith) (omega arith); above_zero = above c e; small = small.0 }, later)

  pub late_counts_fit : (late : Late) → length late.feeds ≡ feeds → length late.actors ≡ length plan.actors → AllByRecursion (λ n. n < 2 ^ 64) late.feeds → AllByRecursion (λ n. n < 2 ^ 64) late.actors → AllByRecursion (LateFits plan feeds) (late_counts late)
  late_counts_fit late of_feeds of_actors small_feeds small_actors =
      each_append (LateFits plan feeds) (late_list (λ k. Feed k) 1 late.feeds) (late_list (λ a. Actor a) 0 late.actors)
      (late_fit (λ k. Feed k) late.feeds 1 (λ k l m. (l, omega (arith, m, of_feeds))) small_feeds)
      (late_fit (λ a. Actor a) late.actors 0 (λ k l m. let small : k < length plan.actors = omega (arith, m, of_actors) in small) small_actors)

-- The late counts of a state stay as many, and which are 0.
use Rattle.std.proofs.Common.{◌≡◌, ◌∙◌, ℕ, zero, suc, ◌+◌, ◌<◌, List, [], ◌∷◌, ◌++◌, length, map, false, Some, slice_get, refl, ap, sym, subst, arith}
use Rattle.std.specs.Prelude.{not, ◌==◌, Contains}
use Rattle.std.specs.List.{AllByRecursion, list_any}
use Rattle.std.proofs.lemmas.Bool.Decides.{nat_tests}
use Rattle.join_base.specs.declared.message.Source.TheVariants.{Feed, Actor}
use Rattle.join_base.specs.Late.{Late}
use Rattle.join_base.specs.Late.{late_counts}
use Rattle.fair_semantics.specs.Linked.{numbers_from, sources}
use Rattle.log_posts.specs.Lates.{count_where}
use Rattle.log_replay.specs.Expected.{some_late}
use Rattle.log_replay.proofs.TakenLemmas.{or_parts}
pub use Rattle.fair_semantics.proofs.SizeLemmas.{Sized, none_counted, sized, sized_more, sized_opening}

pub zero_where : (f : ℕ → ℕ) (ns : List ℕ) → AllByRecursion (λ n. n ≡ 0) (map (λ k. count_where false (f k)) ns)
zero_where f [] = tt
zero_where f (n ∷ ns) = (refl, zero_where f ns)

zeros_of : (counts : List ℕ) → list_any (λ n. not (n == 0)) counts ≡ false → AllByRecursion (λ n. n ≡ 0) counts
zeros_of [] e = tt
zeros_of (c ∷ counts) e = let p = or_parts (not (c == 0)) (list_any (λ n. not (n == 0)) counts) e in (zero_is c p.0, zeros_of counts p.1)
  where
    zero_is : (n : ℕ) → not (n == 0) ≡ false → n ≡ 0
    zero_is n e = grind (arith, nat_tests)

pub none_listed_of : (late : Late) → some_late late ≡ false → late_counts late ≡ []
none_listed_of late e = let p = or_parts (list_any (λ n. not (n == 0)) late.feeds) (list_any (λ n. not (n == 0)) late.actors) e in none_counted late (zeros_of late.feeds p.0) (zeros_of late.actors p.1)

-- equal at each place
pub map_to : {X : Type 0} (f : ℕ → X) (start : ℕ) (xs : List X) → ((k : ℕ) (x : X) → slice_get xs k ≡ Some x → f (start + k) ≡ x) → map f (numbers_from start (length xs)) ≡ xs
map_to f start [] h = refl
map_to {X} f start (x ∷ xs) h =
    let e : start + 0 ≡ start = omega arith in
    let first : f start ≡ x = ap f (sym e) ∙ h 0 x refl in
    let later : (k : ℕ) (y : X) → slice_get xs k ≡ Some y → f (start + 1 + k) ≡ y = λ k y l. ap f (next start k) ∙ h (suc k) y l in
    λ i. first i ∷ map_to f (start + 1) xs later i
  where
    next : (a k : ℕ) → a + 1 + k ≡ a + suc k
    next a k = omega arith

-- ---- the actors are among the sources

contains_right : {X : Type 0} (xs ys : List X) (x : X) → Contains ys x → Contains (xs ++ ys) x
contains_right [] ys x c = c
contains_right (y ∷ xs) ys x c = let r = contains_right xs ys x c in (suc r.0, omega (arith, r.1), r.2)

contains_number : {X : Type 0} (f : ℕ → X) (start n b : ℕ) → b < n → Contains (map f (numbers_from start n)) (f (start + b))
contains_number f start zero b l = absurd (omega arith)
contains_number f start (suc n) zero l = let e : start ≡ start + 0 = omega arith in (zero, omega arith, ap f e)
contains_number {X} f start (suc n) (suc b) l =
    let r = contains_number f (start + 1) n b (omega arith) in
    let e : start + 1 + b ≡ start + suc b = omega arith in
    let at : Contains (map f (numbers_from (start + 1) n)) (f (start + suc b)) = subst (λ (k : ℕ). Contains (map f (numbers_from (start + 1) n)) (f k)) e r in
    (suc at.0, omega (arith, at.1), at.2)

pub contains_actor : (feeds actors a : ℕ) → a < actors → Contains (sources feeds actors) (Actor a)
contains_actor feeds actors a l =
    let e : 0 + a ≡ a = omega arith in
    contains_right (map (λ k. Feed k) (numbers_from 1 feeds)) (map (λ b. Actor b) (numbers_from 0 actors)) (Actor a) (subst (λ (k : ℕ). Contains (map (λ b. Actor b) (numbers_from 0 actors)) (Actor k)) e (contains_number (λ b. Actor b) 0 actors a l))

-- The first line that is wrong: over parts of a list of lines, and over two reasons.
use Rattle.std.proofs.Common.{◌≡◌, ◌∙◌, ℕ, suc, ◌+◌, ◌<◌, ◌≤◌, List, [], ◌∷◌, ◌++◌, length, Bool, true, false, Option, None, Some, refl, ap, sym, subst, arith}
use Rattle.std.specs.Prelude.{if◌then◌else◌, nat_lt}
use Rattle.std.specs.List.{AllByRecursion}
use Rattle.std.proofs.lemmas.Bool.Decides.{nat_tests}
use Rattle.log_replay.specs.Fault.{Line, LineKind}
use Rattle.log_audit.specs.declared.refusal.Difference.{Difference}
use Rattle.log_audit.specs.Search.{earlier}
use Rattle.log_audit.specs.Wrong.{first_wrong, or_later}

-- what is wrong at a line, by its number
abbrev pub Wrong : Type 0
Wrong = ℕ → LineKind → Option Difference

pub or_none : (first : Option Difference) → or_later first None ≡ first
or_none None = refl
or_none (Some d) = refl

pub or_assoc : (a b c : Option Difference) → or_later (or_later a b) c ≡ or_later a (or_later b c)
or_assoc None b c = refl
or_assoc (Some d) b c = refl

pub first_same : (f g : Wrong) → ((n : ℕ) (m : LineKind) → f n m ≡ g n m) → (n : ℕ) (lines : List Line) → first_wrong f n lines ≡ first_wrong g n lines
first_same f g same n [] = refl
first_same f g same n (l ∷ lines) = λ i. or_later (same n l.mark i) (first_same f g same (n + 1) lines i)

-- ---- parts of a list

pub first_append : (f : Wrong) (n : ℕ) (xs ys : List Line) → first_wrong f n (xs ++ ys) ≡ or_later (first_wrong f n xs) (first_wrong f (n + length xs) ys)
first_append f n [] ys = let e : n ≡ n + 0 = omega arith in ap (λ (k : ℕ). first_wrong f k ys) e
first_append f n (x ∷ xs) ys =
    let e : n + 1 + length xs ≡ n + suc (length xs) = omega arith in
    ap (or_later (f n x.mark)) (first_append f (n + 1) xs ys ∙ ap (λ (k : ℕ). or_later (first_wrong f (n + 1) xs) (first_wrong f k ys)) e)
    ∙ sym (or_assoc (f n x.mark) (first_wrong f (n + 1) xs) (first_wrong f (n + suc (length xs)) ys))

-- at none of the lines something is wrong, whatever their numbers are
abbrev pub AreRight : Wrong → List Line → Type 0
AreRight f lines = AllByRecursion (λ (l : Line). (n : ℕ) → f n l.mark ≡ None) lines

pub first_none : (f : Wrong) (n : ℕ) (lines : List Line) → AreRight f lines → first_wrong f n lines ≡ None
first_none f n [] right = refl
first_none f n (l ∷ lines) right = ap (λ (o : Option Difference). or_later o (first_wrong f (n + 1) lines)) (right.0 n) ∙ first_none f (n + 1) lines right.1

pub first_behind : (f : Wrong) (n : ℕ) (xs ys : List Line) → AreRight f xs → first_wrong f n (xs ++ ys) ≡ first_wrong f (n + length xs) ys
first_behind f n xs ys right = first_append f n xs ys ∙ ap (λ (o : Option Difference). or_later o (first_wrong f (n + length xs) ys)) (first_none f n xs right)

-- ---- two reasons

-- what is wrong names the line
abbrev pub Lined : Wrong → Type 0
Lined f = (n : ℕ) (m : LineKind) (d : Difference) → f n m ≡ Some d → d.line ≡ n

pub or_lined : (f g : Wrong) → Lined f → Lined g → Lined (λ n m. or_later (f n m) (g n m))
or_lined f g one other n m d = by (f n m) (one n m) (other n m)
  where
    by : (o : Option Difference) → ((c : Difference) → o ≡ Some c → c.line ≡ n) → ((c : Difference) → g n m ≡ Some c → c.line ≡ n) → or_later o (g n m) ≡ Some d → d.line ≡ n
    by None here later e = later d e
    by (Some c) here later e = here d e

first_lined : (f : Wrong) → Lined f → (n : ℕ) (lines : List Line) (d : Difference) → first_wrong f n lines ≡ Some d → n ≤ d.line
first_lined f lined n [] d e = absurd cc
first_lined f lined n (l ∷ lines) d e = by (f n l.mark) (lined n l.mark) (first_lined f lined (n + 1) lines d) e
  where
    by : (o : Option Difference) → ((c : Difference) → o ≡ Some c → c.line ≡ n) → (first_wrong f (n + 1) lines ≡ Some d → n + 1 ≤ d.line) → or_later o (first_wrong f (n + 1) lines) ≡ Some d → n ≤ d.line
    by None here later p = omega (arith, later p)
    by (Some c) here later p = omega (arith, here d p)

-- the first of two lists that begin at one line, of which one begins with what is wrong
first_here : (n : ℕ) (c : Difference) (o : Option Difference) → c.line ≡ n → ((d : Difference) → o ≡ Some d → n ≤ d.line) → earlier (Some c) o ≡ Some c
first_here n c None at later = refl
first_here n c (Some d) at later = ap (λ (b : Bool). if b then Some d else Some c) (not_less d.line c.line (omega (arith, at, later d refl)))
  where
    not_less : (a b : ℕ) → b ≤ a → nat_lt a b ≡ false
    not_less a b l = grind (arith, nat_tests)

second_here : (n : ℕ) (c : Difference) (o : Option Difference) → c.line ≡ n → ((d : Difference) → o ≡ Some d → n + 1 ≤ d.line) → earlier o (Some c) ≡ Some c
second_here n c None at later = refl
second_here n c (Some d) at later = ap (λ (b : Bool). if b then Some c else Some d) (less c.line d.line (omega (arith, at, later d refl)))
  where
    less : (a b : ℕ) → a < b → nat_lt a b ≡ true
    less a b l = grind (arith, nat_tests)

-- the earlier of the first lines by two reasons is the first by both
pub first_both : (f g : Wrong) → Lined f → Lined g → (n : ℕ) (lines : List Line) → earlier (first_wrong f n lines) (first_wrong g n lines) ≡ first_wrong (λ k m. or_later (f k m) (g k m)) n lines
first_both f g one other n [] = refl
first_both f g one other n (l ∷ lines) = by (first_both f g one other (n + 1) lines) (f n l.mark) (one n l.mark) (g n l.mark) (other n l.mark)
  where
    by : earlier (first_wrong f (n + 1) lines) (first_wrong g (n + 1) lines) ≡ first_wrong (λ k m. or_later (f k m) (g k m)) (n + 1) lines
        → (a : Option Difference) → ((c : Difference) → a ≡ Some c → c.line ≡ n) → (b : Option Difference) → ((c : Difference) → b ≡ Some c → c.line ≡ n)
        → earlier (or_later a (first_wrong f (n + 1) lines)) (or_later b (first_wrong g (n + 1) lines)) ≡ or_later (or_later a b) (first_wrong (λ k m. or_later (f k m) (g k m)) (n + 1) lines)
    by again None first None second = again
    by again None first (Some c) second = second_here n c (first_wrong f (n + 1) lines) (second c refl) (λ d e. first_lined f one (n + 1) lines d e)
    by again (Some c) first None second = first_here n c (first_wrong g (n + 1) lines) (first c refl) (λ d e. let l = first_lined g other (n + 1) lines d e in omega (arith, l))
    by again (Some c) first (Some d) second = first_here n c (Some d) (first c refl) (λ x e. let l = second x e in omega (arith, l))

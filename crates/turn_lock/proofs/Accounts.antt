-- The views account for FLAG and QUEUED over each step.
use Rattle.std.proofs.Common.{◌≡◌, ◌≢◌, ℕ, zero, suc, ◌+◌, ◌-◌, ◌≤◌, Bool, true, false, List, [], ◌∷◌, ◌++◌, length, set, get_or, sym, refl, ap, ◌∙◌, subst, ⊎_elim, arith}
use Rattle.std.specs.Prelude.{bit_and, bit_or}
use mathlib.Core.Option.{some, some-injective, some-ne-none}
use lib.ListN.{get_elem?}
use Rattle.atomic_table.proofs.Lists.{at_set, at_snoc}
use Rattle.turn_lock.specs.declared.view.View.{View}
use Rattle.turn_lock.specs.declared.view.Changes.{Changes}
use Rattle.turn_lock.specs.declared.view.Turn.TheVariants.{Has}
use Rattle.turn_lock.specs.View.{changes_of, requests_of, flag_of, mark_of, no_changes, unchanged, with_flag, with_clear, with_mark, with_unmark, together, each_together}
use Rattle.turn_lock.specs.Rule.{total, flags_set, flags_cleared, IsAccounted}
use Rattle.turn_lock.proofs.Lane.{word_of}

-- what each step on a word makes of FLAG and QUEUED
pub record BitsAfter (n : ℕ) : Type 0 where
  pub flag_small : flag_of n ≤ 1
  pub mark_small : mark_of n ≤ 1
  pub flag : (flag_of (bit_or n 1) ≡ 1) × (mark_of (bit_or n 1) ≡ mark_of n)
  pub clear : (flag_of (bit_and n 18446744073709551614) ≡ 0) × (mark_of (bit_and n 18446744073709551614) ≡ mark_of n)
  pub claim : (flag_of (bit_or n 2) ≡ flag_of n) × (mark_of (bit_or n 2) ≡ mark_of n)
  pub release : (flag_of (bit_and n 18446744073709551613) ≡ flag_of n) × (mark_of (bit_and n 18446744073709551613) ≡ mark_of n)
  pub mark : (flag_of (bit_or n 4) ≡ flag_of n) × (mark_of (bit_or n 4) ≡ 1)
  pub unmark : (flag_of (bit_and n 18446744073709551611) ≡ flag_of n) × (mark_of (bit_and n 18446744073709551611) ≡ 0)

pub bits_after : (q r f : Bool) → BitsAfter (word_of q r f)
bits_after true true true = record { flag_small = omega arith; mark_small = omega arith; flag = (refl, refl); clear = (refl, refl); claim = (refl, refl); release = (refl, refl); mark = (refl, refl); unmark = (refl, refl) }
bits_after true true false = record { flag_small = omega arith; mark_small = omega arith; flag = (refl, refl); clear = (refl, refl); claim = (refl, refl); release = (refl, refl); mark = (refl, refl); unmark = (refl, refl) }
bits_after true false true = record { flag_small = omega arith; mark_small = omega arith; flag = (refl, refl); clear = (refl, refl); claim = (refl, refl); release = (refl, refl); mark = (refl, refl); unmark = (refl, refl) }
bits_after true false false = record { flag_small = omega arith; mark_small = omega arith; flag = (refl, refl); clear = (refl, refl); claim = (refl, refl); release = (refl, refl); mark = (refl, refl); unmark = (refl, refl) }
bits_after false true true = record { flag_small = omega arith; mark_small = omega arith; flag = (refl, refl); clear = (refl, refl); claim = (refl, refl); release = (refl, refl); mark = (refl, refl); unmark = (refl, refl) }
bits_after false true false = record { flag_small = omega arith; mark_small = omega arith; flag = (refl, refl); clear = (refl, refl); claim = (refl, refl); release = (refl, refl); mark = (refl, refl); unmark = (refl, refl) }
bits_after false false true = record { flag_small = omega arith; mark_small = omega arith; flag = (refl, refl); clear = (refl, refl); claim = (refl, refl); release = (refl, refl); mark = (refl, refl); unmark = (refl, refl) }
bits_after false false false = record { flag_small = omega arith; mark_small = omega arith; flag = (refl, refl); clear = (refl, refl); claim = (refl, refl); release = (refl, refl); mark = (refl, refl); unmark = (refl, refl) }

pub length-unchanged : {A : Type 0} → (l : List A) → length (unchanged l) ≡ length l
length-unchanged [] = refl
length-unchanged (x ∷ l) = ap (λ (k : ℕ). suc k) (length-unchanged l)

pub unchanged_at : {A : Type 0} → (l : List A) (i : ℕ) → get_or (unchanged l) i no_changes ≡ no_changes
unchanged_at [] i = refl
unchanged_at (x ∷ l) zero = refl
unchanged_at (x ∷ l) (suc i) = unchanged_at l i

pub length-each_together : (xs ys : List Changes) → length xs ≡ length ys → length (each_together xs ys) ≡ length xs
length-each_together [] ys same = sym same
length-each_together (x ∷ xs) [] same = refl
length-each_together (x ∷ xs) (y ∷ ys) same = let h = length-each_together xs ys (omega arith) in omega arith

-- a number of changes, of both together
pub together_at : (f : Changes → ℕ) → f no_changes ≡ 0 → ((a b : Changes) → f (together a b) ≡ f a + f b) → (xs ys : List Changes) (i : ℕ) → f (get_or (each_together xs ys) i no_changes) ≡ f (get_or xs i no_changes) + f (get_or ys i no_changes)
together_at f none adds [] ys i = omega arith
together_at f none adds (x ∷ xs) [] zero = omega arith
together_at f none adds (x ∷ xs) [] (suc i) = omega arith
together_at f none adds (x ∷ xs) (y ∷ ys) zero = adds x y
together_at f none adds (x ∷ xs) (y ∷ ys) (suc i) = together_at f none adds xs ys i

module _ {G E L : Type 0} where
  total-set : (f : View G E L → ℕ) (views : List (View G E L)) (id : ℕ) (v w : View G E L) → get_elem? views id ≡ some v → total f (set views id w) + f v ≡ total f views + f w
  total-set f [] id v w at = absurd (some-ne-none v (sym at))
  total-set f (x ∷ xs) zero v w at = let same : f x ≡ f v = ap f (some-injective x v at) in omega arith
  total-set f (x ∷ xs) (suc id) v w at = let h = total-set f xs id v w at in omega arith

  total-snoc : (f : View G E L → ℕ) (views : List (View G E L)) (v : View G E L) → total f (views ++ v ∷ []) ≡ total f views + f v
  total-snoc f [] v = omega arith
  total-snoc f (x ∷ xs) v = let h = total-snoc f xs v in omega arith

  total-none : (f : View G E L → ℕ) (views : List (View G E L)) → ((k : ℕ) (u : View G E L) → get_elem? views k ≡ some u → f u ≡ 0) → total f views ≡ 0
  total-none f [] none = refl
  total-none f (x ∷ xs) none = let first = none 0 x refl in let h = total-none f xs (λ k. none (suc k)) in omega arith

  -- where only one view has something to add
  pub total-alone : (f : View G E L → ℕ) (views : List (View G E L)) (id : ℕ) (v : View G E L) → get_elem? views id ≡ some v → ((k : ℕ) (u : View G E L) → k ≢ id → get_elem? views k ≡ some u → f u ≡ 0) → total f views ≡ f v
  total-alone f [] id v at others = absurd (some-ne-none v (sym at))
  total-alone f (x ∷ xs) zero v at others = let same : f x ≡ f v = ap f (some-injective x v at) in let h = total-none f xs (λ k u e. others (suc k) u (λ z. absurd (omega arith)) e) in omega arith
  total-alone f (x ∷ xs) (suc id) v at others = let first = others 0 x (λ z. absurd (omega arith)) refl in let h = total-alone f xs id v at (λ k u apart e. others (suc k) u (λ z. apart (omega arith)) e) in omega arith

  -- A step of the seat id at the cell i makes the view v to w and the word n to n'
  pub record Moves (views : List (View G E L)) (id i n n' : ℕ) (v w : View G E L) : Type 0 where
    pub flag : (changes_of w i).flag_set + (changes_of v i).flag_cleared + flag_of n ≡ (changes_of v i).flag_set + (changes_of w i).flag_cleared + flag_of n'
    pub mark : (changes_of w i).mark_set + (changes_of v i).mark_cleared + mark_of n ≡ (changes_of v i).mark_set + (changes_of w i).mark_cleared + mark_of n'
    pub grows : (changes_of v i).flag_set ≤ (changes_of w i).flag_set
    pub known : requests_of w i + (changes_of v i).flag_set ≤ flags_set i views + (changes_of w i).flag_set
    pub answered : (log : List E) → w.turn ≡ Has i log → requests_of w i + (changes_of v i).flag_cleared ≡ flags_cleared i views + (changes_of w i).flag_cleared
    pub others : (k : ℕ) (u : View G E L) (log : List E) → k ≢ id → get_elem? views k ≡ some u → u.turn ≡ Has i log → (changes_of w i).flag_cleared ≡ (changes_of v i).flag_cleared

  pub accounts_moved : (views : List (View G E L)) (id i n n' : ℕ) (v w : View G E L) → get_elem? views id ≡ some v → Moves views id i n n' v w → IsAccounted i n views → IsAccounted i n' (set views id w)
  accounts_moved views id i n n' v w at m a =
      let s = total-set (λ (y : View G E L). (changes_of y i).flag_set) views id v w at in
      let c = total-set (λ (y : View G E L). (changes_of y i).flag_cleared) views id v w at in
      let s' = total-set (λ (y : View G E L). (changes_of y i).mark_set) views id v w at in
      let c' = total-set (λ (y : View G E L). (changes_of y i).mark_cleared) views id v w at in
      let flag = m.flag in
      let mark = m.mark in
      let grows = m.grows in
      let known = m.known in
      let flag_was = a.flag in
      let mark_was = a.mark in record {
        flag = omega arith;
        mark = omega arith;
        known = λ k u e. ⊎_elim
            (λ (same : (k ≡ id) × (w ≡ u)). subst (λ (y : View G E L). requests_of y i ≤ flags_set i (set views id w)) same.1 (omega arith))
            (λ (other : (k ≢ id) × (get_elem? views k ≡ some u)). let was = a.known k u other.1 in omega arith)
            (at_set views id k w u e);
        answered = λ k u log e has. ⊎_elim
            (λ (same : (k ≡ id) × (w ≡ u)). subst (λ (y : View G E L). y.turn ≡ Has i log → requests_of y i ≡ flags_cleared i (set views id w)) same.1 (λ mine. let now = m.answered log mine in omega arith) has)
            (λ (other : (k ≢ id) × (get_elem? views k ≡ some u)). let was = a.answered k u log other.1 has in let still = m.others k u log other.0 other.1 has in omega arith)
            (at_set views id k w u e);
      }

  -- two views that account alike for the cell j
  pub record Even (j : ℕ) (v w : View G E L) : Type 0 where
    pub changes : changes_of w j ≡ changes_of v j
    pub requests : requests_of w j ≡ requests_of v j
    pub back : (log : List E) → w.turn ≡ Has j log → v.turn ≡ Has j log

  -- a step that leaves FLAG and QUEUED of the cell j
  pub accounts_even : (views : List (View G E L)) (id j n n' : ℕ) (v w : View G E L) → get_elem? views id ≡ some v → Even j v w → flag_of n' ≡ flag_of n → mark_of n' ≡ mark_of n → IsAccounted j n views → IsAccounted j n' (set views id w)
  accounts_even views id j n n' v w at even flag mark a =
      let s : (changes_of w j).flag_set ≡ (changes_of v j).flag_set = ap (λ (c : Changes). c.flag_set) even.changes in
      let c : (changes_of w j).flag_cleared ≡ (changes_of v j).flag_cleared = ap (λ (c : Changes). c.flag_cleared) even.changes in
      let s' : (changes_of w j).mark_set ≡ (changes_of v j).mark_set = ap (λ (c : Changes). c.mark_set) even.changes in
      let c' : (changes_of w j).mark_cleared ≡ (changes_of v j).mark_cleared = ap (λ (c : Changes). c.mark_cleared) even.changes in
      let requests = even.requests in
      let known = a.known id v at in
      accounts_moved views id j n n' v w at
      (record {
        flag = omega arith;
        mark = omega arith;
        grows = omega arith;
        known = omega arith;
        answered = λ log has. let was = a.answered id v log at (even.back log has) in omega arith;
        others = λ k u log other e has. c;
      })
      a

  -- a step that answers no request, of a seat that learns of none
  accounts_kept : (views : List (View G E L)) (id i n n' : ℕ) (v w : View G E L) → get_elem? views id ≡ some v
      → (changes_of w i).flag_set + flag_of n ≡ (changes_of v i).flag_set + flag_of n' → (changes_of w i).flag_cleared ≡ (changes_of v i).flag_cleared → (changes_of v i).flag_set ≤ (changes_of w i).flag_set
      → (changes_of w i).mark_set + (changes_of v i).mark_cleared + mark_of n ≡ (changes_of v i).mark_set + (changes_of w i).mark_cleared + mark_of n'
      → requests_of w i ≡ requests_of v i → ((log : List E) → w.turn ≡ Has i log → v.turn ≡ Has i log) → IsAccounted i n views → IsAccounted i n' (set views id w)
  accounts_kept views id i n n' v w at flag cleared grows mark requests back a = let known = a.known id v at in accounts_moved views id i n n' v w at
      (record {
        flag = omega arith;
        mark = mark;
        grows = grows;
        known = omega arith;
        answered = λ log has. let was = a.answered id v log at (back log has) in omega arith;
        others = λ k u log other e has. cleared;
      })
      a

  pub accounts_flag : (views : List (View G E L)) (id i n : ℕ) (v w : View G E L) → get_elem? views id ≡ some v → BitsAfter n → changes_of w i ≡ with_flag n (changes_of v i) → requests_of w i ≡ requests_of v i
      → ((log : List E) → w.turn ≡ Has i log → v.turn ≡ Has i log) → IsAccounted i n views → IsAccounted i (bit_or n 1) (set views id w)
  accounts_flag views id i n v w at bits is requests back a =
      let s : (changes_of w i).flag_set ≡ (changes_of v i).flag_set + (1 - flag_of n) = ap (λ (c : Changes). c.flag_set) is in
      let s' : (changes_of w i).mark_set ≡ (changes_of v i).mark_set = ap (λ (c : Changes). c.mark_set) is in
      let c' : (changes_of w i).mark_cleared ≡ (changes_of v i).mark_cleared = ap (λ (c : Changes). c.mark_cleared) is in
      let small = bits.flag_small in
      let flag = bits.flag.0 in
      let mark = bits.flag.1 in
      accounts_kept views id i n (bit_or n 1) v w at (omega arith) (ap (λ (c : Changes). c.flag_cleared) is) (omega arith) (omega arith) requests back a

  pub accounts_mark : (views : List (View G E L)) (id i n : ℕ) (v w : View G E L) → get_elem? views id ≡ some v → BitsAfter n → changes_of w i ≡ with_mark n (changes_of v i) → requests_of w i ≡ requests_of v i
      → ((log : List E) → w.turn ≡ Has i log → v.turn ≡ Has i log) → IsAccounted i n views → IsAccounted i (bit_or n 4) (set views id w)
  accounts_mark views id i n v w at bits is requests back a =
      let s : (changes_of w i).flag_set ≡ (changes_of v i).flag_set = ap (λ (c : Changes). c.flag_set) is in
      let s' : (changes_of w i).mark_set ≡ (changes_of v i).mark_set + (1 - mark_of n) = ap (λ (c : Changes). c.mark_set) is in
      let c' : (changes_of w i).mark_cleared ≡ (changes_of v i).mark_cleared = ap (λ (c : Changes). c.mark_cleared) is in
      let small = bits.mark_small in
      let flag = bits.mark.0 in
      let mark = bits.mark.1 in
      accounts_kept views id i n (bit_or n 4) v w at (omega arith) (ap (λ (c : Changes). c.flag_cleared) is) (omega arith) (omega arith) requests back a

  pub accounts_unmark : (views : List (View G E L)) (id i n : ℕ) (v w : View G E L) → get_elem? views id ≡ some v → BitsAfter n → changes_of w i ≡ with_unmark n (changes_of v i) → requests_of w i ≡ requests_of v i
      → ((log : List E) → w.turn ≡ Has i log → v.turn ≡ Has i log) → IsAccounted i n views → IsAccounted i (bit_and n 18446744073709551611) (set views id w)
  accounts_unmark views id i n v w at bits is requests back a =
      let s : (changes_of w i).flag_set ≡ (changes_of v i).flag_set = ap (λ (c : Changes). c.flag_set) is in
      let s' : (changes_of w i).mark_set ≡ (changes_of v i).mark_set = ap (λ (c : Changes). c.mark_set) is in
      let c' : (changes_of w i).mark_cleared ≡ (changes_of v i).mark_cleared + mark_of n = ap (λ (c : Changes). c.mark_cleared) is in
      let flag = bits.unmark.0 in
      let mark = bits.unmark.1 in
      accounts_kept views id i n (bit_and n 18446744073709551611) v w at (omega arith) (ap (λ (c : Changes). c.flag_cleared) is) (omega arith) (omega arith) requests back a

  -- the one seat that has the turn answers a request, if there is one
  pub accounts_clear : (views : List (View G E L)) (id i n : ℕ) (v w : View G E L) (log : List E) → get_elem? views id ≡ some v → v.turn ≡ Has i log → ((k : ℕ) (u : View G E L) (m : List E) → get_elem? views k ≡ some u → u.turn ≡ Has i m → k ≡ id)
      → BitsAfter n → changes_of w i ≡ with_clear n (changes_of v i) → requests_of w i ≡ requests_of v i + flag_of n → IsAccounted i n views → IsAccounted i (bit_and n 18446744073709551614) (set views id w)
  accounts_clear views id i n v w log at has alone bits is requests a =
      let s : (changes_of w i).flag_set ≡ (changes_of v i).flag_set = ap (λ (c : Changes). c.flag_set) is in
      let c : (changes_of w i).flag_cleared ≡ (changes_of v i).flag_cleared + flag_of n = ap (λ (c : Changes). c.flag_cleared) is in
      let s' : (changes_of w i).mark_set ≡ (changes_of v i).mark_set = ap (λ (c : Changes). c.mark_set) is in
      let c' : (changes_of w i).mark_cleared ≡ (changes_of v i).mark_cleared = ap (λ (c : Changes). c.mark_cleared) is in
      let flag = bits.clear.0 in
      let mark = bits.clear.1 in
      let was = a.answered id v log at has in
      let all = a.flag in
      accounts_moved views id i n (bit_and n 18446744073709551614) v w at
      (record {
        flag = omega arith;
        mark = omega arith;
        grows = omega arith;
        known = omega arith;
        answered = λ m mine. omega arith;
        others = λ k u m other e theirs. absurd (other (alone k u m e theirs));
      })
      a

  -- the seat that gets the turn learns how many requests were answered
  pub accounts_claim : (views : List (View G E L)) (id i n : ℕ) (v w : View G E L) → get_elem? views id ≡ some v → BitsAfter n → changes_of w i ≡ changes_of v i → requests_of w i ≡ flags_cleared i views → IsAccounted i n views → IsAccounted i (bit_or n 2) (set views id w)
  accounts_claim views id i n v w at bits is requests a =
      let s : (changes_of w i).flag_set ≡ (changes_of v i).flag_set = ap (λ (c : Changes). c.flag_set) is in
      let c : (changes_of w i).flag_cleared ≡ (changes_of v i).flag_cleared = ap (λ (c : Changes). c.flag_cleared) is in
      let s' : (changes_of w i).mark_set ≡ (changes_of v i).mark_set = ap (λ (c : Changes). c.mark_set) is in
      let c' : (changes_of w i).mark_cleared ≡ (changes_of v i).mark_cleared = ap (λ (c : Changes). c.mark_cleared) is in
      let flag = bits.claim.0 in
      let mark = bits.claim.1 in
      let all = a.flag in
      accounts_moved views id i n (bit_or n 2) v w at (record { flag = omega arith; mark = omega arith; grows = omega arith; known = omega arith; answered = λ m mine. omega arith; others = λ k u m other e theirs. c }) a

  -- the seat that gives the turn back learns of a request that is not answered yet, if there is one
  pub accounts_release : (views : List (View G E L)) (id i n : ℕ) (v w : View G E L) (log : List E) → get_elem? views id ≡ some v → v.turn ≡ Has i log → ((m : List E) → ¬ (w.turn ≡ Has i m)) → BitsAfter n → changes_of w i ≡ changes_of v i → requests_of w i ≡ requests_of v i + flag_of n
      → IsAccounted i n views → IsAccounted i (bit_and n 18446744073709551613) (set views id w)
  accounts_release views id i n v w log at has free bits is requests a =
      let s : (changes_of w i).flag_set ≡ (changes_of v i).flag_set = ap (λ (c : Changes). c.flag_set) is in
      let c : (changes_of w i).flag_cleared ≡ (changes_of v i).flag_cleared = ap (λ (c : Changes). c.flag_cleared) is in
      let s' : (changes_of w i).mark_set ≡ (changes_of v i).mark_set = ap (λ (c : Changes). c.mark_set) is in
      let c' : (changes_of w i).mark_cleared ≡ (changes_of v i).mark_cleared = ap (λ (c : Changes). c.mark_cleared) is in
      let flag = bits.release.0 in
      let mark = bits.release.1 in
      let was = a.answered id v log at has in
      let all = a.flag in
      accounts_moved views id i n (bit_and n 18446744073709551613) v w at
      (record { flag = omega arith; mark = omega arith; grows = omega arith; known = omega arith; answered = λ m mine. absurd (free m mine); others = λ k u m other e theirs. c })
      a

  -- a new seat, which changed nothing and knows of no more requests than were made
  pub accounts_more : (views : List (View G E L)) (y : View G E L) (j n : ℕ) → changes_of y j ≡ no_changes → requests_of y j ≤ flags_set j views → ((log : List E) → ¬ (y.turn ≡ Has j log)) → IsAccounted j n views → IsAccounted j n (views ++ y ∷ [])
  accounts_more views y j n none few free a =
      let s = total-snoc (λ (v : View G E L). (changes_of v j).flag_set) views y in
      let c = total-snoc (λ (v : View G E L). (changes_of v j).flag_cleared) views y in
      let s' = total-snoc (λ (v : View G E L). (changes_of v j).mark_set) views y in
      let c' = total-snoc (λ (v : View G E L). (changes_of v j).mark_cleared) views y in
      let s_none : (changes_of y j).flag_set ≡ 0 = ap (λ (c : Changes). c.flag_set) none in
      let c_none : (changes_of y j).flag_cleared ≡ 0 = ap (λ (c : Changes). c.flag_cleared) none in
      let s_none' : (changes_of y j).mark_set ≡ 0 = ap (λ (c : Changes). c.mark_set) none in
      let c_none' : (changes_of y j).mark_cleared ≡ 0 = ap (λ (c : Changes). c.mark_cleared) none in
      let flag = a.flag in
      let mark = a.mark in record {
        flag = omega arith;
        mark = omega arith;
        known = λ k u e. ⊎_elim
            (λ (was : get_elem? views k ≡ some u). let h = a.known k u was in omega arith)
            (λ (same : y ≡ u). subst (λ (z : View G E L). requests_of z j ≤ flags_set j (views ++ y ∷ [])) same (omega arith))
            (at_snoc views y u k e);
        answered = λ k u log e has. ⊎_elim
            (λ (was : get_elem? views k ≡ some u). let h = a.answered k u log was has in omega arith)
            (λ (same : y ≡ u). absurd (free log (ap (λ (z : View G E L). z.turn) same ∙ has)))
            (at_snoc views y u k e);
      }

  -- the seat other gives what it changed to the seat id; neither has a turn
  pub accounts_joined : (views : List (View G E L)) (id other j n : ℕ) (v w both gone : View G E L) → get_elem? views id ≡ some v → get_elem? (set views id both) other ≡ some w
      → both.changes ≡ each_together v.changes w.changes → requests_of both j ≡ requests_of v j → ((log : List E) → ¬ (both.turn ≡ Has j log))
      → changes_of gone j ≡ no_changes → requests_of gone j ≡ 0 → ((log : List E) → ¬ (gone.turn ≡ Has j log)) → IsAccounted j n views → IsAccounted j n (set (set views id both) other gone)
  accounts_joined views id other j n v w both gone at there sums requests free none no_requests gone_free a =
      let after = set (set views id both) other gone in
      let s = total-set (λ (y : View G E L). (changes_of y j).flag_set) views id v both at in
      let c = total-set (λ (y : View G E L). (changes_of y j).flag_cleared) views id v both at in
      let s' = total-set (λ (y : View G E L). (changes_of y j).mark_set) views id v both at in
      let c' = total-set (λ (y : View G E L). (changes_of y j).mark_cleared) views id v both at in
      let t = total-set (λ (y : View G E L). (changes_of y j).flag_set) (set views id both) other w gone there in
      let d = total-set (λ (y : View G E L). (changes_of y j).flag_cleared) (set views id both) other w gone there in
      let t' = total-set (λ (y : View G E L). (changes_of y j).mark_set) (set views id both) other w gone there in
      let d' = total-set (λ (y : View G E L). (changes_of y j).mark_cleared) (set views id both) other w gone there in
      let s_none : (changes_of gone j).flag_set ≡ 0 = ap (λ (c : Changes). c.flag_set) none in
      let c_none : (changes_of gone j).flag_cleared ≡ 0 = ap (λ (c : Changes). c.flag_cleared) none in
      let s_none' : (changes_of gone j).mark_set ≡ 0 = ap (λ (c : Changes). c.mark_set) none in
      let c_none' : (changes_of gone j).mark_cleared ≡ 0 = ap (λ (c : Changes). c.mark_cleared) none in
      let s_both : (changes_of both j).flag_set ≡ (changes_of v j).flag_set + (changes_of w j).flag_set = ap (λ (l : List Changes). (get_or l j no_changes).flag_set) sums ∙ together_at (λ (c : Changes). c.flag_set) refl (λ x y. refl) v.changes w.changes j in
      let c_both : (changes_of both j).flag_cleared ≡ (changes_of v j).flag_cleared + (changes_of w j).flag_cleared = ap (λ (l : List Changes). (get_or l j no_changes).flag_cleared) sums ∙ together_at (λ (c : Changes). c.flag_cleared) refl (λ x y. refl) v.changes w.changes j in
      let s_both' : (changes_of both j).mark_set ≡ (changes_of v j).mark_set + (changes_of w j).mark_set = ap (λ (l : List Changes). (get_or l j no_changes).mark_set) sums ∙ together_at (λ (c : Changes). c.mark_set) refl (λ x y. refl) v.changes w.changes j in
      let c_both' : (changes_of both j).mark_cleared ≡ (changes_of v j).mark_cleared + (changes_of w j).mark_cleared = ap (λ (l : List Changes). (get_or l j no_changes).mark_cleared) sums ∙ together_at (λ (c : Changes). c.mark_cleared) refl (λ x y. refl) v.changes w.changes j in
      let flag = a.flag in
      let mark = a.mark in
      let known = a.known id v at in record {
        flag = omega arith;
        mark = omega arith;
        known = λ k u e. ⊎_elim
            (λ (same : (k ≡ other) × (gone ≡ u)). subst (λ (y : View G E L). requests_of y j ≤ flags_set j after) same.1 (omega arith))
            (λ (kept : (k ≢ other) × (get_elem? (set views id both) k ≡ some u)). ⊎_elim
            (λ (same : (k ≡ id) × (both ≡ u)). subst (λ (y : View G E L). requests_of y j ≤ flags_set j after) same.1 (omega arith))
            (λ (old : (k ≢ id) × (get_elem? views k ≡ some u)). let h = a.known k u old.1 in omega arith)
            (at_set views id k both u kept.1))
            (at_set (set views id both) other k gone u e);
        answered = λ k u log e has. ⊎_elim
            (λ (same : (k ≡ other) × (gone ≡ u)). absurd (gone_free log (ap (λ (y : View G E L). y.turn) same.1 ∙ has)))
            (λ (kept : (k ≢ other) × (get_elem? (set views id both) k ≡ some u)). ⊎_elim
            (λ (same : (k ≡ id) × (both ≡ u)). absurd (free log (ap (λ (y : View G E L). y.turn) same.1 ∙ has)))
            (λ (old : (k ≢ id) × (get_elem? views k ≡ some u)). let h = a.answered k u log old.1 has in omega arith)
            (at_set views id k both u kept.1))
            (at_set (set views id both) other k gone u e);
      }

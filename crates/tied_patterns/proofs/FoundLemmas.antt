-- What two patterns come to.
use Rattle.std.proofs.Common.{◌≡◌, ◌≢◌, ◌==◌, ◌⊎◌, inl, inr, ⊎_elim, ℕ, zero, suc, ◌<◌, Bool, true, false, cond, not, ◌&&◌, ◌||◌, List, [], ◌∷◌, Option, Some, None, Any, Contains, find, refl, sym, ap, ◌∙◌, subst, subst₂, arith}
use Rattle.std.specs.Option.{option_or}
use Rattle.std.proofs.lemmas.Bool.{and_cases, and_from, and_parts, both_ways, cond-true, eq-eqb, eqb-true, eqb-false, not-true, not_from_false, or_cases, or_from, or_parts, or_left, or_right}
use Rattle.std.proofs.lemmas.Option.{same_Some}
use Rattle.guard_eval.specs.declared.term.Place.{Place}
use Rattle.tied_patterns.specs.declared.equality.Equality.{Equality}
use Rattle.tied_patterns.specs.declared.tied.Tied.{Tied}
use Rattle.tied_patterns.specs.Names.{AreNames, have_one_name, is_between, is_direct, is_link, is_partner, link_in, partner_in, sides_of, tied_at, tied_by, tied_from}
use Rattle.tied_patterns.specs.Rows.{IsFound}
use Rattle.tied_patterns.specs.Tied.{AreDirect, AreTied, Chain, IsBetween, IsTied}
use Rattle.tied_patterns.proofs.ChainLemmas.{ends_of, through_third}
use Rattle.tied_patterns.proofs.NameLemmas.{chain_of_name, name_of_chain}

-- ---- patterns that an equality ties

between_of_true : (first second : ℕ) (e : Equality) → is_between first second e ≡ true → IsBetween first second e
between_of_true first second e is = ⊎_elim
    (λ one. let parts = and_parts (e.left.pattern == first) (e.right.pattern == second) one in inl (eqb-true e.left.pattern first parts.0, eqb-true e.right.pattern second parts.1))
    (λ other. let parts = and_parts (e.left.pattern == second) (e.right.pattern == first) other in inr (eqb-true e.left.pattern second parts.0, eqb-true e.right.pattern first parts.1))
    (or_cases ((e.left.pattern == first) && (e.right.pattern == second)) ((e.left.pattern == second) && (e.right.pattern == first)) is)

true_of_between : (first second : ℕ) (e : Equality) → IsBetween first second e → is_between first second e ≡ true
true_of_between first second e (inl (p, q)) =
    or_left ((e.left.pattern == first) && (e.right.pattern == second)) ((e.left.pattern == second) && (e.right.pattern == first))
    (and_from (e.left.pattern == first) (e.right.pattern == second) (eq-eqb e.left.pattern first p) (eq-eqb e.right.pattern second q))
true_of_between first second e (inr (p, q)) =
    or_right ((e.left.pattern == first) && (e.right.pattern == second)) ((e.left.pattern == second) && (e.right.pattern == first))
    (and_from (e.left.pattern == second) (e.right.pattern == first) (eq-eqb e.left.pattern second p) (eq-eqb e.right.pattern first q))

direct_of_true : (es : List Equality) (first second : ℕ) → is_direct es first second ≡ true → AreDirect es first second
direct_of_true [] first second is = absurd cc
direct_of_true (e ∷ es) first second is = ⊎_elim
    (λ here. (0, e, omega arith, refl, between_of_true first second e here))
    (λ there. let at = direct_of_true es first second there in (suc at.0, at.1, omega (arith, at.2), at.3, at.4))
    (or_cases (is_between first second e) (is_direct es first second) is)

true_of_direct : (es : List Equality) (first second : ℕ) → AreDirect es first second → is_direct es first second ≡ true
true_of_direct [] first second (k, e, within, is, between) = absurd (omega (arith, within))
true_of_direct (first_one ∷ es) first second (zero, e, within, is, between) =
    or_left (is_between first second first_one) (is_direct es first second)
    (true_of_between first second first_one (subst (λ (x : Equality). IsBetween first second x) (sym is) between))
true_of_direct (first_one ∷ es) first second (suc k, e, within, is, between) =
    or_right (is_between first second first_one) (is_direct es first second) (true_of_direct es first second (k, e, omega (arith, within), is, between))

-- two patterns that an equality ties are not told of
pub found_direct : (es : List Equality) (first second : ℕ) → is_direct es first second ≡ true → AreTied es first second → ⊥
found_direct es first second is tied = tied.apart (direct_of_true es first second is)

-- ---- the first item that passes a test

found_passes : {X : Type 0} (test : X → Bool) (xs : List X) (x : X) → find test xs ≡ Some x → test x ≡ true
found_passes test [] x is = absurd cc
found_passes {X} test (y ∷ xs) x is = by-test (test y) refl is (found_passes test xs x)
  where
    by-test : (b : Bool) → test y ≡ b → cond b (Some y) (find test xs) ≡ Some x → (find test xs ≡ Some x → test x ≡ true) → test x ≡ true
    by-test true passes here behind = subst (λ (z : X). test z ≡ true) (same_Some y x here) passes
    by-test false fails there behind = behind there

none_passes : {X : Type 0} (test : X → Bool) (xs : List X) (x : X) → find test xs ≡ None → Contains xs x → test x ≡ true → ⊥
none_passes test [] x is at passes = omega (arith, at.1)
none_passes {X} test (y ∷ xs) x is at passes = by-test (test y) refl is at (none_passes test xs x)
  where
    by-test : (b : Bool) → test y ≡ b → cond b (Some y) (find test xs) ≡ None → Contains (y ∷ xs) x → (find test xs ≡ None → Contains xs x → test x ≡ true → ⊥) → ⊥
    by-test true now here place behind = absurd cc
    by-test false fails there (zero, within, same) behind = both_ways (test x) (subst (λ (z : X). test z ≡ false) same fails) passes
    by-test false fails there (suc k, within, same) behind = behind there (k, omega (arith, within), same) passes

-- ---- what names tell of two patterns

-- what a pair for two patterns says but for what ties them directly
record Joins (es : List Equality) (first second : ℕ) (tied : Tied) : Type 0 where
  of_first : tied.left.pattern ≡ first
  of_second : tied.right.pattern ≡ second
  chain : Chain es tied.left tied.right
  link : Chain es tied.left tied.link
  not_first : tied.link.pattern ≢ first
  not_second : tied.link.pattern ≢ second

module _ (es names : List Equality) (are : AreNames es names) (first second : ℕ) where
  partner_tells : (place other : Place) → is_partner names place second other ≡ true → (other.pattern ≡ second) × Chain es place other
  partner_tells place other is =
      let parts = and_parts (other.pattern == second) (have_one_name names place other) is in
      (eqb-true other.pattern second parts.0, chain_of_name es names are place other parts.1)

  link_tells : (place other : Place) → is_link names place first second other ≡ true → (other.pattern ≢ first) × (other.pattern ≢ second) × Chain es place other
  link_tells place other is =
      let parts = and_parts (not ((other.pattern == first) || (other.pattern == second))) (have_one_name names place other) is in
      let neither = or_parts (other.pattern == first) (other.pattern == second) (not-true ((other.pattern == first) || (other.pattern == second)) parts.0) in
      (eqb-false other.pattern first neither.0, eqb-false other.pattern second neither.1, chain_of_name es names are place other parts.1)

  by_tells : (place : Place) (right link : Option Place) (sides : List Place) (tied : Tied) → place.pattern ≡ first
      → partner_in names place second sides ≡ right → link_in names place first second sides ≡ link → tied_by place right link ≡ Some tied → Joins es first second tied
  by_tells place None link sides tied of_first to_right to_link is = absurd cc
  by_tells place (Some right) None sides tied of_first to_right to_link is = absurd cc
  by_tells place (Some right) (Some link) sides tied of_first to_right to_link is =
      let partner = partner_tells place right (found_passes (is_partner names place second) sides right to_right) in
      let other = link_tells place link (found_passes (is_link names place first second) sides link to_link) in
      let one : Tied = record { left = place; right = right; link = link } in
      let joins : Joins es first second one = record {
        of_first = of_first;
        of_second = partner.0;
        chain = partner.1;
        link = other.2;
        not_first = other.0;
        not_second = other.1;
      } in
      subst (λ (t : Tied). Joins es first second t) (same_Some one tied is) joins

  at_tells : (sides : List Place) (place : Place) (tied : Tied) → tied_at names sides first second place ≡ Some tied → Joins es first second tied
  at_tells sides place tied is = by-test (place.pattern == first) refl is
    where
      by-test : (b : Bool) → (place.pattern == first) ≡ b
          → cond b (tied_by place (partner_in names place second sides) (link_in names place first second sides)) None ≡ Some tied → Joins es first second tied
      by-test true same is-some =
          by_tells place (partner_in names place second sides) (link_in names place first second sides) sides tied (eqb-true place.pattern first same) refl refl is-some
      by-test false other is-some = absurd cc

  from_tells : (sides places : List Place) (tied : Tied) → tied_from names sides first second places ≡ Some tied → Joins es first second tied
  from_tells sides [] tied is = absurd cc
  from_tells sides (place ∷ places) tied is = by (tied_at names sides first second place) refl is (from_tells sides places tied)
    where
      by : (found : Option Tied) → tied_at names sides first second place ≡ found → option_or found (tied_from names sides first second places) ≡ Some tied
          → (tied_from names sides first second places ≡ Some tied → Joins es first second tied) → Joins es first second tied
      by None at is-some behind = behind is-some
      by (Some one) at is-some behind = at_tells sides place tied (at ∙ is-some)

  -- where no variable ties the two, each gives nothing
  none_at : (sides places : List Place) (place : Place) → tied_from names sides first second places ≡ None → Contains places place → tied_at names sides first second place ≡ None
  none_at sides [] place is at = absurd (omega (arith, at.1))
  none_at sides (head ∷ places) place is at = by (tied_at names sides first second head) refl is at (none_at sides places place)
    where
      by : (found : Option Tied) → tied_at names sides first second head ≡ found → option_or found (tied_from names sides first second places) ≡ None → Contains (head ∷ places) place
          → (tied_from names sides first second places ≡ None → Contains places place → tied_at names sides first second place ≡ None) → tied_at names sides first second place ≡ None
      by None gives is-none (zero, within, same) behind = ap (λ (p : Place). tied_at names sides first second p) (sym same) ∙ gives
      by None gives is-none (suc k, within, same) behind = behind is-none (k, omega (arith, within), same)
      by (Some one) gives is-none place-at behind = absurd cc

  -- and then no chain does
  module _ (order : first < second) where
    none_by : (tied : AreTied es first second) (right link : Option Place) → Contains (sides_of es) tied.right
        → partner_in names tied.left second (sides_of es) ≡ right → link_in names tied.left first second (sides_of es) ≡ link → tied_by tied.left right link ≡ None → ⊥
    none_by tied None link at to_right to_link is =
        none_passes (is_partner names tied.left second) (sides_of es) tied.right to_right at
        (and_from (tied.right.pattern == second) (have_one_name names tied.left tied.right) (eq-eqb tied.right.pattern second tied.of_second) (name_of_chain es names are tied.left tied.right tied.chain))
    none_by tied (Some right) None at to_right to_link is = through_third es first second order tied.apart tied.left tied.right tied.of_first tied.of_second tied.chain alone
      where
        alone : (other : Place) → Contains (sides_of es) other → Chain es tied.left other → (other.pattern ≡ first) ⊎ (other.pattern ≡ second)
        alone other in_sides chain = by-test ((other.pattern == first) || (other.pattern == second)) refl
          where
            by-test : (b : Bool) → ((other.pattern == first) || (other.pattern == second)) ≡ b → (other.pattern ≡ first) ⊎ (other.pattern ≡ second)
            by-test true is-one = ⊎_elim (λ p. inl (eqb-true other.pattern first p)) (λ q. inr (eqb-true other.pattern second q)) (or_cases (other.pattern == first) (other.pattern == second) is-one)
            by-test false neither = absurd (none_passes (is_link names tied.left first second) (sides_of es) other to_link in_sides
                (and_from (not ((other.pattern == first) || (other.pattern == second))) (have_one_name names tied.left other)
                (not_from_false ((other.pattern == first) || (other.pattern == second)) neither) (name_of_chain es names are tied.left other chain)))
    none_by tied (Some right) (Some link) at to_right to_link is = absurd cc

    none_tied : tied_from names (sides_of es) first second (sides_of es) ≡ None → AreTied es first second → ⊥
    none_tied is tied = ⊎_elim
        (λ same. let e : first ≡ second = sym tied.of_first ∙ ap (λ (p : Place). p.pattern) same ∙ tied.of_second in omega (arith, order, e))
        (λ ends.
        let gives = none_at (sides_of es) (sides_of es) tied.left is ends.0 in
        let partner = partner_in names tied.left second (sides_of es) in
        let link = link_in names tied.left first second (sides_of es) in
        let here : tied_by tied.left partner link ≡ None = sym (cond-true (tied.left.pattern == first) (tied_by tied.left partner link) None (eq-eqb tied.left.pattern first tied.of_first)) ∙ gives in
        none_by tied partner link ends.1 refl refl here)
        (ends_of es tied.left tied.right tied.chain)

found_is : (es : List Equality) (first second : ℕ) (tied : Tied) → (AreDirect es first second → ⊥) → Joins es first second tied → IsFound es first second (Some tied)
found_is es first second tied apart joins = (
  joins.of_first,
  joins.of_second,
  record {
    chain = joins.chain;
    link = joins.link;
    third = (λ same. joins.not_first (same ∙ joins.of_first), λ same. joins.not_second (same ∙ joins.of_second));
    apart = λ direct. apart (subst₂ (λ (f s : ℕ). AreDirect es f s) joins.of_first joins.of_second direct);
  },
)

-- two patterns that no equality ties come to what the names of their variables tell
pub found_by_names : (es names : List Equality) (sides : List Place) (first second : ℕ) (found : Option Tied) → AreNames es names → first < second
    → is_direct es first second ≡ false → sides ≡ sides_of es → found ≡ tied_from names sides first second sides → IsFound es first second found
found_by_names es names sides first second found are order not_direct all is =
    by found (ap (λ (ps : List Place). tied_from names ps first second ps) (sym all) ∙ sym is)
  where
    by : (o : Option Tied) → tied_from names (sides_of es) first second (sides_of es) ≡ o → IsFound es first second o
    by None none = none_tied es names are first second order none
    by (Some tied) some =
        found_is es first second tied (λ direct. both_ways (is_direct es first second) not_direct (true_of_direct es first second direct))
        (from_tells es names are first second (sides_of es) (sides_of es) tied some)

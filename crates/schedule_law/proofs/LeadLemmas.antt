-- The rests in the order in which they come: where one begins with a message that a full or running actor refuses, so
-- do they.
use Rattle.std.proofs.Common.{◌≡◌, ◌∙◌, ◌⊎◌, inl, inr, ℕ, zero, suc, ◌+◌, ◌<◌, ◌≤◌, max, List, [], ◌∷◌, ◌++◌, length, map, Bool, true, false, refl, ap, sym, subst, arith}
use Rattle.std.specs.Prelude.{if◌then◌else◌, not, nat_le, ◌||◌, ◌==◌}
use Rattle.std.specs.List.{flat_map, list_any}
use Rattle.std.proofs.lemmas.Bool.{cases_lt}
use Rattle.std.proofs.lemmas.Bool.Decides.{nat_tests}
use Rattle.join_base.specs.Stamps.{greatest_stamp}
use Rattle.join_base.specs.declared.message.Sort.{Sort}
use Rattle.pattern_core.specs.Members.{IsIn}
use Rattle.fair_semantics.specs.Step.{Setting, State, fits, is_refused, latest_stamp}
use Rattle.fair_semantics.specs.Fair.{Sent}
use Rattle.fair_semantics.specs.Linked.{behind_first, brought_first, greatest_start, rests_in_order, starts_unfit, starts_with}
use Rattle.run_order_law.proofs.EventLemmas.{same_number}
use Rattle.run_order_law.proofs.SourceLemmas.{is_itself}

-- ---- the first of the rests that leads is brought to the front

pub record Leads (leads : List Sent → Bool) (rests : List (List Sent)) : Type 0 where
  pub first : List Sent
  pub others : List (List Sent)
  pub are : rests ≡ first ∷ others
  pub does : leads first ≡ true

module _ (leads : List Sent → Bool) where
  pub any_leads : (rest : List Sent) (rests : List (List Sent)) → IsIn rest rests → leads rest ≡ true → list_any leads rests ≡ true
  any_leads rest [] i e = absurd i
  any_leads rest (first ∷ rests) (inl is) e = ap (λ (r : List Sent). leads r || list_any leads rests) is ∙ ap (λ (b : Bool). b || list_any leads rests) e
  any_leads rest (first ∷ rests) (inr i) e = either (leads first) (list_any leads rests) (any_leads rest rests i e)
    where
      either : (a b : Bool) → b ≡ true → (a || b) ≡ true
      either true b e = refl
      either false b e = e

  behind_one : (rest : List Sent) (brought : List (List Sent)) → leads rest ≡ false → Leads leads brought → Leads leads (behind_first leads rest brought)
  behind_one rest [] not_rest l = let none : [] ≡ l.first ∷ l.others = l.are in absurd cc
  behind_one rest (first ∷ others) not_rest l =
      let same : first ≡ l.first = let e = l.are in cc in
      let does : leads first ≡ true = ap leads same ∙ l.does in
      record { first = first; others = rest ∷ others; are = ap (λ (b : Bool). if b then first ∷ rest ∷ others else rest ∷ first ∷ others) does; does = does }

  pub brought : (rests : List (List Sent)) → list_any leads rests ≡ true → Leads leads (brought_first leads rests)
  brought [] e = absurd cc
  brought (rest ∷ rests) e = by (leads rest) refl e (brought rests)
    where
      by : (b : Bool) → leads rest ≡ b → (b || list_any leads rests) ≡ true → (list_any leads rests ≡ true → Leads leads (brought_first leads rests)) → Leads leads (if b then rest ∷ rests else behind_first leads rest (brought_first leads rests))
      by true is any later = record { first = rest; others = rests; are = refl; does = is }
      by false is any later = behind_one rest (brought_first leads rests) is (later any)

-- ---- the greatest stamp that a rest begins with

pub at_most_greatest : (s : Sent) (more : List Sent) (rests : List (List Sent)) → IsIn (s ∷ more) rests → s.1.stamp ≤ greatest_start rests
at_most_greatest s more [] i = absurd i
at_most_greatest s more ([] ∷ rests) (inl is) = absurd cc
at_most_greatest s more ([] ∷ rests) (inr i) = at_most_greatest s more rests i
at_most_greatest s more ((x ∷ xs) ∷ rests) (inl is) = let same : x ≡ s = cc in let stamp : x.1.stamp ≡ s.1.stamp = ap (λ (y : Sent). y.1.stamp) same in omega arith
at_most_greatest s more ((x ∷ xs) ∷ rests) (inr i) = let later = at_most_greatest s more rests i in omega arith

-- it is 0, or a rest begins with it
greatest_is : (rests : List (List Sent)) → (greatest_start rests ≡ 0) ⊎ ((rest : List Sent) × IsIn rest rests × (starts_with (greatest_start rests) rest ≡ true))
greatest_is [] = inl refl
greatest_is ([] ∷ rests) = elim (greatest_is rests) [
  | inl none ↦ inl none
  | inr some ↦ inr (some.0, inr some.1, some.2)
]
greatest_is ((x ∷ xs) ∷ rests) = elim (cases_lt x.1.stamp (greatest_start rests)) [
  | inl less ↦
      let is : greatest_start rests ≡ max x.1.stamp (greatest_start rests) = omega arith in
      elim (greatest_is rests) [
        | inl none ↦ absurd (omega arith)
        | inr some ↦ inr (some.0, inr some.1, subst (λ (n : ℕ). starts_with n some.0 ≡ true) is some.2)
      ]
  | inr more ↦
      let is : x.1.stamp ≡ max x.1.stamp (greatest_start rests) = omega arith in
      inr (x ∷ xs, inl refl, subst (λ (n : ℕ). (x.1.stamp == n) ≡ true) is (is_itself x.1.stamp))
]

-- one begins with it, where one is not empty
pub begins_greatest : (s : Sent) (more : List Sent) (rests : List (List Sent)) → IsIn (s ∷ more) rests → list_any (starts_with (greatest_start rests)) rests ≡ true
begins_greatest s more rests i =
    elim (greatest_is rests) [
      | inl none ↦
          let most = at_most_greatest s more rests i in
          let is : s.1.stamp ≡ greatest_start rests = omega arith in
          any_leads (starts_with (greatest_start rests)) (s ∷ more) rests i (subst (λ (n : ℕ). (s.1.stamp == n) ≡ true) is (is_itself s.1.stamp))
      | inr some ↦ any_leads (starts_with (greatest_start rests)) some.0 rests some.1 some.2
    ]

-- ---- the first message is refused

pub record RefusesFirst (setting : Setting) (state : State) (sent : List Sent) : Type 0 where
  pub first : Sent
  pub more : List Sent
  pub are : sent ≡ first ∷ more
  pub refused : is_refused setting state first.1.message first.1.stamp ≡ true

module _ (setting : Setting) (state : State) where
  abbrev is_full : Bool
  is_full = nat_le setting.limits.arrivals (length state.entries)

  abbrev none_left : ℕ → Bool
  none_left stamp = nat_le greatest_stamp (max (latest_stamp state.entries) stamp)

  abbrev refuses : List Sent → Type 0
  refuses sent = RefusesFirst setting state sent

  -- the first of a rest that leads
  of_leading : (leads : List Sent → Bool) (rests : List (List Sent)) → Leads leads rests → (leads [] ≡ true → ⊥) → ((x : Sent) (xs : List Sent) → leads (x ∷ xs) ≡ true → is_refused setting state x.1.message x.1.stamp ≡ true) → RefusesFirst setting state (flat_map (λ sent. sent) rests)
  of_leading leads rests l empty h = by l.first l.are l.does
    where
      by : (first : List Sent) → rests ≡ first ∷ l.others → leads first ≡ true → RefusesFirst setting state (flat_map (λ sent. sent) rests)
      by [] are does = absurd (empty does)
      by (x ∷ xs) are does = record { first = x; more = xs ++ flat_map (λ sent. sent) l.others; are = ap (flat_map (λ (sent : List Sent). sent)) are; refused = h x xs does }

  unfit_refused : (full unfit late : Bool) → unfit ≡ true → (full || (unfit || late)) ≡ true
  unfit_refused true unfit late e = refl
  unfit_refused false unfit late e = ap (λ (b : Bool). b || late) e

  late_refused : (full unfit late : Bool) → late ≡ true → (full || (unfit || late)) ≡ true
  late_refused true unfit late e = refl
  late_refused false true late e = refl
  late_refused false false late e = e

  full_refused : (full unfit late : Bool) → full ≡ true → (full || (unfit || late)) ≡ true
  full_refused full unfit late e = ap (λ (b : Bool). b || (unfit || late)) e

  -- where a full actor refuses one message, it refuses each; of the others the first has the greatest stamp, or does
  -- not fit
  greater_refused : (full unfit late later : Bool) → (full || (unfit || late)) ≡ true → unfit ≡ false → (late ≡ true → later ≡ true) → (u : Bool) → (full || (u || later)) ≡ true
  greater_refused true unfit late later e fitting h u = refl
  greater_refused false true late later e fitting h u = absurd cc
  greater_refused false false late later e fitting h u = late_refused false u later (h e)

  module _ (s : Sent) (more : List Sent) (rests : List (List Sent)) (among : IsIn (s ∷ more) rests) (refused : is_refused setting state s.1.message s.1.stamp ≡ true) where
    abbrev unfit : Sent → Bool
    unfit x = not (fits setting.sorts x.1.message)

    later_late : (x : Sent) → s.1.stamp ≤ x.1.stamp → none_left s.1.stamp ≡ true → none_left x.1.stamp ≡ true
    later_late x l e = grows greatest_stamp (latest_stamp state.entries) s.1.stamp x.1.stamp l e
      where
        at_most : (a b : ℕ) → nat_le a b ≡ true → a ≤ b
        at_most a b e = grind (arith, nat_tests)

        is_at_most : (a b : ℕ) → a ≤ b → nat_le a b ≡ true
        is_at_most a b l = grind (arith, nat_tests)

        grows : (g latest a b : ℕ) → a ≤ b → nat_le g (max latest a) ≡ true → nat_le g (max latest b) ≡ true
        grows g latest a b l e = let h = at_most g (max latest a) e in is_at_most g (max latest b) (omega arith)

    pub refuses_first : RefusesFirst setting state (flat_map (λ sent. sent) (rests_in_order setting.sorts rests))
    refuses_first = by (list_any (starts_unfit setting.sorts) rests) refl
      where
        fits_here : list_any (starts_unfit setting.sorts) rests ≡ false → (b : Bool) → unfit s ≡ b → b ≡ false
        fits_here none false e = refl
        fits_here none true e = let clash : true ≡ false = sym (any_leads (starts_unfit setting.sorts) (s ∷ more) rests among e) ∙ none in absurd cc

        by : (b : Bool) → list_any (starts_unfit setting.sorts) rests ≡ b
            → RefusesFirst setting state (flat_map (λ sent. sent) (if b then brought_first (starts_unfit setting.sorts) rests else brought_first (starts_with (greatest_start rests)) rests))
        by true some =
            of_leading (starts_unfit setting.sorts) (brought_first (starts_unfit setting.sorts) rests) (brought (starts_unfit setting.sorts) rests some) (λ e. absurd cc)
            (λ x xs e. unfit_refused is_full (unfit x) (none_left x.1.stamp) e)
        by false none =
            let greatest : ℕ = greatest_start rests in
            of_leading (starts_with greatest) (brought_first (starts_with greatest) rests) (brought (starts_with greatest) rests (begins_greatest s more rests among)) (λ e. absurd cc)
            (λ x xs e.
            let is : x.1.stamp ≡ greatest = same_number x.1.stamp greatest e in
            let most = at_most_greatest s more rests among in
            greater_refused is_full (unfit s) (none_left s.1.stamp) (none_left x.1.stamp) refused (fits_here none (unfit s) refl) (later_late x (omega arith)) (unfit x))

-- What shadows a definition matches whatever the definition matches.
use Rattle.std.proofs.Common.{◌≡◌, ◌∙◌, inl, inr, ℕ, ◌+◌, ◌<◌, List, [], ◌∷◌, ◌++◌, length, Bool, true, false, ◌&&◌, ◌||◌, Option, None, Some, refl, ap, sym, subst, arith}
use Rattle.std.specs.Prelude.{if◌then◌else◌}
use Rattle.std.specs.List.{AllByRecursion, list_all, list_any}
use Rattle.std.specs.Ordering.{is_gt, nat_cmp, ordering_then}
use Rattle.std.specs.declared.cmp.Ordering.TheVariants.{Equal, Greater}
use Rattle.std.proofs.lemmas.Bool.Decides.{nat_tests}
use Rattle.std.proofs.lemmas.Cmp.{nat_list_cmp_total, tied_itself}
use Rattle.std.proofs.lemmas.Slice.Eq.{bytes_eq-Decides}
use Rattle.std.proofs.lemmas.Bool.{not-true}
use Rattle.join_base.specs.Numbers.{ascending}
use Rattle.join_base.specs.declared.message.Message.{Message}
use Rattle.guard_eval.specs.Condition.{Condition}
use Rattle.guard_eval.specs.Meaning.{Assignment, has_some, is_true, needs_of}
use Rattle.guard_eval.proofs.ExtendLemmas.{both_true}
use Rattle.pattern_core.specs.declared.definition.Definition.{Definition}
use Rattle.pattern_core.specs.Assigns.{Assigns}
use Rattle.pattern_core.specs.Choice.{slots_of}
use Rattle.pattern_core.specs.Key.{key_cmp, numbers_cmp}
use Rattle.pattern_core.specs.Matches.{makes_all_true}
use Rattle.pattern_core.specs.Members.{IsIn}
use Rattle.pattern_core.specs.Window.{is_seen, seen_of}
use Rattle.pattern_core.proofs.MembersLemmas.{IsIn-filter, IsIn-filter_from}
use Rattle.script_types.specs.declared.plan.Rule.{Rule}
use Rattle.script_lint.specs.declared.bounds.Bound.{Bound}
use Rattle.script_lint.specs.Bounds.{bound_of, interval_of}
use Rattle.script_lint.specs.Findings.{first_shadow, is_always_true, is_constant, is_implied, is_kept_within, numbers_eq, sees_as_much, shadows}
use Rattle.script_lint.specs.Law.{HasValuesInRange}
use Rattle.script_lint.specs.Same.{is_same}
use Rattle.script_lint.proofs.BoundLemmas.{bound_says, constant, in_interval, throughout}
use Rattle.script_lint.proofs.ListLemmas.{all_at, all_from, any_in, or_cases}
use Rattle.script_lint.proofs.SameLemmas.{same_condition}

-- ---- what it sees

assigns_more : (messages : List Message) (live more : List ℕ) → ((n : ℕ) → IsIn n live → IsIn n more) → (kinds : List ℕ) (slots : Assignment) → Assigns messages live kinds slots → Assigns messages more kinds slots
assigns_more messages live more sees [] [] a = tt
assigns_more messages live more sees [] (slot ∷ slots) a = absurd a
assigns_more messages live more sees (kind ∷ kinds) [] a = absurd a
assigns_more messages live more sees (kind ∷ kinds) (None ∷ slots) a = assigns_more messages live more sees kinds slots a
assigns_more messages live more sees (kind ∷ kinds) (Some n ∷ slots) a =
    (record { is_live = sees n a.0.is_live; of_kind = a.0.of_kind; apart = a.0.apart }, assigns_more messages live more sees kinds slots a.1)

seen_too : (earlier window : Option ℕ) (r n : ℕ) → sees_as_much earlier window ≡ true → is_seen window r n ≡ true → is_seen earlier r n ≡ true
seen_too None window r n e s = refl
seen_too (Some a) None r n e s = absurd cc
seen_too (Some a) (Some b) r n e s = grind (arith, nat_tests)

sees_more : (earlier d : Definition) (r : ℕ) (live : List ℕ) → sees_as_much earlier.window d.window ≡ true → (n : ℕ) → IsIn n (seen_of d r live) → IsIn n (seen_of earlier r live)
sees_more earlier d r live e n m =
    let from = IsIn-filter_from (is_seen d.window r) n live m in
    IsIn-filter (is_seen earlier.window r) n live (seen_too earlier.window d.window r n e from.1) from.0

-- ---- its guard

module _ (messages : List Message) (slots : Assignment) (values : AllByRecursion HasValuesInRange messages) (conjuncts : List Condition) (true_guard : makes_all_true messages conjuncts slots ≡ true) where
  same_holds : (c : Condition) → list_any (is_same c) conjuncts ≡ true → is_true messages slots c ≡ true
  same_holds c e =
      let found = any_in (is_same c) conjuncts e in
      ap (is_true messages slots) (same_condition c found.0 found.2) ∙ all_at (is_true messages slots) conjuncts found.0 found.1 true_guard

  kept_holds : (c : Condition) → is_kept_within conjuncts (bound_of c) ≡ true → is_true messages slots c ≡ true
  kept_holds c e = by (bound_of c) refl e
    where
      by : (o : Option Bound) → bound_of c ≡ o → is_kept_within conjuncts o ≡ true → is_true messages slots c ≡ true
      by None f e = absurd cc
      by (Some b) f e = bound_says messages slots c b f ∙ throughout (interval_of conjuncts b.place) b.relation b.number _ e (in_interval messages slots b.place conjuncts values true_guard)

  always_holds : (c : Condition) → is_always_true c ≡ true → is_true messages slots c ≡ true
  always_holds c e =
      let parts = both_true (is_constant c) (is_true [] [] c) e in
      constant messages slots c (not-true (has_some (needs_of c)) parts.0) ∙ parts.1

  implied_holds : (c : Condition) → is_implied conjuncts c ≡ true → is_true messages slots c ≡ true
  implied_holds c e =
      elim (or_cases (list_any (is_same c) conjuncts) (is_kept_within conjuncts (bound_of c) || is_always_true c) e) [
        | inl f ↦ same_holds c f
        | inr f ↦ elim (or_cases (is_kept_within conjuncts (bound_of c)) (is_always_true c) f) [ inl g ↦ kept_holds c g | inr g ↦ always_holds c g ]
      ]

-- a complete match of the definition is one of what shadows it
pub record AlsoMatches (messages : List Message) (live : List ℕ) (earlier : Definition) (taken : List ℕ) : Type 0 where
  pub assigns : Assigns messages (seen_of earlier (length messages) live) earlier.patterns (slots_of taken)
  pub true_guard : makes_all_true messages earlier.conjuncts (slots_of taken) ≡ true

pub also_matches : (messages : List Message) (live : List ℕ) (earlier d : Definition) (taken : List ℕ) → AllByRecursion HasValuesInRange messages → shadows earlier d ≡ true
    → Assigns messages (seen_of d (length messages) live) d.patterns (slots_of taken) → makes_all_true messages d.conjuncts (slots_of taken) ≡ true → AlsoMatches messages live earlier taken
also_matches messages live earlier d taken values e a h =
    let parts = both_true (numbers_eq earlier.patterns d.patterns) (sees_as_much earlier.window d.window && list_all (is_implied d.conjuncts) earlier.conjuncts) e in
    let more = both_true (sees_as_much earlier.window d.window) (list_all (is_implied d.conjuncts) earlier.conjuncts) parts.1 in
    let kinds = (bytes_eq-Decides earlier.patterns d.patterns).0 parts.0 in
    let seen : List ℕ = seen_of earlier (length messages) live in
    let Match : List ℕ → Type 0 = λ ks. Assigns messages seen ks (slots_of taken) in
    record {
      assigns = subst Match (sym kinds) (assigns_more messages (seen_of d (length messages) live) seen (sees_more earlier d (length messages) live more.0) d.patterns (slots_of taken) a);
      true_guard = all_from (is_implied d.conjuncts) (is_true messages (slots_of taken)) (implied_holds messages (slots_of taken) values d.conjuncts h) earlier.conjuncts more.1;
    }

-- ---- where it stands

-- the first rule that shadows the definition, and those around it
pub record Shadows (from : ℕ) (rules : List Rule) (d : Definition) (by : ℕ) : Type 0 where
  pub front : List Rule
  pub rule : Rule
  pub back : List Rule
  pub are : front ++ rule ∷ back ≡ rules
  pub number : by ≡ from + length front
  pub shadow : shadows rule.definition d ≡ true

pub shadow_of : (from : ℕ) (rules : List Rule) (d : Definition) (by : ℕ) → first_shadow from rules d ≡ Some by → Shadows from rules d by
shadow_of from [] d by e = absurd cc
shadow_of from (rule ∷ rules) d by e = cases (λ f. shadow_of (from + 1) rules d by f) (shadows rule.definition d) refl e
  where
    cases : (first_shadow (from + 1) rules d ≡ Some by → Shadows (from + 1) rules d by) → (b : Bool) → shadows rule.definition d ≡ b → (if b then Some from else first_shadow (from + 1) rules d) ≡ Some by → Shadows from (rule ∷ rules) d by
    cases further true f e = let same : from ≡ by = cc in record { front = []; rule = rule; back = rules; are = refl; number = omega (arith, same); shadow = f }
    cases further false f e =
        let later = further e in
        let number = later.number in
        record { front = rule ∷ later.front; rule = later.rule; back = later.back; are = ap (λ (rs : List Rule). rule ∷ rs) later.are; number = omega (arith, number); shadow = later.shadow }

-- of two candidates with the same numbers the one of the later definition has the greater key
pub later_is_greater : (by rule : ℕ) (taken : List ℕ) → by < rule → is_gt (key_cmp (record { rule = rule; taken = taken }) (record { rule = by; taken = taken })) ≡ true
later_is_greater by rule taken l =
    let first : numbers_cmp (ascending taken) (ascending taken) ≡ Equal = tied_itself nat_list_cmp_total (ascending taken) in
    let second : nat_cmp rule by ≡ Greater = grind (arith, nat_tests) in
    ap is_gt (λ i. ordering_then (first i) (ordering_then (second i) (numbers_cmp taken taken)))

-- Targets one more, actor by actor.
use Rattle.std.proofs.Common.{◌≡◌, ◌∙◌, ◌⊎◌, inl, inr, ℕ, zero, suc, ◌+◌, ◌<◌, ◌≤◌, List, [], ◌∷◌, ◌++◌, length, length-append, map, get_or, All, true, false, refl, ap, sym, subst, arith}
use Rattle.std.specs.Prelude.{Contains, slice_get, Some}
use Rattle.std.proofs.lemmas.List.{get_or_append_left, get_or-append-add}
use Rattle.std.proofs.lemmas.List.Elements.{All-nil, All-cons, All-push, All-weaker}
use Rattle.std.proofs.lemmas.Bool.{cases_lt}
use Rattle.script_types.specs.declared.plan.ActorPlan.{ActorPlan}
use Rattle.script_types.specs.declared.plan.Rule.{Rule}
use Rattle.cell_links.specs.Making.{TargetsApart}
use Rattle.actor_cells.specs.Lawful.{names_target}
use Rattle.actor_cells.specs.Targets.{AreTargets, AreTargetsOf}

contains-former : (xs ys : List ℕ) (x : ℕ) → Contains xs x → Contains (xs ++ ys) x
contains-former [] ys x (k, l, e) = absurd (omega (arith, l))
contains-former (z ∷ xs) ys x (zero, l, e) = (zero, omega arith, e)
contains-former (z ∷ xs) ys x (suc k, l, e) = let r = contains-former xs ys x (k, omega (arith, l), e) in (suc r.0, omega (arith, r.1), r.2)

contains-last : (xs : List ℕ) (x : ℕ) → Contains (xs ++ x ∷ []) x
contains-last [] x = (zero, omega arith, refl)
contains-last (z ∷ xs) x = let r = contains-last xs x in (suc r.0, omega (arith, r.1), r.2)

pub targets-none : (rules : List Rule) → AreTargets 0 rules []
targets-none rules = record { below = All-nil (λ (t : ℕ). t < 0); rise = λ i j l m. absurd (omega (arith, m)); all = λ t l names. absurd (omega (arith, l)) }

module _ (n : ℕ) (rules : List Rule) (targets : List ℕ) (are : AreTargets n rules targets) where
  below-more : All (λ (t : ℕ). t < n + 1) targets
  below-more = All-weaker (λ (t : ℕ). t < n) (λ (t : ℕ). t < n + 1) (λ t l. omega (arith, l)) targets are.below

  pub targets-skip : names_target rules n ≡ false → AreTargets (n + 1) rules targets
  targets-skip not_named = record { below = below-more; rise = are.rise; all = λ t l names. go t l names (cases_lt t n) }
    where
      go : (t : ℕ) → t < n + 1 → names_target rules t ≡ true → (t < n) ⊎ (n ≤ t) → Contains targets t
      go t l names (inl less) = are.all t less names
      go t l names (inr more) =
          let same : t ≡ n = omega (arith, l, more) in
          let clash : true ≡ false = sym names ∙ ap (names_target rules) same ∙ not_named in cc

  at-last : (i : ℕ) → i ≡ length targets → get_or (targets ++ n ∷ []) i 0 ≡ n
  at-last i e = ap (λ (k : ℕ). get_or (targets ++ n ∷ []) k 0) (let f : i ≡ length targets + 0 = omega (arith, e) in f) ∙ get_or-append-add targets (n ∷ []) 0 0

  pub targets-push : AreTargets (n + 1) rules (targets ++ n ∷ [])
  targets-push = record { below = All-push (λ (t : ℕ). t < n + 1) targets n below-more (omega arith); rise = λ i j l m. rises i j l m (cases_lt j (length targets)); all = λ t l names. go t l names (cases_lt t n) }
    where
      rises : (i j : ℕ) → i < j → j < length (targets ++ n ∷ []) → (j < length targets) ⊎ (length targets ≤ j) → get_or (targets ++ n ∷ []) i 0 < get_or (targets ++ n ∷ []) j 0
      rises i j l m (inl less) =
          let a = get_or_append_left targets (n ∷ []) 0 i (omega (arith, l, less)) in
          let b = get_or_append_left targets (n ∷ []) 0 j less in
          let r = are.rise i j l less in omega (arith, a, b, r)
      rises i j l m (inr more) =
          let e : j ≡ length targets = omega (arith, m, more, length-append targets (n ∷ [])) in
          let within : i < length targets = omega (arith, l, e) in
          let a = get_or_append_left targets (n ∷ []) 0 i within in
          let b = at-last j e in
          let r = are.below i 0 within in omega (arith, a, b, r)

      go : (t : ℕ) → t < n + 1 → names_target rules t ≡ true → (t < n) ⊎ (n ≤ t) → Contains (targets ++ n ∷ []) t
      go t l names (inl less) = contains-former targets (n ∷ []) t (are.all t less names)
      go t l names (inr more) = let same : n ≡ t = omega (arith, l, more) in subst (λ (x : ℕ). Contains (targets ++ n ∷ []) x) same (contains-last targets n)

-- ---- actor by actor

pub targets_of-more : (count : ℕ) (actors : List ActorPlan) (all : List (List ℕ)) (actor : ActorPlan) (own : List ℕ) → AreTargetsOf count actors all → AreTargets count actor.rules own → AreTargetsOf count (actors ++ actor ∷ []) (all ++ own ∷ [])
targets_of-more count [] [] actor own before one = (one, tt)
targets_of-more count [] (o ∷ all) actor own before one = absurd before
targets_of-more count (a ∷ actors) [] actor own before one = absurd before
targets_of-more count (a ∷ actors) (o ∷ all) actor own before one = (before.0, targets_of-more count actors all actor own before.1 one)

pub targets-below : (count : ℕ) (actors : List ActorPlan) (all : List (List ℕ)) → AreTargetsOf count actors all → All (λ ts. All (λ (t : ℕ). t < count) ts) all
targets-below count [] [] are = All-nil (λ (ts : List ℕ). All (λ (t : ℕ). t < count) ts)
targets-below count [] (o ∷ all) are = absurd are
targets-below count (a ∷ actors) [] are = absurd are
targets-below count (a ∷ actors) (o ∷ all) are = All-cons (λ (ts : List ℕ). All (λ (t : ℕ). t < count) ts) o all are.0.below (targets-below count actors all are.1)

pub targets-apart : (count : ℕ) (actors : List ActorPlan) (all : List (List ℕ)) → AreTargetsOf count actors all → All TargetsApart all
targets-apart count [] [] are = All-nil TargetsApart
targets-apart count [] (o ∷ all) are = absurd are
targets-apart count (a ∷ actors) [] are = absurd are
targets-apart count (a ∷ actors) (o ∷ all) are = All-cons TargetsApart o all (λ i j l m same. let r = are.0.rise i j l m in omega (arith, r, same)) (targets-apart count actors all are.1)

pub targets-at : (count : ℕ) (actors : List ActorPlan) (all : List (List ℕ)) (index : ℕ) (actor : ActorPlan) (own : List ℕ) → AreTargetsOf count actors all → slice_get actors index ≡ Some actor → slice_get all index ≡ Some own → AreTargets count actor.rules own
targets-at count [] all index actor own are here there = absurd cc
targets-at count (a ∷ actors) [] index actor own are here there = absurd are
targets-at count (a ∷ actors) (o ∷ all) zero actor own are here there =
    let x : a ≡ actor = cc in let y : o ≡ own = cc in subst (λ (z : ActorPlan × List ℕ). AreTargets count z.0.rules z.1) (λ i. (x i, y i)) are.0
targets-at count (a ∷ actors) (o ∷ all) (suc index) actor own are here there = targets-at count actors all index actor own are.1 here there

-- a fact of each list is one of each item that has it
pub All-unmap : {X Y : Type 0} (P : Y → Type 0) (f : X → Y) (xs : List X) → All P (map f xs) → All (λ x. P (f x)) xs
All-unmap P f [] all = All-nil (λ x. P (f x))
All-unmap P f (x ∷ xs) all = All-cons (λ x. P (f x)) x xs (all zero (f x) (omega arith)) (All-unmap P f xs (λ k d lt. all (suc k) d (omega (arith, lt))))

-- Numbers with their values, in their order.
use Rattle.std.proofs.Common.{◌≡◌, ◌∙◌, inl, inr, List, [], ◌∷◌, Bool, true, false, cond, ◌||◌, refl, sym, ap, subst}
use Rattle.std.specs.Prelude.{◌≢◌}
use Rattle.std.specs.Ordering.{is_eq, nat_cmp, int_cmp, ordering_then}
use Rattle.std.specs.declared.cmp.Ordering.{Ordering}
use Rattle.std.specs.declared.cmp.Ordering.TheVariants.{Less, Equal, Greater}
use Rattle.std.specs.Cmp.{IsTotalOrder}
use Rattle.std.specs.List.{list_any}
use Rattle.std.proofs.lemmas.Cmp.{nat_cmp_total, int_cmp_total, on_total, then_total, tied_itself}
use Rattle.std.proofs.lemmas.Map.Lookups.{exact_unsigned, exact_signed}
use Rattle.pattern_core.specs.Members.{IsIn}
use Rattle.value_index.specs.declared.valued.Valued.{Valued}
use Rattle.value_index.specs.Order.{valued_cmp}

-- ---- the order

pub total : IsTotalOrder valued_cmp
total = then_total (on_total (λ (v : Valued). v.value) int_cmp_total) (on_total (λ (v : Valued). v.number) nat_cmp_total)

both_equal : (x y : Ordering) → ordering_then x y ≡ Equal → (x ≡ Equal) × (y ≡ Equal)
both_equal Less y e = absurd cc
both_equal Equal y e = (refl, e)
both_equal Greater y e = absurd cc

-- equal ones are one
pub exact : (a b : Valued) → valued_cmp a b ≡ Equal → a ≡ b
exact a b e =
    let p = both_equal (int_cmp a.value b.value) (nat_cmp a.number b.number) e in
    let v : a.value ≡ b.value = exact_signed a.value b.value p.0 in
    let n : a.number ≡ b.number = exact_unsigned a.number b.number p.1 in
    λ i. record { value = v i; number = n i }

-- ---- members

pub is_in : (e : Valued) (es : List Valued) → list_any (λ k. is_eq (valued_cmp e k)) es ≡ true → IsIn e es
is_in e [] h = absurd cc
is_in e (x ∷ es) h = by (valued_cmp e x) refl h (is_in e es)
  where
    by : (o : Ordering) → valued_cmp e x ≡ o → (is_eq o || list_any (λ k. is_eq (valued_cmp e k)) es) ≡ true → (list_any (λ k. is_eq (valued_cmp e k)) es ≡ true → IsIn e es) → IsIn e (x ∷ es)
    by Less s h later = inr (later h)
    by Equal s h later = inl (sym (exact e x s))
    by Greater s h later = inr (later h)

or_right : (a b : Bool) → b ≡ true → (a || b) ≡ true
or_right true b e = refl
or_right false b e = e

pub holds : (e : Valued) (es : List Valued) → IsIn e es → list_any (λ k. is_eq (valued_cmp e k)) es ≡ true
holds e [] h = absurd h
holds e (x ∷ es) (inl s) =
    let tied : valued_cmp e x ≡ Equal = subst (λ (y : Valued). valued_cmp e y ≡ Equal) (sym s) (tied_itself total e) in
    λ i. (is_eq (tied i) || list_any (λ k. is_eq (valued_cmp e k)) es)
holds e (x ∷ es) (inr h) = or_right (is_eq (valued_cmp e x)) (list_any (λ k. is_eq (valued_cmp e k)) es) (holds e es h)

-- ---- what the calls of a set leave

kept : (b x : Bool) → x ≡ true → cond b true x ≡ true
kept true x e = refl
kept false x e = e

pub added_keeps : (one : Valued) (before now : List Valued) → ((q : Valued) → list_any (λ k. is_eq (valued_cmp q k)) now ≡ cond (is_eq (valued_cmp one q)) true (list_any (λ k. is_eq (valued_cmp q k)) before)) → (e : Valued) → IsIn e before → IsIn e now
added_keeps one before now is e there = is_in e now (is e ∙ kept (is_eq (valued_cmp one e)) (list_any (λ k. is_eq (valued_cmp e k)) before) (holds e before there))

pub removed_keeps : (one : Valued) (before now : List Valued) → ((q : Valued) → list_any (λ k. is_eq (valued_cmp q k)) now ≡ cond (is_eq (valued_cmp one q)) false (list_any (λ k. is_eq (valued_cmp q k)) before))
    → (e : Valued) → e ≢ one → IsIn e before → IsIn e now
removed_keeps one before now is e apart there = by (valued_cmp one e) refl
  where
    had : list_any (λ k. is_eq (valued_cmp e k)) before ≡ true
    had = holds e before there

    other : is_eq (valued_cmp one e) ≡ false → IsIn e now
    other s = is_in e now (is e ∙ (λ i. cond (s i) false (list_any (λ k. is_eq (valued_cmp e k)) before)) ∙ had)

    by : (o : Ordering) → valued_cmp one e ≡ o → IsIn e now
    by Less s = other (ap is_eq s)
    by Equal s = absurd (apart (sym (exact one e s)))
    by Greater s = other (ap is_eq s)

abbrev Members : List Valued → Valued → Bool
Members es q = list_any (λ k. is_eq (valued_cmp q k)) es

pub added_only : (one : Valued) (before now : List Valued) → ((q : Valued) → list_any (λ k. is_eq (valued_cmp q k)) now ≡ cond (is_eq (valued_cmp one q)) true (list_any (λ k. is_eq (valued_cmp q k)) before))
    → (e : Valued) → e ≢ one → IsIn e now → IsIn e before
added_only one before now is e apart there = by (valued_cmp one e) refl
  where
    other : is_eq (valued_cmp one e) ≡ false → IsIn e before
    other s = is_in e before ((λ i. cond (sym s i) true (Members before e)) ∙ sym (is e) ∙ holds e now there)

    by : (o : Ordering) → valued_cmp one e ≡ o → IsIn e before
    by Less s = other (ap is_eq s)
    by Equal s = absurd (apart (sym (exact one e s)))
    by Greater s = other (ap is_eq s)

pub removed_adds_none : (one : Valued) (before now : List Valued) → ((q : Valued) → list_any (λ k. is_eq (valued_cmp q k)) now ≡ cond (is_eq (valued_cmp one q)) false (list_any (λ k. is_eq (valued_cmp q k)) before)) → (e : Valued) → IsIn e now → IsIn e before
removed_adds_none one before now is e there = by (is_eq (valued_cmp one e)) refl
  where
    by : (b : Bool) → is_eq (valued_cmp one e) ≡ b → IsIn e before
    by true s = let both : false ≡ true = (λ i. cond (sym s i) false (Members before e)) ∙ sym (is e) ∙ holds e now there in absurd cc
    by false s = is_in e before ((λ i. cond (sym s i) false (Members before e)) ∙ sym (is e) ∙ holds e now there)

pub removed_gone : (one : Valued) (before now : List Valued) → ((q : Valued) → list_any (λ k. is_eq (valued_cmp q k)) now ≡ cond (is_eq (valued_cmp one q)) false (list_any (λ k. is_eq (valued_cmp q k)) before)) → ¬ IsIn one now
removed_gone one before now is there =
    let tied : is_eq (valued_cmp one one) ≡ true = ap is_eq (tied_itself total one) in
    let both : false ≡ true = (λ i. cond (sym tied i) false (Members before one)) ∙ sym (is one) ∙ holds one now there in
    absurd cc

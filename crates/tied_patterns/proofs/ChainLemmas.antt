-- Chains of equalities: what they keep, where they end, and what they lead through.
use Rattle.std.proofs.Common.{◌≡◌, ◌⊎◌, inl, inr, ⊎_elim, ℕ, zero, suc, ◌<◌, List, [], ◌∷◌, ◌++◌, Any, Contains, refl, sym, ap, ◌∙◌, subst, arith}
use Rattle.std.proofs.lemmas.List.Elements.{Contains-append_left}
use Rattle.guard_eval.specs.declared.term.Place.{Place}
use Rattle.tied_patterns.specs.declared.equality.Equality.{Equality}
use Rattle.tied_patterns.specs.Names.{sides_of}
use Rattle.tied_patterns.specs.Tied.{AreDirect, Chain, IsBetween, compared, equal, reflexive, symmetric, transitive}

pub any_of : {X : Type 0} (P : X → Type 0) (xs : List X) (x : X) → Contains xs x → P x → Any P xs
any_of P xs x at p = (at.0, x, at.1, at.2, p)

-- a chain of some equalities is one of more
pub more_equalities : (es more : List Equality) (a b : Place) → Chain es a b → Chain (es ++ more) a b
more_equalities es more a b (reflexive c) = reflexive c
more_equalities es more a b (compared c d at) = compared c d (Contains-append_left es more (equal c d) at)
more_equalities es more a b (symmetric c d chain) = symmetric c d (more_equalities es more c d chain)
more_equalities es more a b (transitive c d e one two) = transitive c d e (more_equalities es more c d one) (more_equalities es more d e two)

-- what both sides of each equality have is the same along a chain
pub same_along : {X : Type 0} (es : List Equality) (f : Place → X) → ((c d : Place) → Contains es (equal c d) → f c ≡ f d) → (a b : Place) → Chain es a b → f a ≡ f b
same_along es f each a b (reflexive c) = refl
same_along es f each a b (compared c d at) = each c d at
same_along es f each a b (symmetric c d chain) = sym (same_along es f each c d chain)
same_along es f each a b (transitive c d e one two) = same_along es f each c d one ∙ same_along es f each d e two

-- ---- where chains end

-- both sides of an equality are among the sides of all
pub sides_in : (es : List Equality) (e : Equality) → Contains es e → Contains (sides_of es) e.left × Contains (sides_of es) e.right
sides_in [] e at = absurd (omega (arith, at.1))
sides_in (first ∷ es) e (zero, within, is) = ((0, omega arith, ap (λ (x : Equality). x.left) is), (1, omega arith, ap (λ (x : Equality). x.right) is))
sides_in (first ∷ es) e (suc k, within, is) =
    let behind = sides_in es e (k, omega (arith, within), is) in
    ((suc (suc behind.0.0), omega (arith, behind.0.1), behind.0.2), (suc (suc behind.1.0), omega (arith, behind.1.1), behind.1.2))

-- the ends of a chain are one variable, or both are sides of equalities
pub ends_of : (es : List Equality) (a b : Place) → Chain es a b → (a ≡ b) ⊎ (Contains (sides_of es) a × Contains (sides_of es) b)
ends_of es a b (reflexive c) = inl refl
ends_of es a b (compared c d at) = inr (sides_in es (equal c d) at)
ends_of es a b (symmetric c d chain) = elim (ends_of es c d chain) [ inl same ↦ inl (sym same) | inr ends ↦ inr (ends.1, ends.0) ]
ends_of es a b (transitive c d e one two) = both (ends_of es c d one) (ends_of es d e two)
  where
    both : (c ≡ d) ⊎ (Contains (sides_of es) c × Contains (sides_of es) d) → (d ≡ e) ⊎ (Contains (sides_of es) d × Contains (sides_of es) e)
        → (c ≡ e) ⊎ (Contains (sides_of es) c × Contains (sides_of es) e)
    both (inl same) (inl other) = inl (same ∙ other)
    both (inl same) (inr ends) = inr (subst (λ (x : Place). Contains (sides_of es) x) (sym same) ends.0, ends.1)
    both (inr ends) (inl other) = inr (ends.0, subst (λ (x : Place). Contains (sides_of es) x) other ends.1)
    both (inr ends) (inr others) = inr (ends.0, others.1)

-- ---- what chains lead through

-- where a variable reaches those of two patterns alone, which no equality ties directly, it reaches only those of its own
module _ (es : List Equality) (first second : ℕ) (apart : AreDirect es first second → ⊥) (from : Place)
    (alone : (other : Place) → Contains (sides_of es) other → Chain es from other → (other.pattern ≡ first) ⊎ (other.pattern ≡ second)) where
  stays : (a b : Place) → Chain es a b → Chain es from a → (a.pattern ≡ first → b.pattern ≡ first) × (b.pattern ≡ first → a.pattern ≡ first)
  stays a b (reflexive c) reaches = (λ p. p, λ p. p)
  stays a b (compared c d at) reaches =
      let ends = sides_in es (equal c d) at in
      let direct : IsBetween first second (equal c d) → ⊥ = λ between. apart (any_of (IsBetween first second) es (equal c d) at between) in
      let far = alone d ends.1 (transitive from c d reaches (compared c d at)) in
      let near = alone c ends.0 reaches in
      (λ p. ⊎_elim (λ q. q) (λ q. absurd (direct (inl (p, q)))) far, λ p. ⊎_elim (λ q. q) (λ q. absurd (direct (inr (q, p)))) near)
  stays a b (symmetric c d chain) reaches =
      let back = stays c d chain (transitive from d c reaches (symmetric c d chain)) in
      (back.1, back.0)
  stays a b (transitive c d e one two) reaches =
      let near = stays c d one reaches in
      let far = stays d e two (transitive from c d reaches one) in
      (λ p. far.0 (near.0 p), λ p. near.1 (far.1 p))

-- so a chain between two patterns that no equality ties directly leads through a third one
pub through_third : (es : List Equality) (first second : ℕ) → first < second → (AreDirect es first second → ⊥) → (left right : Place)
    → left.pattern ≡ first → right.pattern ≡ second → Chain es left right
    → ((other : Place) → Contains (sides_of es) other → Chain es left other → (other.pattern ≡ first) ⊎ (other.pattern ≡ second)) → ⊥
through_third es first second order apart left right of_first of_second chain alone =
    let same : first ≡ second = sym ((stays es first second apart left alone left right chain (reflexive left)).0 of_first) ∙ of_second in
    omega (arith, order, same)

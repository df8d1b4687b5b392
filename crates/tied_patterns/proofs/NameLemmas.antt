-- Variables have one name exactly where a chain of equalities leads from one to the other.
use Rattle.std.proofs.Common.{◌≡◌, ◌==◌, ⊎_elim, ℕ, ◌+◌, ◌<◌, Bool, true, false, cond, List, [], ◌∷◌, ◌++◌, Contains, length, take, get_or, refl, sym, ap, ◌∙◌, subst, subst₂, arith}
use Rattle.std.proofs.lemmas.Bool.{and_parts, and_from, cond-true, eqb-true, eq-eqb}
use Rattle.std.proofs.lemmas.List.{take_more}
use Rattle.std.proofs.lemmas.List.Elements.{Contains-push, Contains-push_cases}
use Rattle.guard_eval.specs.declared.term.Place.{Place}
use Rattle.tied_patterns.specs.declared.equality.Equality.{Equality}
use Rattle.tied_patterns.specs.Names.{AreNames, have_one_name, is_same_place, renamed, renamed_by}
use Rattle.tied_patterns.specs.Tied.{Chain, compared, equal, reflexive, symmetric, transitive}
use Rattle.tied_patterns.proofs.ChainLemmas.{more_equalities, same_along}

-- ---- places

one_place : (a b : Place) → a.pattern ≡ b.pattern → a.field ≡ b.field → a ≡ b
one_place a b pattern field = λ i. record { pattern = pattern i; field = field i }

pub same_place : (a b : Place) → is_same_place a b ≡ true → a ≡ b
same_place a b is =
    let parts = and_parts (a.pattern == b.pattern) (a.field == b.field) is in
    one_place a b (eqb-true a.pattern b.pattern parts.0) (eqb-true a.field b.field parts.1)

pub is_same_place-of : (a b : Place) → a ≡ b → is_same_place a b ≡ true
is_same_place-of a b is =
    and_from (a.pattern == b.pattern) (a.field == b.field) (eq-eqb a.pattern b.pattern (ap (λ (p : Place). p.pattern) is)) (eq-eqb a.field b.field (ap (λ (p : Place). p.field) is))

-- ---- one name more

-- the last name is the last to be used
renamed_by-push : (names : List Equality) (name : Equality) (place : Place) → renamed_by (names ++ name ∷ []) place ≡ renamed name (renamed_by names place)
renamed_by-push [] name place = refl
renamed_by-push (other ∷ names) name place = renamed_by-push names name (renamed other place)

cond-same : {X : Type 0} (b : Bool) (x : X) → cond b x x ≡ x
cond-same true x = refl
cond-same false x = refl

-- behind the name of an equality both its sides are called as the right one was
left_becomes : (left right : Place) → renamed (equal left right) left ≡ right
left_becomes left right = cond-true (is_same_place left left) right left (is_same_place-of left left refl)

right_stays : (left right : Place) → renamed (equal left right) right ≡ right
right_stays left right = cond-same (is_same_place left right) right

-- ---- an equality more

-- f gives the names of variables by some equalities
module _ (es : List Equality) (e : Equality) (f : Place → Place) (chain : (a b : Place) → f a ≡ f b → Chain es a b) where
  old : (a b : Place) → f a ≡ f b → Chain (es ++ e ∷ []) a b
  old a b is = more_equalities es (e ∷ []) a b (chain a b is)

  new : Chain (es ++ e ∷ []) e.left e.right
  new = compared e.left e.right (Contains-push es e)

  -- the names of two variables, of which each may be that of the left side
  chain_by : (a b : Place) (s t : Bool) → is_same_place (f e.left) (f a) ≡ s → is_same_place (f e.left) (f b) ≡ t
      → cond s (f e.right) (f a) ≡ cond t (f e.right) (f b) → Chain (es ++ e ∷ []) a b
  chain_by a b true true at_a at_b is = old a b (sym (same_place (f e.left) (f a) at_a) ∙ same_place (f e.left) (f b) at_b)
  chain_by a b true false at_a at_b is =
      let left = old a e.left (sym (same_place (f e.left) (f a) at_a)) in
      transitive a e.right b (transitive a e.left e.right left new) (old e.right b is)
  chain_by a b false true at_a at_b is =
      let left = old e.left b (same_place (f e.left) (f b) at_b) in
      transitive a e.right b (old a e.right is) (transitive e.right e.left b (symmetric e.left e.right new) left)
  chain_by a b false false at_a at_b is = old a b is

  more_chain : (a b : Place) → renamed (equal (f e.left) (f e.right)) (f a) ≡ renamed (equal (f e.left) (f e.right)) (f b) → Chain (es ++ e ∷ []) a b
  more_chain a b is = chain_by a b (is_same_place (f e.left) (f a)) (is_same_place (f e.left) (f b)) refl refl is

module _ (es : List Equality) (e : Equality) (f : Place → Place) (name : (a b : Place) → Chain es a b → f a ≡ f b) where
  sides_named : (c d : Place) → Contains (es ++ e ∷ []) (equal c d) → renamed (equal (f e.left) (f e.right)) (f c) ≡ renamed (equal (f e.left) (f e.right)) (f d)
  sides_named c d at = ⊎_elim
      (λ before. ap (λ (p : Place). renamed (equal (f e.left) (f e.right)) p) (name c d (compared c d before)))
      (λ is. subst (λ (x : Equality). renamed (equal (f e.left) (f e.right)) (f x.left) ≡ renamed (equal (f e.left) (f e.right)) (f x.right)) is
      (left_becomes (f e.left) (f e.right) ∙ sym (right_stays (f e.left) (f e.right))))
      (Contains-push_cases es e (equal c d) at)

  more_name : (a b : Place) → Chain (es ++ e ∷ []) a b → renamed (equal (f e.left) (f e.right)) (f a) ≡ renamed (equal (f e.left) (f e.right)) (f b)
  more_name a b chain = same_along (es ++ e ∷ []) (λ (p : Place). renamed (equal (f e.left) (f e.right)) (f p)) sides_named a b chain

-- names with that of one equality more: what its left side was called becomes what its right side was called
pub names_more : (es names : List Equality) (e : Equality) → AreNames es names → AreNames (es ++ e ∷ []) (names ++ equal (renamed_by names e.left) (renamed_by names e.right) ∷ [])
names_more es names e are =
    let pushed = renamed_by-push names (equal (renamed_by names e.left) (renamed_by names e.right)) in
    record {
      chain = λ a b is. more_chain es e (renamed_by names) are.chain a b (sym (pushed a) ∙ is ∙ pushed b);
      name = λ a b chain. pushed a ∙ more_name es e (renamed_by names) are.name a b chain ∙ sym (pushed b);
    }

-- without an equality each variable has a name of its own
pub no_names : AreNames [] []
no_names = record {
  chain = λ a b is. subst (λ (p : Place). Chain [] a p) is (reflexive a);
  name = λ a b chain. same_along [] (λ (p : Place). p) (λ c d at. absurd (omega (arith, at.1))) a b chain;
}

-- the loop's step
pub names_step : (es names after : List Equality) (i : ℕ) (e name : Equality) → AreNames (take i es) names → i < length es → e ≡ get_or es i e
    → name ≡ equal (renamed_by names e.left) (renamed_by names e.right) → after ≡ names ++ name ∷ [] → AreNames (take (i + 1) es) after
names_step es names after i e name are within is named pushed =
    let more = names_more (take i es) names e are in
    let front : take i es ++ e ∷ [] ≡ take (i + 1) es = ap (λ (x : Equality). take i es ++ x ∷ []) is ∙ sym (take_more es i e within) in
    let back : names ++ equal (renamed_by names e.left) (renamed_by names e.right) ∷ [] ≡ after = ap (λ (x : Equality). names ++ x ∷ []) (sym named) ∙ sym pushed in
    subst₂ AreNames front back more

-- two variables of one name are joined by a chain, and those that are joined have one
pub chain_of_name : (es names : List Equality) → AreNames es names → (a b : Place) → have_one_name names a b ≡ true → Chain es a b
chain_of_name es names are a b is = are.chain a b (same_place (renamed_by names a) (renamed_by names b) is)

pub name_of_chain : (es names : List Equality) → AreNames es names → (a b : Place) → Chain es a b → have_one_name names a b ≡ true
name_of_chain es names are a b chain = is_same_place-of (renamed_by names a) (renamed_by names b) (are.name a b chain)

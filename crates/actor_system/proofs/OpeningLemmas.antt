-- The actors and the places that a new system keeps, one more.
use Rattle.std.proofs.Common.{◌≡◌, ◌∙◌, inl, inr, ℕ, zero, suc, ◌+◌, List, [], ◌∷◌, ◌++◌, map, replicate, refl, ap, sym, subst, arith}
use Rattle.std.proofs.lemmas.Bool.{cases_lt}
use Rattle.std.proofs.lemmas.List.{map-append}
use Rattle.script_types.specs.declared.plan.Plan.{Plan}
use Rattle.fair_semantics.specs.declared.run.Limits.{Limits}
use Rattle.fair_semantics.specs.Linked.{numbers_from}
use Rattle.fair_semantics.proofs.FairLemmas.{numbers_from-more}
use Rattle.run_fit_law.specs.FitsLaw.{RulesFit}
use Rattle.actor_turn.specs.Held.{Held, new_actor}
use Rattle.actor_system.specs.Opening.{RulesInRange, new_actors, rows_of}

replicate-more : {X : Type 0} (n : ℕ) (x : X) → replicate n x ++ x ∷ [] ≡ replicate (suc n) x
replicate-more zero x = refl
replicate-more {X} (suc n) x = ap (λ (xs : List X). x ∷ xs) (replicate-more n x)

pub rows_more : (places : List (List ℕ)) (row : List ℕ) (n width : ℕ) → places ≡ rows_of n width → row ≡ replicate width 0 → places ++ row ∷ [] ≡ rows_of (n + 1) width
rows_more places row n width is same =
    let next : suc n ≡ n + 1 = omega arith in
    (λ i. is i ++ same i ∷ []) ∙ replicate-more n (replicate width 0) ∙ ap (λ (k : ℕ). rows_of k width) next

pub actors_more : (plan : Plan) (limits : Limits) (feeds n : ℕ) (actors : List Held) (held : Held) → actors ≡ new_actors plan limits feeds n → held ≡ new_actor plan n limits feeds → actors ++ held ∷ [] ≡ new_actors plan limits feeds (n + 1)
actors_more plan limits feeds n actors held are is =
    let at : 0 + n ≡ n = omega arith in
    (λ i. are i ++ is i ∷ [])
    ∙ ap (λ (k : ℕ). new_actors plan limits feeds n ++ new_actor plan k limits feeds ∷ []) (sym at)
    ∙ sym (map-append (λ index. new_actor plan index limits feeds) (numbers_from 0 n) ((0 + n) ∷ []))
    ∙ ap (map (λ index. new_actor plan index limits feeds)) (numbers_from-more 0 n)

pub rules_more : (plan : Plan) (limits : Limits) (n : ℕ) → RulesInRange plan limits n → RulesFit plan limits n → RulesInRange plan limits (n + 1)
rules_more plan limits n each own actor l =
    elim (cases_lt actor n) [
      | inl less ↦ each actor less
      | inr more ↦ let same : n ≡ actor = omega arith in subst (RulesFit plan limits) same own
    ]

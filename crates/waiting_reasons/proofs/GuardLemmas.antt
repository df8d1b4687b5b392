-- The first conjunct that is false.
use Rattle.std.proofs.Common.{◌≡◌, ◌⊎◌, inl, inr, ◌∙◌, List, [], ◌∷◌, Bool, true, false, not, ◌&&◌, ◌||◌, Option, Some, None, refl, ap, sym}
use Rattle.std.specs.Prelude.{if◌then◌else◌}
use Rattle.join_base.specs.declared.message.Message.{Message}
use Rattle.guard_eval.specs.Condition.{Condition}
use Rattle.guard_eval.specs.Meaning.{Assignment, is_decided, is_true}
use Rattle.pattern_core.specs.Matches.{is_agreeable}
use Rattle.waiting_reasons.specs.Guards.{first_false, first_untrue}

module _ (messages : List Message) (slots : Assignment) where
  -- one conjunct more: it is decided and false, or it is not
  step_none : (d t : Bool) (c : Condition) (rest : Option Condition) (b : Bool) → (rest ≡ None → b ≡ true) → (if d && not t then Some c else rest) ≡ None → ((not d || t) && b) ≡ true
  step_none true true c rest b later e = later e
  step_none true false c rest b later e = absurd cc
  step_none false t c rest b later e = later e

  step_some : (d t : Bool) (c x : Condition) (rest : Option Condition) (b : Bool) → (rest ≡ Some x → b ≡ false) → (if d && not t then Some c else rest) ≡ Some x → ((not d || t) && b) ≡ false
  step_some true true c x rest b later e = later e
  step_some true false c x rest b later e = refl
  step_some false t c x rest b later e = later e

  pub agreeable_by_none : (cs : List Condition) → first_false messages slots cs ≡ None → is_agreeable messages cs slots ≡ true
  agreeable_by_none [] e = refl
  agreeable_by_none (c ∷ cs) e =
      step_none (is_decided slots c) (is_true messages slots c) c (first_false messages slots cs) (is_agreeable messages cs slots) (agreeable_by_none cs) e

  hindered_by_some : (cs : List Condition) (x : Condition) → first_false messages slots cs ≡ Some x → is_agreeable messages cs slots ≡ false
  hindered_by_some [] x e = absurd cc
  hindered_by_some (c ∷ cs) x e =
      step_some (is_decided slots c) (is_true messages slots c) c x (first_false messages slots cs) (is_agreeable messages cs slots) (hindered_by_some cs x) e

  -- where none is false, all that are decided are true
  pub none_is_agreeable : (cs : List Condition) → first_false messages slots cs ≡ None → true ≡ is_agreeable messages cs slots
  none_is_agreeable cs e = sym (agreeable_by_none cs e)

  pub some_is_not : (cs : List Condition) (x : Condition) → first_false messages slots cs ≡ Some x → false ≡ is_agreeable messages cs slots
  some_is_not cs x e = sym (hindered_by_some cs x e)

  -- ---- in a loop

  -- a conjunct that is decided and false is the first of those that are left
  pub first_here : (c : Condition) (cs : List Condition) → is_decided slots c ≡ true → is_true messages slots c ≡ false → first_false messages slots (c ∷ cs) ≡ Some c
  first_here c cs decided false_here = λ i. if decided i && not (false_here i) then Some c else first_false messages slots cs

  -- one that is not decided, or true, leaves the later ones
  pub first_later : (c : Condition) (cs : List Condition) → (is_decided slots c && not (is_true messages slots c)) ≡ false → first_false messages slots (c ∷ cs) ≡ first_false messages slots cs
  first_later c cs other = ap (λ (b : Bool). if b then Some c else first_false messages slots cs) other

  pub untrue_here : (c : Condition) (cs : List Condition) → is_true messages slots c ≡ false → first_untrue messages slots (c ∷ cs) ≡ Some c
  untrue_here c cs false_here = ap (λ (b : Bool). if b then first_untrue messages slots cs else Some c) false_here

  pub untrue_later : (c : Condition) (cs : List Condition) → is_true messages slots c ≡ true → first_untrue messages slots (c ∷ cs) ≡ first_untrue messages slots cs
  untrue_later c cs holds = ap (λ (b : Bool). if b then first_untrue messages slots cs else Some c) holds

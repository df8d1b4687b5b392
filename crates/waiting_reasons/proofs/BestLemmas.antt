-- The first of the fullest assignments.
use Rattle.std.proofs.Common.{◌≡◌, ◌∙◌, ℕ, List, [], ◌∷◌, ◌++◌, length, Bool, true, false, Option, Some, None, refl, ap, sym, subst}
use Rattle.std.specs.Prelude.{IfSome, if◌then◌else◌, nat_lt}
use Rattle.std.specs.List.{AllByRecursion}
use Rattle.join_base.specs.declared.message.Message.{Message}
use Rattle.join_base.specs.Taken.{contains_number}
use Rattle.guard_eval.specs.Meaning.{Assignment}
use Rattle.pattern_core.specs.declared.definition.Definition.{Definition}
use Rattle.pattern_core.specs.Window.{seen_of}
use Rattle.waiting_reasons.specs.declared.reason.Reason.{Reason}
use Rattle.waiting_reasons.specs.declared.reason.Reason.TheVariants.{Passed}
use Rattle.waiting_reasons.specs.Ways.{filled_count, fuller, fullest, fullest_before, reason_by, reason_of, ways}

-- the last one is tried first
pub fullest_last : (best : Option Assignment) (ws : List Assignment) (x : Assignment) → fullest_before best (ws ++ x ∷ []) ≡ fullest_before (fuller x best) ws
fullest_last best [] x = refl
fullest_last best (w ∷ ws) x = ap (fuller w) (fullest_last best ws x)

-- a fact of each is one of the fullest
module _ (P : Assignment → Type 0) where
  fuller_has : (slots : Assignment) (best : Option Assignment) → P slots → IfSome best P → IfSome (fuller slots best) P
  fuller_has slots None here later = here
  fuller_has slots (Some best) here later = by (nat_lt (filled_count slots) (filled_count best))
    where
      by : (b : Bool) → IfSome (if b then Some best else Some slots) P
      by true = later
      by false = here

  pub fullest_has : (ws : List Assignment) → AllByRecursion P ws → IfSome (fullest ws) P
  fullest_has [] all = tt
  fullest_has (w ∷ ws) all = fuller_has w (fullest ws) all.0 (fullest_has ws all.1)

  pub found_has : (ws : List Assignment) (slots : Assignment) → AllByRecursion P ws → Some slots ≡ fullest ws → P slots
  found_has ws slots all found = let Has : Option Assignment → Type 0 = λ o. IfSome o P in subst Has (sym found) (fullest_has ws all)

-- the reason by what was found
pub reason_found : (messages : List Message) (left : List ℕ) (definition : Definition) (number : ℕ) (seen : List ℕ) (ws : List Assignment) (best : Option Assignment) → seen ≡ seen_of definition (length messages) left → contains_number seen number ≡ true
    → ws ≡ ways messages definition seen number → best ≡ fullest ws → reason_by best ≡ reason_of messages left definition number
reason_found messages left definition number seen ws best seen_is has ws_is best_is =
    let among : List ℕ = seen_of definition (length messages) left in
    let found : Reason = reason_by (fullest (ways messages definition among number)) in
    ap reason_by (best_is ∙ ap fullest (ws_is ∙ ap (λ (s : List ℕ). ways messages definition s number) seen_is))
    ∙ sym (ap (λ (b : Bool). if b then found else Passed) (ap (λ (s : List ℕ). contains_number s number) (sym seen_is) ∙ has))

pub reason_passed : (messages : List Message) (left : List ℕ) (definition : Definition) (number : ℕ) (seen : List ℕ) → seen ≡ seen_of definition (length messages) left → contains_number seen number ≡ false → Passed ≡ reason_of messages left definition number
reason_passed messages left definition number seen seen_is lacks =
    let among : List ℕ = seen_of definition (length messages) left in
    let found : Reason = reason_by (fullest (ways messages definition among number)) in
    sym (ap (λ (b : Bool). if b then found else Passed) (ap (λ (s : List ℕ). contains_number s number) (sym seen_is) ∙ lacks))

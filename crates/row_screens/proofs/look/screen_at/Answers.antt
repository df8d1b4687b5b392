use Rattle.std.proofs.Common.{◌≡◌, ◌∙◌, ◌++◌, ◌∷◌, [], ℕ, List, ap, subst}
use Rattle.std.specs.Prelude.{IfSome}
use Rattle.row_screens.specs.Offering.{offered}
use Rattle.row_screens.specs.Screen.{Screens}
use Rattle.row_screens.proofs.look.screen_at.Goals as goal

pub returns : goal.returns
returns c =
    let a = c.args in
    let one : c.push.new.self ≡ a.other ∷ [] = c.push.ensures.appended ∙ ap (λ (ns : List ℕ). ns ++ a.other ∷ []) c.new-one.ensures.empty in
    subst (λ (ns : List ℕ). IfSome c.screen_of.result (Screens (offered a.offer.now) a.slots.now a.pattern ns)) one c.screen_of.ensures

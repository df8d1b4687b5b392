use Rattle.std.proofs.Common.{◌∷◌, [], ℕ, refl, subst}
use Rattle.std.specs.Prelude.{IfSome}
use Rattle.row_screens.specs.Offering.{offered}
use Rattle.row_screens.specs.Look.{FindsAt}
use Rattle.row_screens.proofs.LookLemmas.{one_item}
use Rattle.row_screens.proofs.look.found_at.Goals as goal

pub found_by-requires : goal.found_by-requires
found_by-requires c = record { tested = c.in_ok-screen.ensures.tested }

pub returns : goal.returns
returns c =
    let a = c.args in
    let same = one_item (a.other ∷ []) c.in_ok-screen.screen.other a.other c.in_ok-screen.ensures.alone refl in
    subst (λ (p : ℕ). IfSome c.found_by.result (FindsAt (offered a.offer.now) a.slots.now a.pattern p 0)) same c.found_by.ensures

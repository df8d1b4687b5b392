use Rattle.std.proofs.Common.{◌∷◌, [], ℕ, refl, subst}
use Rattle.std.specs.Prelude.{IfSome}
use Rattle.row_screens.specs.Offering.{offered}
use Rattle.row_screens.specs.Look.{LooksUpAt}
use Rattle.row_screens.proofs.LookLemmas.{one_item}
use Rattle.row_screens.proofs.look.look_at.Goals as goal

pub look_by-requires : goal.look_by-requires
look_by-requires c = record { kind = c.in_ok-kind.ensures; tested = c.in_ok-screen.ensures.tested }

pub returns : goal.returns
returns c =
    let a = c.args in
    let same = one_item (a.other ∷ []) c.in_ok-screen.screen.other a.other c.in_ok-screen.ensures.alone refl in
    subst (λ (p : ℕ). IfSome c.look_by.result (LooksUpAt (offered a.offer.now) a.slots.now a.pattern p)) same c.look_by.ensures

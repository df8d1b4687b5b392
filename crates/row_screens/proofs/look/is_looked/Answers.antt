use Rattle.std.proofs.Common.{◌∙◌, sym}
use Rattle.row_screens.specs.Offering.{offered}
use Rattle.row_screens.proofs.LookLemmas.{one_look}
use Rattle.row_screens.proofs.look.is_looked.Goals as goal

pub returns-in-Some : goal.returns-in-Some
returns-in-Some c =
    let a = c.args in
    λ yes. one_look (offered a.offer.now) a.slots.now a.pattern a.other c.in-Some.known a.look (sym c.is_one.ensures ∙ yes) c.in-Some.ensures

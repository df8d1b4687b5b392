use Rattle.row_screens.specs.Offering.{offered}
use Rattle.row_screens.proofs.LookLemmas.{finds_from, looks_find}
use Rattle.row_screens.proofs.look.found_by.Goals as goal

pub returns-in-Some : goal.returns-in-Some
returns-in-Some c =
    let a = c.args in
    finds_from (offered a.offer.now) a.slots.now a.pattern a.screen.now.other a.from c.in-Some.numbers c.in-Some.ensures

pub returns : goal.returns
returns c =
    let a = c.args in
    looks_find (offered a.offer.now) a.slots.now a.pattern a.screen.now.other a.from c.in_ok-look.look c.numbers_at.result c.in_ok-look.ensures c.numbers_at.ensures.ascend c.numbers_at.ensures.has

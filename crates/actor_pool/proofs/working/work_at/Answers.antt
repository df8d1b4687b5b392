use Rattle.std.proofs.Common.{ap, arith, refl}
use Rattle.actor_pool.specs.declared.helper.Helper.{Helper}
use Rattle.actor_pool.proofs.BesideLemmas.{goes-fits}
use Rattle.actor_pool.proofs.HelperLemmas.{unmark-goes, goes-further}
use Rattle.actor_pool.proofs.working.work_at.Goals as goal

pub returns-in-Ok-clause-goes_on : goal.returns-in-Ok-clause-goes_on
returns-in-Ok-clause-goes_on g c =
    let p = c.args.pool.now in
    let a = c.args.helper.now in
    let b : Helper = record a { seat = c.unmark.new.seat } in
    let first = unmark-goes p a b c.args.actor c.requires.own c.unmark.ensures.own refl c.unmark.ensures.unmarked in
    goes-further p a _ _ (goes-further p a b _ first c.turn_beside.ensures.goes_on) c.announce_due.ensures.goes_on

pub returns-in-Err-Busy-clause-goes_on : goal.returns-in-Err-Busy-clause-goes_on
returns-in-Err-Busy-clause-goes_on g c =
    let p = c.args.pool.now in
    let a = c.args.helper.now in
    let b : Helper = record a { seat = c.unmark.new.seat } in
    let first = unmark-goes p a b c.args.actor c.requires.own c.unmark.ensures.own refl c.unmark.ensures.unmarked in
    goes-further p a b _ first c.turn_beside.ensures.goes_on

pub returns-in-Err-NoMemory-clause-goes_on : goal.returns-in-Err-NoMemory-clause-goes_on
returns-in-Err-NoMemory-clause-goes_on g c =
    let p = c.args.pool.now in
    let a = c.args.helper.now in
    let b : Helper = record a { seat = c.unmark.new.seat } in
    let first = unmark-goes p a b c.args.actor c.requires.own c.unmark.ensures.own refl c.unmark.ensures.unmarked in
    goes-further p a b _ first c.turn_beside.ensures.goes_on

pub returns-in-Ok-clause-nones : goal.returns-in-Ok-clause-nones
returns-in-Ok-clause-nones g c =
    let same = ap (λ q. g.S.TicketSource.nones c.args.source.now q) c.turn_beside.ensures.pass in
    omega (arith, same, c.announce_due.ensures.nones)

pub returns-in-Err-Busy-clause-nones : goal.returns-in-Err-Busy-clause-nones
returns-in-Err-Busy-clause-nones g c =
    let same = ap (λ q. g.S.TicketSource.nones c.args.source.now q) c.turn_beside.ensures.pass in
    omega (arith, same)

pub returns-in-Err-NoMemory-clause-nones : goal.returns-in-Err-NoMemory-clause-nones
returns-in-Err-NoMemory-clause-nones g c =
    let same = ap (λ q. g.S.TicketSource.nones c.args.source.now q) c.turn_beside.ensures.pass in
    omega (arith, same)

pub turn_beside-requires-clause-fits : goal.turn_beside-requires-clause-fits
turn_beside-requires-clause-fits g c =
    let p = c.args.pool.now in
    let a = c.args.helper.now in
    let b : Helper = record a { seat = c.unmark.new.seat } in
    goes-fits g.B.Beside.fits g.met.B.Beside.grows p a b _ (unmark-goes p a b c.args.actor c.requires.own c.unmark.ensures.own refl c.unmark.ensures.unmarked) c.requires.fits

pub returns-in-Ok-clause-fits : goal.returns-in-Ok-clause-fits
returns-in-Ok-clause-fits g c = goes-fits g.B.Beside.fits g.met.B.Beside.grows _ _ _ _ c.announce_due.ensures.goes_on c.turn_beside.ensures.fits

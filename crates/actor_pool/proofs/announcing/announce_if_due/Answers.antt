use Rattle.std.proofs.Common.{refl}
use Rattle.actor_pool.specs.declared.helper.Helper.{Helper}
use Rattle.actor_pool.proofs.HelperLemmas.{flag-goes, goes-further}
use Rattle.actor_pool.proofs.announcing.announce_if_due.Goals as goal

pub returns-clause-goes_on : goal.returns-clause-goes_on
returns-clause-goes_on g c =
    let a = c.args.helper.now in
    let b : Helper = record a { seat = c.flag.new.seat } in
    goes-further c.args.pool.now a b _ (flag-goes c.args.pool.now a b c.args.actor c.requires.own c.flag.ensures.own refl c.flag.ensures.flagged) c.announce.ensures.goes_on

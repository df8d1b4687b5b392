use Rattle.steal_pool.proofs.RuleLemmas.{may_take_any}
use Rattle.steal_pool.proofs.StealLemmas.{takes_queued, takes_own, takes_behind}
use Rattle.steal_pool.specs.Passes.{views_of, own_view, other_views}
use Rattle.steal_pool.proofs.stealing.StealPassTicketSource.find.Goals as goal

pub take-requires : goal.take-requires
take-requires g c = record { kept = may_take_any c.takes_turn.new.self }

pub take-requires-2 : goal.take-requires-2
take-requires-2 g c = record { kept = may_take_any c.takes_turn.new.self }

pub returns-in-Some-clause-taken : goal.returns-in-Some-clause-taken
returns-in-Some-clause-taken g c =
    takes_queued
    c.args.pool.now
    c.in-Some.ticket
    (views_of c.args.self.now)
    (views_of c.takes_turn.new.self)
    c.args.helper.now
    c.take_ticket.new.helper
    c.takes_turn.ensures.views
    c.take_ticket.ensures.goes_on
    c.in-Some.ensures.taken

pub returns-then-takes_turn-clause-taken : goal.returns-then-takes_turn-clause-taken
returns-then-takes_turn-clause-taken g c =
    takes_behind
    c.args.pool.now
    c.take.result
    (own_view c.takes_turn.new.self)
    (other_views c.takes_turn.new.self)
    (views_of c.args.self.now)
    _
    c.args.helper.now
    c.take_ticket.new.helper
    c.take_ticket.ensures.goes_on
    c.in_default.ensures.refused
    c.takes_turn.ensures.views
    c.take.ensures.taken
    c.take.ensures.none

pub returns-in-Some-take-clause-taken : goal.returns-in-Some-take-clause-taken
returns-in-Some-take-clause-taken g c =
    takes_own
    c.args.pool.now
    c.in-Some-take.ticket
    (views_of c.args.self.now)
    (views_of c.takes_turn.new.self)
    _
    c.args.helper.now
    c.requires.own
    c.takes_turn.ensures.views
    c.in-Some-take.ensures.taken

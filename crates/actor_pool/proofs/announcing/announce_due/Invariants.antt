use Rattle.std.proofs.Common.{◌≡◌, ◌≤◌}
use Rattle.actor_pool.specs.Helpers.{HelperGoesOn, pass_of, actor_count}
use Rattle.actor_pool.proofs.announcing.announce_due.Given as goal

abbrev pub invariant-loop-actor : goal.invariant-loop-actor
invariant-loop-actor g l = record {
  belongs : g.S.TicketSource.belongs l.source (actor_count l.pool);
  goes_on : HelperGoesOn l.pool l.initial.helper l.helper;
  taken : (pass_of l.helper).taken ≡ (pass_of l.initial.helper).taken;
  took : g.S.TicketSource.took l.source (actor_count l.pool) ≡ g.S.TicketSource.took l.initial.source (actor_count l.pool);
  nones : g.S.TicketSource.nones l.initial.source (pass_of l.initial.helper) ≤ g.S.TicketSource.nones l.source (pass_of l.helper);
}

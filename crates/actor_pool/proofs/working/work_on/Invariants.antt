use Rattle.std.proofs.Common.{◌≤◌}
use Rattle.actor_pool.specs.Beside.{FitsSeen}
use Rattle.actor_pool.specs.Helpers.{seat_of, pass_of, actor_count}
use Rattle.actor_pool.specs.Working.{WorksFrom}
use Rattle.actor_pool.proofs.working.work_on.Given as goal

abbrev pub invariant-loop : goal.invariant-loop
invariant-loop g l = record {
  belongs : g.S.TicketSource.belongs l.source (actor_count l.pool);
  works : WorksFrom l.pool (g.S.TicketSource.took l.initial.source (actor_count l.pool)) (g.S.TicketSource.took l.source (actor_count l.pool)) l.initial.helper l.helper;
  nones : g.S.TicketSource.nones l.initial.source (pass_of l.initial.helper) ≤ g.S.TicketSource.nones l.source (pass_of l.helper);
  fits : FitsSeen g.B.Beside.fits (seat_of l.helper) l.beside;
}

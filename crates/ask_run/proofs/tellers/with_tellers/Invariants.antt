use Rattle.std.proofs.Common.{◌+◌, ◌≤◌, All, length}
use Rattle.pool_run.specs.Running.{IsReady}
use Rattle.ask_run.specs.Tellers.{FitsOn}
use Rattle.ask_run.proofs.tellers.with_tellers.Given as goal

abbrev pub invariant-loop-source : goal.invariant-loop-source
invariant-loop-source g l = record {
  few : length l.sources.items + length l.workers.items ≤ 64;
  belong : All (λ source. g.S.TicketSource.belongs source l.actors) l.sources.items;
  ready : All (IsReady g.S.TicketSource.belongs (FitsOn g.K.OneBoard.cells) l.actors) l.workers.items;
}

abbrev pub decreases-loop-source : goal.decreases-loop-source
decreases-loop-source g l = length l.sources.items

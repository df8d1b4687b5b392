use Rattle.std.proofs.Common.{◌≡◌, ℕ, ◌+◌, All, length}
use Rattle.actor_pool.specs.Helpers.{IsHelperOf, IsFirstHelper, actor_count, seat_of}
use Rattle.pool_run.specs.Parts.{HasTags, IsWorker, worker_helper}
use Rattle.pool_run.specs.Running.{IsReady}
use Rattle.pool_run.proofs.handing.work_parts.Given as goal

abbrev pub invariant-loop-source : goal.invariant-loop-source
invariant-loop-source g l = record {
  own : IsHelperOf l.pool l.helper;
  some : (out : ℕ) × IsFirstHelper l.pool out l.helper;
  first : (out : ℕ) → IsFirstHelper l.pool out l.initial.helper → IsFirstHelper l.pool (out + length l.parts.items) l.helper;
  tags : (seat_of l.helper).tags ≡ (seat_of l.initial.helper).tags;
  count : length l.parts.items + length l.workers.items ≡ length l.fn.workers.items;
  ready : All (IsReady g.S.TicketSource.belongs g.B.Beside.fits (actor_count l.pool)) l.workers.items;
  parts : All (IsWorker l.pool g.S.TicketSource.belongs g.B.Beside.fits) l.parts.items;
  known : All (λ part. HasTags (seat_of l.initial.helper).tags (worker_helper part)) l.parts.items;
}

abbrev pub decreases-loop-source : goal.decreases-loop-source
decreases-loop-source g l = length l.workers.items

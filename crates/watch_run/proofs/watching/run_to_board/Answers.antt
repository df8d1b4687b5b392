use Rattle.std.proofs.Common.{arith}
use Rattle.watch_run.proofs.BoundLemmas.{few_arrivals}
use Rattle.watch_run.proofs.watching.run_to_board.Goals as goal

pub last_board-requires-clause-actors : goal.last_board-requires-clause-actors
last_board-requires-clause-actors g c = omega (arith, c.in_ok-run.ensures.linked.fits_plan.actors, c.requires.typed.few_actors)

pub last_board-requires-clause-few : goal.last_board-requires-clause-few
last_board-requires-clause-few g c = few_arrivals c.args.plan.now c.args.limits c.args.feeds c.in_ok-run.run' c.in_ok-run.ensures.linked

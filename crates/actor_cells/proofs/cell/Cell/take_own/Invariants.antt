use Rattle.actor_cells.proofs.RoundLemmas.{Own}
use Rattle.actor_cells.proofs.cell.Cell.take_own.Given as goal

abbrev pub invariant-loop-taken : goal.invariant-loop-taken
invariant-loop-taken g l = Own l.initial.self l.self l.place l.taken

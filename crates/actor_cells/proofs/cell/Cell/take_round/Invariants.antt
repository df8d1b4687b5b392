use Rattle.actor_cells.proofs.RoundLemmas.{Round}
use Rattle.actor_cells.proofs.cell.Cell.take_round.Given as goal

abbrev pub invariant-loop-place : goal.invariant-loop-place
invariant-loop-place g l = Round l.initial.self l.self l.most l.place l.taken

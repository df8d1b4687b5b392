use Rattle.actor_cells.proofs.RoundLemmas.{noted-kept}
use Rattle.actor_cells.proofs.cell.Cell.note.Goals as goal

pub returns-clause-kept : goal.returns-clause-kept
returns-clause-kept c = noted-kept c.args.self.now c.args.moved c.args.held c.requires.lawful

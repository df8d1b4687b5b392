use Rattle.script_grammar.proofs.WalkLemmas.{noted_separated}
use Rattle.script_faults.proofs.noter.note_separated.Goals as goal

pub returns-clause-gives : goal.returns-clause-gives
returns-clause-gives g c = noted_separated g.N.Noter.after g.N.Noter.reader c.args.mark _ c.args.tokens.now c.note.new.tokens c.note_further.new.tokens c.in_ok-note.ensures.gives c.in_ok-note_further.ensures.gives

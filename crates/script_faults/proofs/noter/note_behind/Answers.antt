use Rattle.script_grammar.proofs.WalkLemmas.{noted_behind}
use Rattle.script_faults.proofs.noter.note_behind.Goals as goal

pub returns-clause-gives : goal.returns-clause-gives
returns-clause-gives g c = noted_behind g.N.Noter.after g.N.Noter.reader c.args.mark _ c.args.tokens.now c.mark_at.new.tokens c.note.new.tokens c.in_ok-mark_at.ensures.gives c.in_ok-note.ensures.gives

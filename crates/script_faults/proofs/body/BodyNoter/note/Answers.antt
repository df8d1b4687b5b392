use Rattle.std.proofs.Common.{refl}
use Rattle.script_faults.proofs.BodyLemmas.{statement_noted}
use Rattle.script_faults.proofs.body.BodyNoter.note.Goals as goal

pub returns-clause-gives : goal.returns-clause-gives
returns-clause-gives c =
    statement_noted c.args.self.now _ c.in_ok-said.said c.note_stopped.new.found c.note_statement.new.found c.note_reply.new.found c.note_statement.new.tokens _ c.note_stopped.ensures c.in_ok-said.ensures.gives
    c.note_reply.ensures.found c.note_reply.ensures.closed refl c.in_ok-note_number.ensures.number refl c.note_number.ensures.found

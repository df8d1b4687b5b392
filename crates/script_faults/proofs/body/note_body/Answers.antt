use Rattle.script_faults.proofs.BodyLemmas.{noted_body}
use Rattle.script_faults.proofs.body.note_body.Goals as goal

pub returns-clause-gives : goal.returns-clause-gives
returns-clause-gives c =
    noted_body c.args.scope.now c.args.patterns c.in_ok-marks.marks c.args.found.now c.note_repeated.new.noter c.note_repeated.new.tokens _ c.in_ok-marks.ensures c.in_ok-note_repeated.ensures.gives

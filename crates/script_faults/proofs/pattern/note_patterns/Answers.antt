use Rattle.std.proofs.Common.{refl}
use Rattle.script_faults.specs.Steps.{Bound, bound_so_far}
use Rattle.script_faults.proofs.PatternLemmas.{noted_patterns}
use Rattle.script_faults.proofs.pattern.note_patterns.Goals as goal

pub returns-clause-gives : goal.returns-clause-gives
returns-clause-gives c =
    let start : Bound = record { messages = c.args.messages.now.decls.now; number = 0; variables = c.new.result; found = c.args.found.now } in
    noted_patterns start (bound_so_far c.note_separated.new.noter) c.note_separated.new.tokens _ refl c.new.ensures c.in_ok-note_separated.ensures.gives

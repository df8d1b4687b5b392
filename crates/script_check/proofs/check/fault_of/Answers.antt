use Rattle.script_check.proofs.CheckLemmas.{first_found, outlined}
use Rattle.script_check.proofs.check.fault_of.Goals as goal

pub first_fault_at-requires : goal.first_fault_at-requires
first_fault_at-requires c = record { outline = outlined c.args.bytes.now c.args.outline.now c.requires.outline c.in_ok-tokens.tokens c.in_ok-tokens.ensures }

pub returns-in-Ok : goal.returns-in-Ok
returns-in-Ok c = first_found c.args.bytes.now c.in_ok-tokens.tokens c.in_ok-tokens.ensures c.in-Ok.found c.in-Ok.ensures.finds

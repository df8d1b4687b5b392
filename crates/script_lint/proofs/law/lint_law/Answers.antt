use Rattle.script_lint.proofs.LawLemmas.{findings_never_fire, idle_kinds_are_never_taken}
use Rattle.script_lint.proofs.law.lint_law.Goals as goal

pub returns-clause-fire : goal.returns-clause-fire
returns-clause-fire c = findings_never_fire

pub returns-clause-taken : goal.returns-clause-taken
returns-clause-taken c = idle_kinds_are_never_taken

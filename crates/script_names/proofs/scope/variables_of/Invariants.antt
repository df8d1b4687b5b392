use Rattle.std.proofs.Common.{◌≡◌, ◌++◌, drop}
use Rattle.script_names.specs.Scope.{variables_from, variables_of}
use Rattle.script_names.proofs.scope.variables_of.Given as goal

abbrev pub invariant-loop-pattern : goal.invariant-loop-pattern
invariant-loop-pattern l =
    l.variables ++ variables_from l.messages.decls.now l.pattern (drop l.pattern l.rule.patterns) ≡ variables_of l.messages.decls.now l.rule

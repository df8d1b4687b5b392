use Rattle.std.proofs.Common.{◌≡◌, ◌++◌, drop}
use Rattle.script_names.specs.Scope.{sorts_of, variables_in}
use Rattle.script_names.proofs.scope.push_variables.Given as goal

abbrev pub invariant-loop-field : goal.invariant-loop-field
invariant-loop-field l =
    let sorts = sorts_of l.messages.decls.now l.decl.kind.name in
    l.variables ++ variables_in l.pattern sorts l.field (drop l.field l.decl.variables) ≡ l.initial.variables ++ variables_in l.pattern sorts 0 l.decl.variables

use Rattle.std.proofs.Common.{◌≡◌, take}
use Rattle.script_names.specs.Scope.{message_rows}
use Rattle.script_names.proofs.scope.Messages.new.Given as goal

abbrev pub invariant-loop-decl : goal.invariant-loop-decl
invariant-loop-decl l = l.names ≡ message_rows (take l.decl-index l.decls)

use Rattle.std.proofs.Common.{◌≡◌, drop}
use Rattle.script_lint.specs.Looked.{looked_all}
use Rattle.script_lint.proofs.linter.look_at_all.Given as goal

-- the actors that are left come to the whole
abbrev pub invariant-loop-actor : goal.invariant-loop-actor
invariant-loop-actor l = looked_all l.linter (drop l.actor-index l.actors) ≡ looked_all l.fn.linter l.actors

use Rattle.std.proofs.Common.{◌≡◌, map, take}
use Rattle.uses.specs.OneActor.{rule_of}
use Rattle.uses.proofs.one_actor.rules_of.Given as goal

abbrev pub invariant-loop-fired : goal.invariant-loop-fired
invariant-loop-fired l = l.rules.items ≡ map rule_of (take l.fired-index l.firings)

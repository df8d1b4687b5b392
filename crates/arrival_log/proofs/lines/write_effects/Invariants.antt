use Rattle.std.proofs.Common.{◌≡◌, ◌++◌, take}
use Rattle.std.specs.List.{flat_map}
use Rattle.arrival_log.specs.LogText.{effect_line}
use Rattle.arrival_log.proofs.lines.write_effects.Given as goal

abbrev pub invariant-loop-effect : goal.invariant-loop-effect
invariant-loop-effect l = l.text ≡ l.initial.text ++ flat_map (effect_line l.plan) (take l.effect-index l.effects)

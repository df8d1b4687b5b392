use Rattle.std.proofs.Common.{◌≡◌, ◌++◌, map, take}
use Rattle.std.specs.Fmt.{decimal}
use Rattle.arrival_log.specs.LogText.{comma_joined}
use Rattle.arrival_log.proofs.parts.write_numbers.Given as goal

abbrev pub invariant-loop-place : goal.invariant-loop-place
invariant-loop-place l = l.text ≡ l.initial.text ++ comma_joined (map (λ n. decimal n) (take l.place l.numbers))

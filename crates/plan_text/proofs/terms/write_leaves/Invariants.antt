use Rattle.std.proofs.Common.{◌≡◌, ◌++◌, take}
use Rattle.std.specs.List.{flat_map}
use Rattle.plan_text.specs.GuardText.{further_leaf}
use Rattle.plan_text.proofs.terms.write_leaves.Given as goal

abbrev pub invariant-loop-signed : goal.invariant-loop-signed
invariant-loop-signed l = l.text ≡ l.initial.text ++ flat_map (further_leaf l.variables) (take l.signed-index l.more)

use Rattle.std.proofs.Common.{◌≡◌, ◌∷◌, ◌++◌, take}
use Rattle.std.specs.List.{flat_map}
use Rattle.join_base.specs.Quoted.{byte_form}
use Rattle.join_base.proofs.quoted.push_quoted.Given as goal

abbrev pub invariant-loop-byte : goal.invariant-loop-byte
invariant-loop-byte l = l.out ≡ l.fn.out ++ 34 ∷ flat_map byte_form (take l.byte-index l.text)

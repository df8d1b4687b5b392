use Rattle.std.proofs.Common.{◌≡◌, ◌++◌, take}
use Rattle.std.specs.List.{flat_map}
use Rattle.reaction_text.specs.ReactionText.{row_text}
use Rattle.reaction_text.proofs.text.write_rows.Given as goal

abbrev pub invariant-loop-place : goal.invariant-loop-place
invariant-loop-place l = l.text ≡ l.initial.text ++ flat_map (row_text l.plan l.fn.version l.all) (take l.place-index l.places)

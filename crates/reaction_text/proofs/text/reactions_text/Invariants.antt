use Rattle.std.proofs.Common.{◌≡◌, take}
use Rattle.std.specs.List.{flat_map}
use Rattle.reaction_text.specs.ReactionText.{reaction_text}
use Rattle.reaction_text.proofs.text.reactions_text.Given as goal

abbrev pub invariant-loop-reaction : goal.invariant-loop-reaction
invariant-loop-reaction l = l.text ≡ flat_map (reaction_text l.plan l.fn.version l.all) (take l.reaction-index l.reactions)

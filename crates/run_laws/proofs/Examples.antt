-- Worked examples, computed by the definitions.
use Rattle.std.proofs.Common.{◌≡◌, ◌∷◌, List, [], Some, None, pos, refl, length}
use Rattle.join_base.specs.declared.message.Value.TheVariants.{Int}
use Rattle.join_base.specs.declared.message.Source.TheVariants.{Feed}
use Rattle.fair_semantics.specs.declared.run.Effect.TheVariants.{Print, Reply}
use Rattle.fair_semantics.specs.declared.run.Entry.{Entry}
use Rattle.fair_semantics.specs.Fair.{fair, fair_run}
use Rattle.fair_semantics.proofs.Examples.{at_most, fed, hits, message, usual}
use Rattle.run_laws.specs.Replies.{replied_in, taken_in, times}

-- the second message of a kind is not taken
one_left : taken_in (fair hits 0 usual 1 (fed (message 0 1) ∷ fed (message 0 2) ∷ fed (message 1 9) ∷ [])).entries ≡ 1 ∷ 3 ∷ []
one_left = refl

-- an actor that may record two arrivals is spent by the third message
two_of_three : length (fair_run hits 0 (at_most 2 65536) 1 (fed (message 0 1) ∷ fed (message 0 2) ∷ fed (message 0 3) ∷ [])).entries ≡ 2
two_of_three = refl

-- a body that replies to its two patterns, the second one first
abbrev answered : List Entry
answered =
    record { number = 1; source = Feed 1; message = message 1 5; stamp = 1; firing = None }
    ∷ record { number = 2; source = Feed 1; message = message 0 4; stamp = 2; firing = Some record { rule = 1; taken = 2 ∷ 1 ∷ []; effects = Reply 1 (Int (pos 5)) ∷ Print [] ∷ Reply 2 (Int (pos 4)) ∷ [] } }
    ∷ []

both : replied_in answered ≡ 1 ∷ 2 ∷ []
both = refl

one_each : times 2 (replied_in answered) ≡ 1
one_each = refl

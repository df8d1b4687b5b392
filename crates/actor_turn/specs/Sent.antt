-- The posts of a firing, on their way to the outboxes of their targets.
use Rattle.std.specs.Prelude.{ℕ, ◌<◌, List, [], ◌∷◌, ◌++◌, Option, None, Some, slice_set}
use Rattle.std.specs.List.{filter_map}
use Rattle.join_base.specs.declared.message.Stamped.{Stamped}
use Rattle.fair_semantics.specs.declared.run.Effect.{Effect}
use Rattle.fair_semantics.specs.declared.run.Effect.TheVariants as effect
use Rattle.actor_turn.specs.Held.{posts_for}

-- the post of an effect, with its target and the stamp
abbrev pub post_of : ℕ → Effect → Option (ℕ × Stamped)
post_of stamp (effect.Print line) = None
post_of stamp (effect.Post target message) = Some (target, record { message = message; stamp = stamp })
post_of stamp (effect.Reply number value) = None

abbrev pub sent_by : ℕ → List Effect → List (ℕ × Stamped)
sent_by stamp effects = filter_map (post_of stamp) effects

-- the outbox with the posts behind those that wait for their targets, one after the other
abbrev pub delivered : List (ℕ × Stamped) → List (List Stamped) → List (List Stamped)
delivered [] outbox = outbox
delivered (sent ∷ more) outbox = delivered more (slice_set outbox sent.0 (posts_for outbox sent.0 ++ sent.1 ∷ []))

-- the target is one of so many actors
abbrev pub IsFor : ℕ → (ℕ × Stamped) → Type 0
IsFor actors sent = sent.0 < actors

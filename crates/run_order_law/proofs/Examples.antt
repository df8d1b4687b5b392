-- Worked examples, computed by the definitions.
use Rattle.std.proofs.Common.{◌≡◌, ℕ, List, [], ◌∷◌, map, None, refl}
use Rattle.join_base.specs.declared.message.Source.{Source}
use Rattle.join_base.specs.declared.message.Source.TheVariants.{Feed, Actor}
use Rattle.fair_semantics.specs.declared.run.Ending.TheVariants.{Running}
use Rattle.fair_semantics.specs.declared.run.Entry.{Entry}
use Rattle.fair_semantics.specs.declared.run.ActorRun.{ActorRun}
use Rattle.run_order_law.specs.Order.{by_stamp}
use Rattle.run_order_law.specs.Order.{order_of, shown}
use Rattle.std.specs.Option.{option_map}
use Rattle.std.proofs.Common.{Some}
use Rattle.fair_semantics.specs.Schedule.{after_schedule, system_at_first}
use Rattle.fair_semantics.proofs.Examples.{at_most, both_ways, first_feed, ping_pong, turns}

-- an arrival of which the number, the stamp and the source matter
abbrev entry : ℕ → ℕ → Source → Entry
entry number stamp source = record { number = number; source = source; message = record { kind = 0; fields = [] }; stamp = stamp; firing = None }

abbrev run_with : List Entry → ActorRun
run_with entries = record { entries = entries; late = []; ending = Running; left = []; partials = 0 }

abbrev steps : List ActorRun → List (ℕ × Source)
steps runs = map (λ (arrival : ℕ × Entry). (arrival.0, arrival.1.source)) (by_stamp runs)

-- two actors that answer each other
abbrev ping : ActorRun
ping = run_with (entry 1 1 (Feed 1) ∷ entry 2 3 (Actor 1) ∷ entry 3 5 (Actor 1) ∷ [])

abbrev pong : ActorRun
pong = run_with (entry 1 2 (Actor 0) ∷ entry 2 4 (Actor 0) ∷ entry 3 6 (Actor 0) ∷ [])

in_turns : steps (ping ∷ pong ∷ []) ≡ (0, Feed 1) ∷ (1, Actor 0) ∷ (0, Actor 1) ∷ (1, Actor 0) ∷ (0, Actor 1) ∷ (1, Actor 0) ∷ []
in_turns = refl

-- of one stamp the lower actor comes first, whatever the place of the arrival in its actor
same_stamp : steps (run_with (entry 1 2 (Actor 1) ∷ []) ∷ run_with (entry 1 1 (Feed 1) ∷ entry 2 2 (Feed 1) ∷ []) ∷ []) ≡ (1, Feed 1) ∷ (0, Actor 1) ∷ (1, Feed 1) ∷ []
same_stamp = refl

-- the run of two actors that answer each other until both are full: its last step is a post that came too late
order_both_ways : order_of ping_pong first_feed both_ways ≡ turns
order_both_ways = refl

shown_both_ways : option_map (shown ping_pong (at_most 3 65536) first_feed) (after_schedule ping_pong (at_most 3 65536) (system_at_first ping_pong first_feed) turns) ≡ Some both_ways
shown_both_ways = refl

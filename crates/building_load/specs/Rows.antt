-- The feed of a hall. Its rows come in groups of three, a motion, a light and a contact in one room; two rows are 10
-- apart in time.
use Rattle.std.specs.Prelude.{ℕ, zero, suc, ◌-◌, ◌*◌, ◌/◌, ◌%◌, List, [], ◌∷◌, pos, map}
use Rattle.join_base.specs.declared.message.Message.{Message}
use Rattle.join_base.specs.declared.message.Value.{Value}
use Rattle.join_base.specs.declared.message.Value.TheVariants.{Int}
use Rattle.fair_semantics.specs.Linked.{numbers_from}
use Rattle.building_load.specs.Building.{contact, light, motion}

abbrev pub int : ℕ → Value
int n = Int (pos n)

-- the group that the row at a place is of
abbrev pub group_of : ℕ → ℕ
group_of place = place / 3

-- seven rooms in turn
abbrev pub room_at : ℕ → ℕ
room_at place = group_of place % 7

-- from 0 to 70 in turn
abbrev pub lux_at : ℕ → ℕ
lux_at place = 10 * (group_of place % 8)

abbrev pub time_at : ℕ → ℕ
time_at place = 10 * place

-- the message at a place, whose place in its group is the first number
abbrev pub message_in : ℕ → ℕ → Message
message_in zero place = record { kind = motion; fields = int (room_at place) ∷ int (time_at place) ∷ [] }
message_in (suc zero) place = record { kind = light; fields = int (room_at place) ∷ int (lux_at place) ∷ int (time_at place) ∷ [] }
message_in (suc (suc n)) place = record { kind = contact; fields = int (room_at place) ∷ int (time_at place) ∷ [] }

-- the row at a place, for an actor
abbrev pub row_at : ℕ → ℕ → (ℕ × Message)
row_at actor place = (actor, message_in (place % 3) place)

-- the posts of a hall, from 1 to 4, which is the actor of the number before
abbrev pub load_feed : ℕ → ℕ → List (ℕ × Message)
load_feed rows hall = map (row_at (hall - 1)) (numbers_from 0 rows)

-- those of the four halls
abbrev pub load_feeds : ℕ → List (List (ℕ × Message))
load_feeds rows = map (load_feed rows) (numbers_from 1 4)

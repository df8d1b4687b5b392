-- The posts of a hall fit the plan.
use Rattle.std.proofs.Common.{◌≡◌, ◌∙◌, ℕ, zero, suc, ◌+◌, ◌-◌, ◌%◌, ◌<◌, ◌≤◌, List, [], ◌∷◌, ◌++◌, map, refl, ap, append_assoc, append-nil, subst, sym, arith}
use Rattle.std.specs.List.{AllByRecursion}
use Rattle.join_base.specs.declared.message.Message.{Message}
use Rattle.fair_semantics.specs.Fits.{MessageFits, PostFits, ValueFits}
use Rattle.fair_semantics.specs.Linked.{numbers_from}
use Rattle.building_load.specs.Building.{load_plan}
use Rattle.building_load.specs.Rows.{int, load_feed, load_feeds, lux_at, message_in, room_at, row_at, time_at}

int_fits : (n : ℕ) → n < 200000 → ValueFits (int n)
int_fits n small = record { sfits = omega arith }

room_small : (place : ℕ) → room_at place < 200000
room_small place = omega arith

lux_small : (place : ℕ) → lux_at place < 200000
lux_small place = omega arith

time_small : (place : ℕ) → place < 20000 → time_at place < 200000
time_small place few = omega arith

message_fits : (k place : ℕ) → place < 20000 → MessageFits load_plan (message_in k place)
message_fits zero place few = record { kind = refl; values = (int_fits (room_at place) (room_small place), (int_fits (time_at place) (time_small place few), tt)) }
message_fits (suc zero) place few =
    record { kind = refl; values = (int_fits (room_at place) (room_small place), (int_fits (lux_at place) (lux_small place), (int_fits (time_at place) (time_small place few), tt))) }
message_fits (suc (suc k)) place few = record { kind = refl; values = (int_fits (room_at place) (room_small place), (int_fits (time_at place) (time_small place few), tt)) }

rows_fit : (actor start n : ℕ) → actor < 5 → start + n ≤ 20000 → AllByRecursion (PostFits load_plan) (map (row_at actor) (numbers_from start n))
rows_fit actor start zero known few = tt
rows_fit actor start (suc n) known few = (record { actor = known; message = message_fits (start % 3) start (omega arith) }, rows_fit actor (start + 1) n known (omega arith))

pub load_feed_fits : (rows hall : ℕ) → rows ≤ 20000 → hall ≤ 4 → AllByRecursion (PostFits load_plan) (load_feed rows hall)
load_feed_fits rows hall few known = rows_fit (hall - 1) 0 rows (omega arith) (omega arith)

pub load_feeds_fit : (rows : ℕ) → rows ≤ 20000 → AllByRecursion (AllByRecursion (PostFits load_plan)) (load_feeds rows)
load_feeds_fit rows few =
    (load_feed_fits rows 1 few (omega arith), (load_feed_fits rows 2 few (omega arith), (load_feed_fits rows 3 few (omega arith), (load_feed_fits rows 4 few (omega arith), tt))))

-- one row more
pub row_more : (actor place rows : ℕ) (before now : List (ℕ × Message)) → place < rows → now ≡ before ++ row_at actor place ∷ []
    → now ++ map (row_at actor) (numbers_from (place + 1) (rows - (place + 1))) ≡ before ++ map (row_at actor) (numbers_from place (rows - place))
row_more actor place rows before now within is =
    let rest : List (ℕ × Message) = map (row_at actor) (numbers_from (place + 1) (rows - (place + 1))) in
    let more : suc (rows - (place + 1)) ≡ rows - place = omega arith in
    ap (λ (xs : List (ℕ × Message)). xs ++ rest) is
    ∙ append_assoc before (row_at actor place ∷ []) rest
    ∙ ap (λ (n : ℕ). before ++ map (row_at actor) (numbers_from place n)) more

-- all rows
pub fed_fit : (rows hall place : ℕ) (posts : List (ℕ × Message)) → rows ≤ 20000 → hall ≤ 4 → rows ≤ place → posts ++ map (row_at (hall - 1)) (numbers_from place (rows - place)) ≡ load_feed rows hall → AllByRecursion (PostFits load_plan) posts
fed_fit rows hall place posts few known all is =
    let none : zero ≡ rows - place = omega arith in
    let whole : posts ≡ load_feed rows hall = sym (append-nil posts) ∙ ap (λ (n : ℕ). posts ++ map (row_at (hall - 1)) (numbers_from place n)) none ∙ is in
    subst (AllByRecursion (PostFits load_plan)) (sym whole) (load_feed_fits rows hall few known)

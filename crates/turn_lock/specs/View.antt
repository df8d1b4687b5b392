-- What a seat knows, and what each kind of step makes of it.
use Rattle.std.specs.Prelude.{◌≡◌, ℕ, zero, suc, ◌+◌, ◌-◌, ◌/◌, nat_le, bit_and, if◌then◌else◌, Bool, true, false, List, [], ◌∷◌, length, slice_index, slice_index_or, slice_set, Option, Some, None}
use mathlib.Core.List.{IsPrefix}
use Rattle.turn_lock.specs.declared.view.View.{View}
use Rattle.turn_lock.specs.declared.view.Changes.{Changes}
use Rattle.turn_lock.specs.declared.view.Turn.{Turn}
use Rattle.turn_lock.specs.declared.view.Turn.TheVariants.{Free, Has}
use Rattle.turn_lock.specs.declared.view.Role.{Role}
use Rattle.turn_lock.specs.declared.view.Role.TheVariants.{First, Other, Spent}

-- the seat was not joined away
abbrev pub is_live : Role → Bool
is_live Other = true
is_live (First out) = true
is_live Spent = false

-- the room that a seat keeps for the list of `close`: the first one has it for n cells
abbrev pub room_for : Role → ℕ → ℕ
room_for (First out) n = n
room_for Other n = 0
room_for Spent n = 0

-- 1 for a seat that is out: it is not the first and was not joined away
abbrev pub out_count : Role → ℕ
out_count Other = 1
out_count (First out) = 0
out_count Spent = 0

-- at a split the first seat's number of seats out rises by 1, and at a join it falls by 1
abbrev pub one_more : Role → Role
one_more (First out) = First (out + 1)
one_more Other = Other
one_more Spent = Spent

abbrev pub one_less : Role → Role
one_less (First out) = First (out - 1)
one_less Other = Other
one_less Spent = Spent

-- the tags that a join step keeps: all, if the first seat knows of a seat out
abbrev pub tags_kept : {G : Type 0} → Role → List G → List G
tags_kept (First zero) tags = []
tags_kept (First (suc out)) tags = tags
tags_kept Other tags = tags
tags_kept Spent tags = tags

-- an empty list for each item
abbrev pub blank : {A B : Type 0} → List A → List (List B)
blank [] = []
blank (x ∷ xs) = [] ∷ blank xs

-- a 0 for each item
abbrev pub zeros : {A : Type 0} → List A → List ℕ
zeros [] = []
zeros (x ∷ xs) = 0 ∷ zeros xs

-- the longer and the shorter of two histories
abbrev pub longer : {E : Type 0} → List E → List E → List E
longer a b = if nat_le (length a) (length b) then b else a

abbrev pub shorter : {E : Type 0} → List E → List E → List E
shorter a b = if nat_le (length a) (length b) then a else b

-- the same cell by cell
abbrev pub each_longer : {E : Type 0} → List (List E) → List (List E) → List (List E)
each_longer [] bs = bs
each_longer (a ∷ more) [] = a ∷ more
each_longer (a ∷ more) (b ∷ bs) = longer a b ∷ each_longer more bs

abbrev pub each_shorter : {E : Type 0} → List (List E) → List (List E) → List (List E)
each_shorter [] bs = []
each_shorter (a ∷ more) [] = [] ∷ each_shorter more []
each_shorter (a ∷ more) (b ∷ bs) = shorter a b ∷ each_shorter more bs

-- 1 where the word has FLAG, and else 0
abbrev pub flag_of : ℕ → ℕ
flag_of word = bit_and word 1

-- 1 where the word has QUEUED, and else 0
abbrev pub mark_of : ℕ → ℕ
mark_of word = bit_and word 4 / 4

-- no bit was changed
abbrev pub no_changes : Changes
no_changes = record { flag_set = 0; flag_cleared = 0; mark_set = 0; mark_cleared = 0 }

-- no bit was changed in a word for each item
abbrev pub unchanged : {A : Type 0} → List A → List Changes
unchanged [] = []
unchanged (x ∷ xs) = no_changes ∷ unchanged xs

-- one more where the bit was not as the step leaves it: a flag, a clear, a mark and an unmark, which found this word
abbrev pub with_flag : ℕ → Changes → Changes
with_flag word c = record c { flag_set = c.flag_set + (1 - flag_of word) }

abbrev pub with_clear : ℕ → Changes → Changes
with_clear word c = record c { flag_cleared = c.flag_cleared + flag_of word }

abbrev pub with_mark : ℕ → Changes → Changes
with_mark word c = record c { mark_set = c.mark_set + (1 - mark_of word) }

abbrev pub with_unmark : ℕ → Changes → Changes
with_unmark word c = record c { mark_cleared = c.mark_cleared + mark_of word }

-- what two seats changed, and the same cell by cell
abbrev pub together : Changes → Changes → Changes
together a b = record { flag_set = a.flag_set + b.flag_set; flag_cleared = a.flag_cleared + b.flag_cleared; mark_set = a.mark_set + b.mark_set; mark_cleared = a.mark_cleared + b.mark_cleared }

abbrev pub each_together : List Changes → List Changes → List Changes
each_together [] bs = bs
each_together (a ∷ more) [] = a ∷ more
each_together (a ∷ more) (b ∷ bs) = together a b ∷ each_together more bs

-- one more at the place i
abbrev pub increased_at : ℕ → List ℕ → List ℕ
increased_at i counts = slice_set counts i (slice_index counts i + 1)

-- the slots that a seat carries: that of its turn, which is empty while the cell is in hand
abbrev pub carried_of : {C E : Type 0} → Turn E → List (ℕ × Option C)
carried_of Free = []
carried_of (Has i log) = (i, None) ∷ []

module _ {G E L : Type 0} where
  -- how many of the seats are out
  abbrev pub seats_out : List (View G E L) → ℕ
  seats_out [] = 0
  seats_out (v ∷ vs) = out_count v.role + seats_out vs

  -- what was seen of the cell i, and what was met of it at a join
  abbrev pub seen_of : View G E L → ℕ → List E
  seen_of v i = slice_index_or v.seen i []

  abbrev pub met_of : View G E L → ℕ → List E
  met_of v i = slice_index_or v.met i []

  -- what was changed in the word of the cell i
  abbrev pub changes_of : View G E L → ℕ → Changes
  changes_of v i = slice_index_or v.changes i no_changes

  -- how many requests for a turn of the cell i are known: how often its FLAG had been set, by all seats, when this seat's latest turn of it began or ended
  abbrev pub requests_of : View G E L → ℕ → ℕ
  requests_of v i = slice_index v.requests i

  -- of each cell, what the first view has seen begins what the second has seen
  abbrev pub HasSeenAll : View G E L → View G E L → Type 0
  HasSeenAll v w = (i : ℕ) → IsPrefix (seen_of v i) (seen_of w i)

  -- the view is of the first seat, with this number of seats out
  abbrev pub IsFirst : ℕ → View G E L → Type 0
  IsFirst out v = v.role ≡ First out

  -- the view is of a seat that was split off
  abbrev pub IsOther : View G E L → Type 0
  IsOther v = v.role ≡ Other

  -- the view holds these tags, and its lists have one place for each
  abbrev pub IsShaped : List G → View G E L → Type 0
  IsShaped tags v = (v.tags ≡ tags) × (length v.seen ≡ length tags) × (length v.met ≡ length tags) × (length v.flags ≡ length tags) × (length v.unmarks ≡ length tags)
      × (length v.clears ≡ length tags) × (length v.changes ≡ length tags) × (length v.requests ≡ length tags)

  -- the view of the first seat of a new lock
  abbrev pub first_view : List G → View G E L
  first_view tags = record { role = First 0; tags = tags; seen = blank tags; met = blank tags; turn = Free; tries = 0; claims = 0; latest = None; flags = zeros tags; unmarks = zeros tags; clears = zeros tags; changes = unchanged tags; requests = zeros tags; found = []; left = [] }

  -- the view of a seat that is split off one with this view: it has seen as much, and did nothing yet
  abbrev pub new_view : View G E L → View G E L
  new_view v = record { role = Other; tags = v.tags; seen = v.seen; met = blank v.tags; turn = Free; tries = 0; claims = 0; latest = None; flags = zeros v.tags; unmarks = zeros v.tags; clears = zeros v.tags; changes = unchanged v.tags; requests = v.requests; found = []; left = [] }

  -- the first seat's view after a split
  abbrev pub with_one_more : View G E L → View G E L
  with_one_more v = record v { role = one_more v.role }

  -- the first seat's view v after w was joined to it: of each cell the longer list is seen and the shorter is met, and what either changed is kept
  abbrev pub joined : View G E L → View G E L → View G E L
  joined v w = record v { role = one_less v.role; seen = each_longer v.seen w.seen; met = each_shorter v.seen w.seen; changes = each_together v.changes w.changes }

  -- the view that the join step itself makes. With no seat out there would be none to join, as the turn rule says, so it is `joined`:
  -- the step that follows finds tags, and tells by them that a seat was out.
  abbrev pub joining : View G E L → View G E L → View G E L
  joining v w = record (joined v w) { tags = tags_kept v.role v.tags }

  -- the view of a seat that was joined away
  abbrev pub spent_view : View G E L
  spent_view = record { role = Spent; tags = []; seen = []; met = []; turn = Free; tries = 0; claims = 0; latest = None; flags = []; unmarks = []; clears = []; changes = []; requests = []; found = []; left = [] }

  -- after a flag at the cell i, which found this word
  abbrev pub flagged : ℕ → ℕ → View G E L → View G E L
  flagged i word v = record v { flags = increased_at i v.flags; changes = slice_set v.changes i (with_flag word (changes_of v i)) }

  -- after a mark at the cell i, which found this word
  abbrev pub marked : ℕ → ℕ → View G E L → View G E L
  marked i word v = record v { tries = v.tries + 1; latest = Some (i, word); changes = slice_set v.changes i (with_mark word (changes_of v i)) }

  -- after a mark at the cell i was taken away, by a step that found this word
  abbrev pub unmarked : ℕ → ℕ → View G E L → View G E L
  unmarked i word v = record v { unmarks = increased_at i v.unmarks; changes = slice_set v.changes i (with_unmark word (changes_of v i)) }

  -- after a claim of the cell i, which found it away, with this word
  abbrev pub refused : ℕ → ℕ → View G E L → View G E L
  refused i word v = record v { tries = v.tries + 1; claims = v.claims + 1; latest = Some (i, word) }

  -- after a claim that got the turn of the cell i, whose history and tally were these, and of whose requests so many had been answered
  abbrev pub claimed : ℕ → ℕ → ℕ → List E → L → View G E L → View G E L
  claimed i word answered log tally v = record v { tries = v.tries + 1; claims = v.claims + 1; latest = Some (i, word); turn = Has i log; requests = slice_set v.requests i answered; found = tally ∷ [] }

  -- after the clear of a turn at the cell i, which found this word: the request that it found is answered
  abbrev pub cleared : ℕ → ℕ → View G E L → View G E L
  cleared i word v = record v { clears = increased_at i v.clears; changes = slice_set v.changes i (with_clear word (changes_of v i)); requests = slice_set v.requests i (requests_of v i + flag_of word) }

  -- after the turn of the cell i was given back, with this history and tally: a request that it found came during the turn
  abbrev pub released : ℕ → ℕ → List E → L → View G E L → View G E L
  released i word log tally v = record v { tries = v.tries + 1; latest = Some (i, word); turn = Free; seen = slice_set v.seen i log; requests = slice_set v.requests i (requests_of v i + flag_of word); left = tally ∷ [] }

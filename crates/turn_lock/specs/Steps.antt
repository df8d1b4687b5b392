-- What a call learns from the steps that it made.
use Rattle.std.specs.Prelude.{◌≡◌, ℕ, ◌+◌, ◌≤◌, List, length}
use mathlib.Core.Option.{some}
use mathlib.Core.List.{IsPrefix}
use lib.ListN.{get_elem?}
use Rattle.turn_lock.specs.declared.view.View.{View}
use Rattle.turn_lock.specs.declared.view.Turn.TheVariants.{Has}
use Rattle.turn_lock.specs.View.{seen_of, changes_of, requests_of, flag_of, mark_of, refused, claimed, cleared, released}
use Rattle.turn_lock.specs.Rule.{IsRunning, IsIdle}

-- the turn of the cell i was got, by a claim and a clear: the cell c is lawful, has its tag, and its history begins with what was seen of it
abbrev pub Gets : {C G E L : Type 0} → (C → G) → (C → Type 0) → (C → List E) → (C → L) → ℕ → View G E L → C → View G E L → Type 0
Gets tag lawful history tally i v c w = ((word : ℕ) × (found : ℕ) × (answered : ℕ) × IsIdle word × (w ≡ cleared i found (claimed i word answered (history c) (tally c) v))) × lawful c × (get_elem? v.tags i ≡ some (tag c)) × IsPrefix (seen_of v i) (history c)

-- the seat has the turn of the cell i, found as c, which has the tag of its place
abbrev pub HasTurn : {C G E L : Type 0} → (C → G) → (C → List E) → ℕ → C → View G E L → Type 0
HasTurn tag history i c v = (v.turn ≡ Has i (history c)) × (get_elem? v.tags i ≡ some (tag c))

-- the turn of the cell i is another seat's, as the word found shows
abbrev pub Misses : {G E L : Type 0} → ℕ → View G E L → ℕ → View G E L → Type 0
Misses i v word w = IsRunning word × (w ≡ refused i word v)

-- the seat has the turn of the cell i, and may give it back with the cell c: lawful, with the tag of its place, and with a history that begins with the one found
abbrev pub MayRelease : {C G E L : Type 0} → (C → G) → (C → Type 0) → (C → List E) → ℕ → View G E L → C → Type 0
MayRelease tag lawful history i v c = lawful c × (get_elem? v.tags i ≡ some (tag c)) × ((log : List _) × (v.turn ≡ Has i log) × IsPrefix log (history c))

-- the turn of the cell i was given back with the cell c, by a step that found this word
abbrev pub GivesBack : {C G E L : Type 0} → (C → List E) → (C → L) → ℕ → View G E L → C → ℕ → View G E L → Type 0
GivesBack history tally i v c word w = w ≡ released i word (history c) (tally c) v

-- between v, in a turn of the cell i, and w, when it was given back: FLAG was set once since the turn began, by whatever seat, or it was not
abbrev pub AskedMeanwhile : {G E L : Type 0} → ℕ → View G E L → View G E L → Type 0
AskedMeanwhile i v w = requests_of w i ≡ requests_of v i + 1

abbrev pub AskedNoMore : {G E L : Type 0} → ℕ → View G E L → View G E L → Type 0
AskedNoMore i v w = requests_of w i ≡ requests_of v i

-- the mark of the cell i was set, or it was there: w is v after a mark
abbrev pub SetsMark : {G E L : Type 0} → ℕ → View G E L → View G E L → Type 0
SetsMark i v w = (changes_of w i).mark_set ≡ (changes_of v i).mark_set + 1

abbrev pub FindsMark : {G E L : Type 0} → ℕ → View G E L → View G E L → Type 0
FindsMark i v w = (changes_of w i).mark_set ≡ (changes_of v i).mark_set

-- these are the cells of the lock in their order: lawful, with their tags, and with histories that begin with what was seen of them
abbrev pub AreBack : {C G E L : Type 0} → (C → G) → (C → Type 0) → (C → List E) → View G E L → List C → Type 0
AreBack tag lawful history v cells = (length cells ≡ length v.tags) × ((i : ℕ) (c : _) → get_elem? cells i ≡ some c → lawful c × (get_elem? v.tags i ≡ some (tag c)) × IsPrefix (seen_of v i) (history c))

-- no other seat is out, so the view v alone accounts for FLAG and QUEUED of the cell i: each was set as often as it was cleared, and once more where the word has it at the end
abbrev pub AccountsAlone : {G E L : Type 0} → View G E L → ℕ → Type 0
AccountsAlone v i =
    (word : ℕ) × ((changes_of v i).flag_set ≡ (changes_of v i).flag_cleared + flag_of word) × ((changes_of v i).mark_set ≡ (changes_of v i).mark_cleared + mark_of word)
    × (requests_of v i ≤ (changes_of v i).flag_set)

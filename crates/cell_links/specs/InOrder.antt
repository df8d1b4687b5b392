-- What a poster keeps.
use Rattle.std.specs.Prelude.{◌≡◌, ℕ, ◌<◌, List, length, slice_index_or}
use Rattle.cell_links.specs.declared.ends.Outward.{Outward}

-- the link at a place goes to the actor of that number
abbrev pub AreInOrder : List Outward → Type 0
AreInOrder outward = (k : ℕ) (d : Outward) → k < length outward → (slice_index_or outward k d).target ≡ k

-- the number at a place is the place
abbrev pub AreCounted : List ℕ → Type 0
AreCounted numbers = (k d : ℕ) → k < length numbers → slice_index_or numbers k d ≡ k

-- The first post where it is kept.
use Rattle.std.specs.Prelude.{◌≡◌, ◌≤◌, List, [], ◌∷◌, length, Option, Some, None}
use Rattle.feed_store.specs.declared.packed_reader.First.{First}
use Rattle.feed_store.specs.Kept.{CanReadAll, Post, post_at}

-- it can be read, and is in front of the others
abbrev pub IsFirst : List Post → Option First → Type 0
IsFirst posts None = posts ≡ []
IsFirst posts (Some first) =
    (length first.marks.now ≤ 8) × (CanReadAll first.marks.now first.integers.now first.words.now
    × (posts ≡ post_at first.head first.marks.now first.integers.now first.words.now ∷ first.rest))

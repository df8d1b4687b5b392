-- What the arrivals of an actor come to.
use Rattle.std.specs.Prelude.{List, Option, length, map}
use Rattle.fair_semantics.specs.declared.run.Entry.{Entry}
use Rattle.fair_semantics.specs.declared.run.Firing.{Firing}
use Rattle.actor_turn.specs.Counts.{fired_among, posts_among}
use Rattle.live_board.specs.declared.totals.Totals.{Totals}

-- how many there are, how many of them fired, and the posts that they made, which are counted to the last number of 64
-- bits
abbrev pub totals_among : List (Option Firing) → Totals
totals_among fired = record {
  arrivals = length fired;
  firings = fired_among fired;
  posts = posts_among fired;
}

abbrev pub totals_of : List Entry → Totals
totals_of entries = totals_among (map (λ entry. entry.firing) entries)

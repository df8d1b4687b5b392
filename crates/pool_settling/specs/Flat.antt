-- The links of all cells and posters, one after the other.
use Rattle.std.specs.Prelude.{ℕ, ◌+◌, List, [], ◌∷◌, ◌++◌, length, map}
use Rattle.std.specs.List.{sum_by}
use Rattle.join_base.specs.declared.message.Source.{Source}
use Rattle.join_base.specs.declared.message.Source.TheVariants.{Feed, Actor}
use Rattle.actor_turn.specs.Held.{Held}
use Rattle.cell_links.specs.declared.ends.Inward.{Inward}
use Rattle.cell_links.specs.declared.ends.Outward.{Outward}
use Rattle.cell_links.specs.declared.feed_links.FeedLinks.{FeedLinks}
use Rattle.cell_links.specs.Ends.{poster_links}
use Rattle.actor_cells.specs.declared.cell.Cell.{Cell}
use Rattle.actor_cells.specs.Lawful.{held_in}
use Rattle.settling_law.specs.Settled.{went}
use Rattle.pool_settling.specs.declared.ends.Sender.{Sender}
use Rattle.pool_settling.specs.declared.ends.Receiver.{Receiver}
use Rattle.pool_settling.specs.Ends.{came_count}

abbrev pub receiver_of : ℕ → Inward → Receiver
receiver_of target w = record { source = w.source; target = target; link = w.link }

abbrev pub sender_of : Source → Outward → Sender
sender_of source w = record { source = source; target = w.target; link = w.link }

-- the receivers and senders of cells that are numbered from i on
abbrev pub receivers_from : ℕ → List Cell → List Receiver
receivers_from i [] = []
receivers_from i (c ∷ cells) = map (receiver_of i) c.inward.items ++ receivers_from (i + 1) cells

abbrev pub senders_from : ℕ → List Cell → List Sender
senders_from i [] = []
senders_from i (c ∷ cells) = map (sender_of (Actor i)) c.outward.items ++ senders_from (i + 1) cells

-- the senders of posters whose feeds are numbered from k on
abbrev pub fed_from : ℕ → List FeedLinks → List Sender
fed_from k [] = []
fed_from k (p ∷ posters) = map (sender_of (Feed k)) (poster_links p) ++ fed_from (k + 1) posters

-- how many messages went over the links to cells, and how many of them came
abbrev pub went_count : List FeedLinks → List Cell → ℕ
went_count posters cells = sum_by (λ (r : Receiver). length (went posters cells r.source r.target)) (receivers_from 0 cells)

abbrev pub received_count : List Cell → ℕ
received_count cells = came_count (receivers_from 0 cells)

abbrev pub actors_in : List Cell → List Held
actors_in cells = map held_in cells

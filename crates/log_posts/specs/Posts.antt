-- The posts that entries make, each with the stamp of the line that was read at its place.
use Rattle.std.specs.Prelude.{ℕ, List, [], ◌∷◌, Bool, false, Option, None, Some}
use Rattle.std.specs.List.{flat_map}
use Rattle.join_base.specs.declared.message.Message.{Message}
use Rattle.join_base.specs.declared.message.Stamped.{Stamped}
use Rattle.fair_semantics.specs.declared.run.Entry.{Entry}
use Rattle.fair_semantics.specs.Linked.{entry_posts}
use Rattle.log_posts.specs.Same.{same_message}

abbrev pub stamped_anew : Entry → ℕ → Entry
stamped_anew entry stamp = record entry { stamp = stamp }

-- the entries with the stamps of the arrival lines at their places
abbrev pub stamped_as : List Entry → List Entry → List Entry
stamped_as [] lines = []
stamped_as (entry ∷ more) [] = entry ∷ more
stamped_as (entry ∷ more) (line ∷ lines) = stamped_anew entry line.stamp ∷ stamped_as more lines

abbrev pub line_stamp : Option Entry → ℕ → ℕ
line_stamp None stamp = stamp
line_stamp (Some line) stamp = line.stamp

-- the posts to an actor by the entries that were made, each with the stamp of the line that was read at its place
abbrev pub link_posts : ℕ → List Entry → List Entry → List Stamped
link_posts to made lines = flat_map (entry_posts to) (stamped_as made lines)

abbrev pub has_message : Option Stamped → Message → Bool
has_message None message = false
has_message (Some post) message = same_message post.message message

-- The state that a mailbox shows with the firings of its arrivals.
use Rattle.std.specs.Prelude.{◌≡◌, ℕ, ◌+◌, List, [], ◌∷◌, length, map, nat_lt, Bool, None, Option, if◌then◌else◌}
use Rattle.std.specs.List.{filter, AllByRecursion}
use Rattle.mailbox_core.specs.Mail.{Mail, Received, with_live}
use Rattle.match_tree.specs.Tree.{Tree, is_path_without, with_paths}
use Rattle.tree_law.specs.Trees.{AreKeptAt, AreSettled, HasOnce, cleared_tree, expired_tree, path_count}
use Rattle.fair_semantics.specs.declared.run.Ending.{Ending}
use Rattle.fair_semantics.specs.declared.run.Ending.TheVariants as ending
use Rattle.fair_semantics.specs.declared.run.Outcome.{Outcome}
use Rattle.fair_semantics.specs.declared.run.Outcome.TheVariants as outcome
use Rattle.fair_semantics.specs.declared.run.Entry.{Entry}
use Rattle.fair_semantics.specs.declared.run.Firing.{Firing}
use Rattle.fair_semantics.specs.Step.{State}
use Rattle.actor_turn.specs.Held.{History, as_sent}

-- the arrivals, of which the first has this number, each with its firing
abbrev pub entries_of : ℕ → List Received → List (Option Firing) → List Entry
entries_of from [] firings = []
entries_of from (arrival ∷ arrivals) [] = []
entries_of from (arrival ∷ arrivals) (firing ∷ firings) =
    record { number = from; source = arrival.source; message = arrival.message; stamp = arrival.stamp; firing = firing } ∷ entries_of (from + 1) arrivals firings

abbrev pub state_of : Mail → List (Option Firing) → Ending → State
state_of mail firings end = record { entries = entries_of 1 mail.arrivals firings; live = mail.live; ending = end; late = mail.late }

-- the arrivals as a history has them
abbrev pub history_in : List Received → History
history_in arrivals = map (λ arrival. as_sent arrival.source arrival.message arrival.came) arrivals

-- a firing or none for each arrival
abbrev pub AreFired : Mail → List (Option Firing) → Type 0
AreFired mail firings = length firings ≡ length mail.arrivals

-- the paths that are still seen once the number is recorded and take none of these numbers stay
abbrev pub fired_at : ℕ → List ℕ → Tree → Tree
fired_at number taken tree = with_paths tree (filter (is_path_without taken) (expired_tree number tree).paths) None

-- a keep that leaves more paths than an actor may have clears the trees and jams it; any other leaves the kept trees
pub record IsKeptIn (over : Bool) (kept after : List Tree) (before_mail after_mail : Mail) (before_end after_end : Ending) (out : Outcome) : Type 0 where
  pub trees : after ≡ (if over then map cleared_tree kept else kept)
  pub mail : after_mail ≡ (if over then with_live before_mail [] else before_mail)
  pub end : after_end ≡ (if over then ending.Jammed else before_end)
  pub outcome : out ≡ (if over then outcome.Jammed else outcome.Kept)

-- the trees keep the message with the number, if they then have at most so many paths
pub record Keeps (number most : ℕ) (before after : List Tree) (before_mail after_mail : Mail) (before_end after_end : Ending) (out : Outcome) : Type 0 where
  pub kept : List Tree
  pub are : AreKeptAt number before kept
  pub settled : AreSettled kept
  pub once : AllByRecursion HasOnce kept
  pub left : IsKeptIn (nat_lt most (path_count kept)) kept after before_mail after_mail before_end after_end out

-- The trees of an actor: one for each definition, which holds its partial matches.
use Rattle.std.specs.Prelude.{◌≡◌, ◌≤◌, ℕ, ◌+◌, List, [], ◌∷◌, ◌++◌, length, Option, None, Some, MatchOption}
use Rattle.std.specs.List.{filter, AllByRecursion}
use Rattle.join_base.specs.declared.message.Message.{Message}
use Rattle.pattern_core.specs.declared.definition.Definition.{Definition}
use Rattle.pattern_core.specs.declared.candidate.Candidate.{Candidate}
use Rattle.pattern_core.specs.Choice.{lesser_of}
use Rattle.pattern_core.specs.Matches.{partial_matches}
use Rattle.pattern_core.specs.Window.{SeesLatest, oldest_seen}
use Rattle.match_tree.specs.Tree.{Tree, AreOnce, Reserve, SameMembers, IsReserved, seen_paths, is_path_seen, is_path_without, empty_of, offer_to, with_paths}
use Rattle.value_index.specs.Index.{Index}
use Rattle.row_screens.specs.Offering.{AreIndexed, CanOffer}
use Rattle.match_tree.specs.Tries.{tries}
use Rattle.tree_law.specs.Partials.{ArePartial, NoneWaits, offer_more}

-- the paths are the partial matches, and no complete match waits
pub record Holds (messages : List Message) (live : List ℕ) (tree : Tree) : Type 0 where
  pub some : 1 ≤ length tree.definition.patterns
  pub sees : SeesLatest tree.definition.window
  pub partial : ArePartial messages live tree.definition tree.paths
  pub none : NoneWaits messages live tree.definition

abbrev pub HoldAll : List Message → List ℕ → List Tree → Type 0
HoldAll messages live trees = AllByRecursion (Holds messages live) trees

-- a tree for each definition, of which the first has this number
abbrev pub AreTreesOf : ℕ → List Definition → List Tree → Type 0
AreTreesOf rule [] [] = Unit {0}
AreTreesOf rule [] (tree ∷ trees) = ⊥
AreTreesOf rule (definition ∷ definitions) [] = ⊥
AreTreesOf rule (definition ∷ definitions) (tree ∷ trees) = (tree.definition ≡ definition) × (tree.rule ≡ rule) × AreTreesOf (rule + 1) definitions trees

-- the tree has a reserve for a further message
abbrev pub IsReservedFor : List Message → Message → Tree → Type 0
IsReservedFor messages message tree = IsReserved (offer_more messages message tree.definition tree.rule) tree.paths tree.reserve

abbrev pub AreReservedFor : List Message → Message → List Tree → Type 0
AreReservedFor messages message trees = AllByRecursion (IsReservedFor messages message) trees

abbrev pub reserve_best : Option Reserve → Option Candidate
reserve_best None = None
reserve_best (Some reserve) = reserve.best

-- the least of the matches that the reserves have found
abbrev pub best_of : List Tree → Option Candidate
best_of [] = None
best_of (tree ∷ trees) = lesser_of (reserve_best tree.reserve) (best_of trees)

-- ---- one tree after a step

-- the paths that are still seen stay, and those that were set aside join them
pub record KeepsSeenPaths (messages : List Message) (message : Message) (before after : Tree) : Type 0 where
  pub definition : after.definition ≡ before.definition
  pub rule : after.rule ≡ before.rule
  pub reserve : Reserve
  pub had : before.reserve ≡ Some reserve
  pub paths : SameMembers after.paths (seen_paths (offer_more messages message before.definition before.rule) before.paths ++ reserve.aside)

-- the paths that are still seen and take none of the numbers stay
abbrev pub fired_tree : List Message → Message → List ℕ → Tree → Tree
fired_tree messages message taken tree = with_paths tree (filter (is_path_without taken) (seen_paths (offer_more messages message tree.definition tree.rule) tree.paths)) None

-- the empty path alone is left
abbrev pub cleared_tree : Tree → Tree
cleared_tree tree = with_paths tree (empty_of tree.definition ∷ []) None

-- ---- all trees

abbrev pub path_count : List Tree → ℕ
path_count [] = 0
path_count (tree ∷ trees) = length tree.paths + path_count trees

-- how often a further message may be tried at the partial matches of the definitions, of which the first has this number
abbrev pub tries_from : List Message → Message → List ℕ → ℕ → List Definition → ℕ
tries_from messages message live rule [] = 0
tries_from messages message live rule (definition ∷ definitions) =
    tries (offer_more messages message definition rule) (partial_matches messages live definition) + tries_from messages message live (rule + 1) definitions

-- each tree keeps the further message
abbrev pub AreKept : List Message → Message → List Tree → List Tree → Type 0
AreKept messages message [] [] = Unit {0}
AreKept messages message [] (after ∷ afters) = ⊥
AreKept messages message (before ∷ befores) [] = ⊥
AreKept messages message (before ∷ befores) (after ∷ afters) = KeepsSeenPaths messages message before after × AreKept messages message befores afters

-- nothing is set aside
abbrev pub AreSettled : List Tree → Type 0
AreSettled trees = AllByRecursion (λ tree. tree.reserve ≡ None) trees

-- the tree with nothing set aside
abbrev pub settled_tree : Tree → Tree
settled_tree tree = with_paths tree tree.paths None

-- the paths that take none of the numbers stay
abbrev pub pruned_tree : List ℕ → Tree → Tree
pruned_tree numbers tree = with_paths tree (filter (is_path_without numbers) tree.paths) None

-- the tree has a reserve for the number of the last of these messages
abbrev pub IsReservedAt : List Message → ℕ → Tree → Type 0
IsReservedAt messages number tree = IsReserved (offer_to tree messages number) tree.paths tree.reserve

-- the index has the numbers of the tree's paths
abbrev pub HasPaths : Index → List Message → Tree → Type 0
HasPaths index messages tree = AllByRecursion (AreIndexed index messages) tree.paths

-- the number may be offered to each path of the tree
abbrev pub CanOfferTo : List Message → ℕ → Tree → Type 0
CanOfferTo messages number tree = AllByRecursion (CanOffer (offer_to tree messages number)) tree.paths

abbrev pub tries_at : List Message → ℕ → List Tree → ℕ
tries_at messages number [] = 0
tries_at messages number (tree ∷ trees) = tries (offer_to tree messages number) tree.paths + tries_at messages number trees

-- no path of the tree stands twice
abbrev pub HasOnce : Tree → Type 0
HasOnce tree = AreOnce tree.paths

-- the tree with the paths that its definition sees once the number is recorded
abbrev pub expired_tree : ℕ → Tree → Tree
expired_tree number tree = with_paths tree (filter (is_path_seen (oldest_seen tree.definition.window number)) tree.paths) tree.reserve

-- the tree has a reserve for the number, and its definition sees the number once it is recorded
pub record HasReserve (number : ℕ) (tree : Tree) : Type 0 where
  pub reserved : MatchOption tree.reserve ⊥ (λ reserve. reserve.number ≡ number)
  pub sees : oldest_seen tree.definition.window number ≤ number

-- the paths that are still seen stay, and those that were set aside join them
pub record IsKeptAt (number : ℕ) (before after : Tree) : Type 0 where
  pub definition : after.definition ≡ before.definition
  pub rule : after.rule ≡ before.rule
  pub reserve : Reserve
  pub had : before.reserve ≡ Some reserve
  pub paths : SameMembers after.paths ((expired_tree number before).paths ++ reserve.aside)

abbrev pub AreKeptAt : ℕ → List Tree → List Tree → Type 0
AreKeptAt number [] [] = Unit {0}
AreKeptAt number [] (after ∷ afters) = ⊥
AreKeptAt number (before ∷ befores) [] = ⊥
AreKeptAt number (before ∷ befores) (after ∷ afters) = IsKeptAt number before after × AreKeptAt number befores afters

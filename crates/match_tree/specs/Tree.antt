-- The partial matches of a definition that are kept, and what a reserve has set aside.
use Rattle.std.specs.Prelude.{◌≡◌, ℕ, List, [], ◌∷◌, map, length, replicate, Bool, true, not, nat_le, Option, Some, None}
use Rattle.std.specs.List.{filter, flat_map, list_all}
use Rattle.join_base.specs.declared.message.Message.{Message}
use Rattle.guard_eval.specs.Meaning.{Assignment}
use Rattle.pattern_core.specs.declared.definition.Definition.{Definition}
use Rattle.pattern_core.specs.declared.candidate.Candidate.{Candidate}
use Rattle.pattern_core.specs.Members.{IsIn}
use Rattle.pattern_core.specs.Choice.{least}
use Rattle.pattern_core.specs.Window.{oldest_seen}
use Rattle.value_index.specs.Index.{no_index}
use Rattle.tree_rows.specs.Routes.{with_number}
use Rattle.join_base.specs.Taken.{contains_number}
use Rattle.row_screens.specs.Offers.{Offered, growing, matches_at}

-- what a reserve for a number has found: the least match that the number completes, and the paths that it adds
pub record Reserve : Type 0 where
  pub number : ℕ
  pub best : Option Candidate
  pub aside : List Assignment

-- a definition and its number, the paths that are kept, and what was set aside
pub record Tree : Type 0 where
  pub definition : Definition
  pub rule : ℕ
  pub paths : List Assignment
  pub reserve : Option Reserve

abbrev pub empty_of : Definition → Assignment
empty_of definition = replicate (length definition.patterns) None

-- a number of these messages, offered to the paths of a tree
abbrev pub offer_to : Tree → List Message → ℕ → Offered
offer_to tree messages number = record { messages = messages; index = no_index; definition = tree.definition; rule = tree.rule; number = number; oldest = oldest_seen tree.definition.window number }

abbrev pub is_slot_seen : ℕ → Option ℕ → Bool
is_slot_seen oldest None = true
is_slot_seen oldest (Some n) = nat_le oldest n

-- the path takes no number before the oldest
abbrev pub is_path_seen : ℕ → Assignment → Bool
is_path_seen oldest path = list_all (is_slot_seen oldest) path

-- the paths that the definition sees once the number is recorded
abbrev pub seen_paths : Offered → List Assignment → List Assignment
seen_paths o paths = filter (is_path_seen o.oldest) paths

-- the extensions of the paths by the number that are agreeable and leave a pattern empty
abbrev pub extensions : Offered → List Assignment → List Assignment
extensions o paths = flat_map (λ path. map (λ p. with_number path p o.number) (growing o path)) paths

-- the complete matches among the extensions of the paths by the number
abbrev pub completions : Offered → List Assignment → List Candidate
completions o paths = flat_map (matches_at o) paths

abbrev pub is_slot_without : List ℕ → Option ℕ → Bool
is_slot_without numbers None = true
is_slot_without numbers (Some n) = not (contains_number numbers n)

-- the path takes none of the numbers
abbrev pub is_path_without : List ℕ → Assignment → Bool
is_path_without numbers path = list_all (is_slot_without numbers) path

-- two lists with the same members
pub record SameMembers {X : Type 0} (xs ys : List X) : Type 0 where
  pub to : (x : X) → IsIn x xs → IsIn x ys
  pub back : (x : X) → IsIn x ys → IsIn x xs

-- a reserve for the offered number: it has the least match that the number completes, and where there is none it has set aside the extensions
abbrev pub IsReserved : Offered → List Assignment → Option Reserve → Type 0
IsReserved o paths None = ⊥
IsReserved o paths (Some reserve) =
    (reserve.number ≡ o.number)
    × (reserve.best ≡ least (completions o (seen_paths o paths)))
    × (reserve.best ≡ None → SameMembers reserve.aside (extensions o (seen_paths o paths)))

-- the tree with other paths and another reserve
abbrev pub with_paths : Tree → List Assignment → Option Reserve → Tree
with_paths tree paths reserve = record { definition = tree.definition; rule = tree.rule; paths = paths; reserve = reserve }

-- nothing stands twice
abbrev pub AreOnce : {X : Type 0} → List X → Type 0
AreOnce [] = Unit {0}
AreOnce (x ∷ xs) = (¬ IsIn x xs) × AreOnce xs

-- Which asks a board has, which views are of it, and how an ask is answered.
use Rattle.std.specs.Prelude.{◌≡◌, ◌≢◌, ◌≤◌, ◌<◌, ◌==◌, ℕ, Bool, true, false, List, Option, Some, None, Result, Ok, Err, IsSome, IfSome, length, slice_get, option_map}
use Rattle.std.specs.List.{count_by}
use Rattle.std.specs.Option.{IsSomeAnd}
use Rattle.join_base.specs.declared.message.Message.{Message}
use Rattle.join_base.specs.declared.message.Value.{Value}
use Rattle.ask_board.specs.declared.view.Ask.{Ask}
use Rattle.ask_board.specs.declared.view.AskView.{AskView}
use Rattle.ask_board.specs.declared.board.AskBoard.{AskBoard}
use Rattle.ask_board.specs.declared.board.AnswerFault.{AnswerFault}
use Rattle.ask_board.specs.declared.board.AnswerFault.TheVariants.{Differs, NoMemory}
use Rattle.once_cell.specs.Once.{cell_name}
use Rattle.ask_board.specs.Rows.{Rows, from_one, item_of, map_rows}
use Rattle.ask_board.specs.View.{known_of, noted_cells}

-- the names of the cells
abbrev pub cells_of : AskBoard → Rows ℕ
cells_of board = map_rows cell_name board.cells

abbrev pub HasAsk : AskBoard → Ask → Type 0
HasAsk board ask = IsSome (item_of board.cells ask)

-- how many of the posts are to an actor
abbrev pub posts_to : ℕ → List (ℕ × Message) → ℕ
posts_to actor posts = count_by (λ (post : ℕ × Message). post.0 == actor) posts

-- the ask is of a post of the feeds to one of so many actors
abbrev pub IsPost : List (List (ℕ × Message)) → ℕ → Ask → Type 0
IsPost feeds actors ask = (ask.actor < actors) × IsSomeAnd (from_one feeds ask.feed) (λ posts. (1 ≤ ask.place) × (ask.place ≤ posts_to ask.actor posts))

-- for each of so many actors as many cells as there are posts to it
pub record AreCellsOf {C : Type 0} (actors : ℕ) (posts : List (ℕ × Message)) (cells : List (List C)) : Type 0 where
  pub rows : length cells ≡ actors
  pub counts : (actor : ℕ) → actor < actors → option_map length (slice_get cells actor) ≡ Some (posts_to actor posts)

abbrev pub IsViewOf : AskBoard → AskView → Type 0
IsViewOf board view = noted_cells view ≡ cells_of board

abbrev pub KnowsNothing : AskView → Type 0
KnowsNothing view = (ask : Ask) → known_of view ask ≡ None

-- a value that was known is known
abbrev pub StaysKnown : Option Value → Option Value → Type 0
StaysKnown before after = IfSome before (λ value. after ≡ Some value)

-- the view knows a value, and it is not this one
abbrev pub KnowsAnother : Option Value → Value → Type 0
KnowsAnother known value = IsSomeAnd known (λ other. other ≢ value)

abbrev pub handed_back : AnswerFault → Value
handed_back (Differs value) = value
handed_back (NoMemory value) = value

-- whether the answer was refused since the ask has another value
abbrev pub differs : Result (Unit {0}) AnswerFault → Bool
differs (Ok done) = false
differs (Err (Differs value)) = true
differs (Err (NoMemory value)) = false

abbrev pub has_no_memory : Result (Unit {0}) AnswerFault → Bool
has_no_memory (Ok done) = false
has_no_memory (Err (Differs value)) = false
has_no_memory (Err (NoMemory value)) = true

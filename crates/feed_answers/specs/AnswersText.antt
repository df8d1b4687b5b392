-- The answers of all rows as text: feed by feed and row by row a line for each row that has one.
use Rattle.std.specs.Prelude.{ℕ, ◌+◌, List, [], ◌∷◌, ◌++◌, Option, None, Some, codes, length, map}
use Rattle.std.specs.List.{flat_map}
use Rattle.std.specs.Fmt.{decimal, signed_decimal}
use Rattle.join_base.specs.Quoted.{quoted}
use Rattle.join_base.specs.declared.message.Value.{Value}
use Rattle.join_base.specs.declared.message.Value.TheVariants.{Int, Words}
use Rattle.join_base.specs.declared.message.Message.{Message}
use Rattle.fair_semantics.specs.declared.run.ActorRun.{ActorRun}
use Rattle.fair_semantics.specs.declared.run.Run.{Run}
use Rattle.fair_semantics.specs.Linked.{numbers_from}
use Rattle.feed_answers.specs.Answers.{row_answer, targets_of}

-- a value as a log has it
abbrev pub value_text : Value → List ℕ
value_text (Int n) = signed_decimal n
value_text (Words bytes) = quoted bytes

-- `answer feed K row R`
abbrev pub row_text : ℕ → ℕ → List ℕ
row_text feed row = codes "answer feed " ++ (decimal feed ++ (codes " row " ++ decimal row))

-- `answer feed K row R VALUE` and LF, where the row has an answer
abbrev pub answer_line : ℕ → ℕ → Option Value → List ℕ
answer_line feed row None = []
answer_line feed row (Some value) = row_text feed row ++ (codes " " ++ (value_text value ++ 10 ∷ []))

-- the lines of a feed, row by row
abbrev pub feed_lines : List ActorRun → ℕ → List ℕ → List ℕ
feed_lines runs feed targets = flat_map (λ row. answer_line feed row (row_answer runs feed targets row)) (numbers_from 1 (length targets))

-- the lines of the feeds from this number on
abbrev pub lines_from : List ActorRun → ℕ → List (List ℕ) → List ℕ
lines_from runs feed [] = []
lines_from runs feed (targets ∷ feeds) = feed_lines runs feed targets ++ lines_from runs (feed + 1) feeds

-- the answers that a run gives to the rows of its feeds
abbrev pub answers_text : Run → List (List (ℕ × Message)) → List ℕ
answers_text run feeds = lines_from run.actors 1 (map targets_of feeds)

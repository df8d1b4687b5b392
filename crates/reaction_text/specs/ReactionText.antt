-- The text of the reactions of a run. For each the lines of the log that its arrival has, behind the actor's name, then a
-- line for each of the first rows that led to it, and one that counts the others.
use Rattle.std.specs.Prelude.{◌≡◌, ℕ, List, [], ◌∷◌, ◌++◌, ◌==◌, codes, Option, None, Some, slice_get, if◌then◌else◌}
use Rattle.std.specs.List.{flat_map}
use Rattle.std.specs.Fmt.{decimal}
use Rattle.script_types.specs.declared.plan.Plan.{Plan}
use Rattle.script_types.specs.Names.{name_of_actor}
use Rattle.fair_semantics.specs.declared.run.Entry.{Entry}
use Rattle.fair_semantics.specs.declared.run.Run.{Run}
use Rattle.arrival_log.specs.LogText.{entry_lines}
use Rattle.feed_causes.specs.declared.reaction.Reaction.{Reaction}
use Rattle.feed_causes.specs.Causes.{Arrived, arrivals}
use Rattle.feed_causes.specs.Reactions.{AreReactions}

-- an entry without what it fired
abbrev pub unfired : Entry → Entry
unfired entry = record entry { firing = None }

-- `ACTOR ` and the lines of the log that an arrival has: its own, that of its firing, and those of the effects
abbrev pub fired_lines : Plan → ℕ → Arrived → List ℕ
fired_lines plan version arrival = name_of_actor plan arrival.0 ++ (32 ∷ entry_lines plan version arrival.1)

-- `row ACTOR ` and the line of the log that an arrival has without what it fired
abbrev pub row_line : Plan → ℕ → Arrived → List ℕ
row_line plan version arrival = codes "row " ++ fired_lines plan version (arrival.0, unfired arrival.1)

abbrev pub fired_by : Plan → ℕ → Option Arrived → List ℕ
fired_by plan version None = []
fired_by plan version (Some arrival) = fired_lines plan version arrival

abbrev pub row_by : Plan → ℕ → Option Arrived → List ℕ
row_by plan version None = []
row_by plan version (Some arrival) = row_line plan version arrival

-- that of the arrival at a place
abbrev pub row_text : Plan → ℕ → List Arrived → ℕ → List ℕ
row_text plan version all place = row_by plan version (slice_get all place)

-- `more rows N`, where there are more
abbrev pub more_line : ℕ → List ℕ
more_line more = if more == 0 then [] else codes "more rows " ++ (decimal more ++ 10 ∷ [])

abbrev pub reaction_text : Plan → ℕ → List Arrived → Reaction → List ℕ
reaction_text plan version all reaction =
    fired_by plan version (slice_get all reaction.place) ++ (flat_map (row_text plan version all) reaction.first ++ more_line reaction.more)

-- the text of the reactions of a run: those of one actor, or of each where none is named
pub record IsReactionsText (plan : Plan) (run : Run) (only : Option ℕ) (text : List ℕ) : Type 0 where
  pub reactions : List Reaction
  pub are : AreReactions (arrivals run) only reactions
  pub is : text ≡ flat_map (reaction_text plan run.version (arrivals run)) reactions

-- What stands in a log where it is not that of its feeds, and what should have come there.
use Rattle.std.specs.Prelude.{ℕ, ◌-◌, List, [], ◌∷◌, ◌++◌, Option, None, Some, codes, slice_get}
use Rattle.std.specs.Borrow.{Bor}
use Rattle.std.specs.Option.{option_and_then}
use Rattle.join_base.specs.declared.message.Message.{Message}
use Rattle.script_types.specs.declared.plan.Plan.{Plan}
use Rattle.script_types.specs.Names.{name_of_actor}
use Rattle.arrival_log.specs.LogText.{message_text}
use Rattle.log_reader.specs.Places.{whole_lines}
use Rattle.log_audit.specs.declared.refusal.Difference.{Difference}
use Rattle.log_audit.specs.Wrong.{Feeds}

-- `log LINE`, or nothing where there is no such line
abbrev pub stands_text : Option (List ℕ) → List ℕ
stands_text None = []
stands_text (Some line) = codes "log " ++ (line ++ 10 ∷ [])

-- the post of a row of a feed; both are counted from 1
abbrev pub post_at : Feeds → ℕ → Option ℕ → Option (ℕ × Message)
post_at feeds feed None = None
post_at feeds feed (Some row) = option_and_then (λ (posts : List (ℕ × Message)). slice_get posts (row - 1)) (slice_get feeds (feed - 1))

-- the post behind a reference
abbrev pub post_in : Bor (ℕ × Message) → ℕ × Message
post_in post = post.now

-- `row ACTOR KIND(VALUES)`, or nothing where no row is left
abbrev pub wanted_text : Plan → Option (ℕ × Message) → List ℕ
wanted_text plan None = []
wanted_text plan (Some post) = codes "row " ++ (name_of_actor plan post.0 ++ (32 ∷ (message_text plan post.1 ++ 10 ∷ [])))

-- the line of the log at which it differs first, and the row that should have come there
abbrev pub difference_text : Plan → List ℕ → Feeds → Difference → List ℕ
difference_text plan bytes feeds d = stands_text (slice_get (whole_lines bytes) (d.line - 1)) ++ wanted_text plan (post_at feeds d.feed d.row)

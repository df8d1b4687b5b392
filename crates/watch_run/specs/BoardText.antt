-- The totals of a run, and the lines of a board.
use Rattle.std.specs.Prelude.{ℕ, List, [], ◌∷◌, ◌++◌, codes, map}
use Rattle.std.specs.Fmt.{decimal}
use Rattle.script_types.specs.declared.plan.ActorPlan.{ActorPlan}
use Rattle.script_types.specs.declared.plan.Plan.{Plan}
use Rattle.fair_semantics.specs.declared.run.ActorRun.{ActorRun}
use Rattle.fair_semantics.specs.declared.run.Run.{Run}
use Rattle.live_board.specs.declared.totals.Totals.{Totals}
use Rattle.live_board.specs.Totalling.{totals_of}

-- the totals of an actor's run
abbrev pub run_totals : ActorRun → Totals
run_totals own = totals_of own.entries

-- the totals of each actor of a run, in order
abbrev pub totals_in : Run → List Totals
totals_in run = map run_totals run.actors

-- ` arrivals N firings N posts N`
abbrev pub totals_text : Totals → List ℕ
totals_text totals = codes " arrivals " ++ (decimal totals.arrivals ++ (codes " firings " ++ (decimal totals.firings ++ (codes " posts " ++ decimal totals.posts))))

-- `board NAME`, its totals, and LF
abbrev pub board_line : ActorPlan → Totals → List ℕ
board_line named totals = codes "board " ++ (named.name ++ (totals_text totals ++ 10 ∷ []))

-- the lines of the actors, in order
abbrev pub board_lines : List ActorPlan → List Totals → List ℕ
board_lines [] rows = []
board_lines (named ∷ actors) [] = []
board_lines (named ∷ actors) (totals ∷ rows) = board_line named totals ++ board_lines actors rows

-- the lines of the totals of a run
abbrev pub board_text : Plan → Run → List ℕ
board_text plan run = board_lines plan.actors (totals_in run)

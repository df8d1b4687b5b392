-- When an answerer fits the history of an actor.
use Rattle.std.specs.Prelude.{ℕ}
use mathlib.Core.List.{IsPrefix}
use Rattle.fair_semantics.specs.Step.{Setting}
use Rattle.actor_cells.specs.History.{History}
use Rattle.history_law.specs.History.{entries_by}
use Rattle.answerer.specs.declared.reading.Answerer.{Answerer}
use Rattle.answerer.specs.Fit.{Fits}

-- it fits the entries that the history makes, and those of all that goes on from it
abbrev pub FitsHistory : Answerer → ℕ → Setting → History → Type 0
FitsHistory answerer actor setting history = (after : History) → IsPrefix history after → Fits answerer actor (entries_by setting after)

-- What reading the entries of a run asks and gives.
use Rattle.std.specs.Prelude.{◌≡◌, ℕ, ◌<◌, ◌^◌, Some, length, slice_get}
use Rattle.fair_semantics.specs.declared.run.ActorRun.{ActorRun}
use Rattle.fair_semantics.specs.declared.run.Run.{Run}
use Rattle.answerer.specs.declared.reading.Answerer.{Answerer}
use Rattle.answerer.specs.Fit.{AreAllTried, Fits}

-- its arrivals are counted in 32 bits
abbrev pub HasFewEntries : ActorRun → Type 0
HasFewEntries own = length own.entries < 2 ^ 32

-- it fits the entries of each actor of the run
abbrev pub FitsEntries : Run → Answerer → Type 0
FitsEntries run answerer = (actor : ℕ) (own : ActorRun) → slice_get run.actors actor ≡ Some own → Fits answerer actor own.entries

-- it has tried what the first so many actors of the run replied
abbrev pub TriesFirst : ℕ → Run → Answerer → Type 0
TriesFirst count run answerer = (actor : ℕ) (own : ActorRun) → actor < count → slice_get run.actors actor ≡ Some own → AreAllTried answerer actor own.entries

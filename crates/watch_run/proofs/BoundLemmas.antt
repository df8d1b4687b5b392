-- How many arrivals an actor of a run has: fewer than the numbers of 32 bits, which count them.
use Rattle.std.proofs.Common.{◌≡◌, ℕ, ◌+◌, ◌≤◌, ◌<◌, ◌^◌, List, [], ◌∷◌, All, length, map, arith}
use Rattle.std.proofs.lemmas.List.Elements.{All-nil, All-cons}
use Rattle.std.specs.List.{AllByRecursion}
use Rattle.join_base.specs.declared.message.Message.{Message}
use Rattle.script_types.specs.declared.plan.Plan.{Plan}
use Rattle.fair_semantics.specs.declared.run.ActorRun.{ActorRun}
use Rattle.fair_semantics.specs.declared.run.Entry.{Entry}
use Rattle.fair_semantics.specs.declared.run.Limits.{Limits}
use Rattle.fair_semantics.specs.declared.run.Run.{Run}
use Rattle.fair_semantics.specs.Fits.{ActorRunFits, EntryFits}
use Rattle.fair_semantics.specs.Linked.{IsLinked, numbers_from}
use Rattle.feed_answers.specs.Queues.{HasNumbers}
use Rattle.feed_answers.proofs.NumberedLemmas.{numbered_run}

abbrev HasFew : ActorRun → Type 0
HasFew own = length own.entries < 2 ^ 32

module _ (plan : Plan) (version feeds : ℕ) where
  few_from : (start : ℕ) (entries : List Entry) → start ≤ 2 ^ 32 → map (λ (entry : Entry). entry.number) entries ≡ numbers_from start (length entries) → AllByRecursion (EntryFits plan version feeds) entries → start + length entries ≤ 2 ^ 32
  few_from start [] low numbered fits = omega (arith, low)
  few_from start (entry ∷ entries) low numbered fits =
      let first : entry.number ≡ start = cc in
      let others : map (λ (other : Entry). other.number) entries ≡ numbers_from (start + 1) (length entries) = cc in
      let below = fits.0.number in
      let rest = few_from (start + 1) entries (omega (arith, first, below)) others fits.1 in
      omega (arith, rest)

  few_each : (runs : List ActorRun) → AllByRecursion HasNumbers runs → AllByRecursion (ActorRunFits plan version feeds) runs → All HasFew runs
  few_each [] numbered fits = All-nil HasFew
  few_each (own ∷ runs) numbered fits =
      let few = few_from 1 own.entries (omega arith) numbered.0 fits.0.entries in
      All-cons HasFew own runs (omega (arith, few)) (few_each runs numbered.1 fits.1)

pub few_arrivals : (plan : Plan) (limits : Limits) (feeds : List (List (ℕ × Message))) (run : Run) → IsLinked plan limits feeds run → All (λ (own : ActorRun). length own.entries < 2 ^ 32) run.actors
few_arrivals plan limits feeds run linked = few_each plan run.version run.feeds run.actors (numbered_run plan limits feeds run linked) linked.fits_plan.each

-- A system that stands as if it had been reached: each actor was given some messages, in whatever order over the
-- actors, and what came over each link and then what waits is all that its source sent.
use Rattle.std.proofs.Common.{◌≡◌, ◌∙◌, ℕ, ◌<◌, List, [], ◌++◌, map, length, Some, refl, sym, subst, arith}
use Rattle.std.specs.List.{AllByRecursion}
use Rattle.join_base.specs.declared.message.Message.{Message}
use Rattle.join_base.specs.declared.message.Source.{Source}
use Rattle.script_types.specs.declared.plan.Plan.{Plan}
use Rattle.fair_semantics.specs.declared.run.Limits.{Limits}
use Rattle.fair_semantics.specs.Linked.{IsLinked}
use Rattle.fair_semantics.specs.Schedule.{System, after_schedule}
use Rattle.fair_semantics.proofs.CountedLemmas.{Among}
use Rattle.fair_semantics.proofs.ListLemmas.{each_append}
use Rattle.run_order_law.specs.Order.{shown}
use Rattle.run_order_law.proofs.EventLemmas.{Event, IsSystemAt, pair_of}
use Rattle.schedule_law.specs.Reached.{IsServable, NothingWaits}
use Rattle.schedule_law.proofs.FitLemmas.{EachFine, EventFine, each_fine, runs_fit_at, runs_of}
use Rattle.schedule_law.proofs.LawLemmas.{EachAmong, OfActors, count_at, each_among, linked_at, of_pairs}
use Rattle.schedule_law.proofs.ReachLemmas.{came}

module _ (plan : Plan) (limits : Limits) (feeds : List (List (ℕ × Message))) where
  pub record IsStanding (can : IsServable plan limits feeds) (system : System) : Type 0 where
    pub events : List Event
    pub of_actors : OfActors plan limits feeds events
    pub among : EachAmong plan limits feeds events
    pub at : IsSystemAt plan limits feeds events system
    pub fine : EachFine plan limits feeds (runs_of plan limits feeds can) can.values events

  module _ (can : IsServable plan limits feeds) where
    -- so it does after each schedule
    pub stands_after : (system end : System) (pairs : List (ℕ × Source)) → IsStanding can system → AllByRecursion (λ (pair : ℕ × Source). pair.0 < length plan.actors) pairs → after_schedule plan limits system pairs ≡ Some end → IsStanding can end
    stands_after system end pairs stands actors steps =
        let c = came plan limits feeds pairs end system stands.events stands.at steps in
        let later = of_pairs plan limits feeds c.events (subst (AllByRecursion (λ (pair : ℕ × Source). pair.0 < length plan.actors)) (sym c.pairs_are) actors) in
        let known = each_among plan limits feeds stands.events c.events stands.of_actors later c.each in
        let more = each_fine plan limits feeds (runs_of plan limits feeds can) can.values stands.events c.events stands.fine known c.each in
        record {
          events = stands.events ++ c.events;
          of_actors = each_append (λ (event : Event). event.0 < length plan.actors) stands.events c.events stands.of_actors later;
          among = each_append (λ (event : Event). Among (length feeds) (length plan.actors) event.1.0) stands.events c.events stands.among known;
          at = c.is;
          fine = each_append (EventFine plan limits feeds (runs_of plan limits feeds can) can.values) stands.events c.events stands.fine more;
        }

    -- and where nothing waits, it shows a linked run
    pub standing_linked : (system : System) → IsStanding can system → NothingWaits plan system → IsLinked plan limits feeds (shown plan limits feeds system)
    standing_linked system stands waits =
        linked_at plan limits feeds system stands.events stands.of_actors stands.among stands.at waits record {
          version = (omega arith, omega arith);
          replies = λ e. refl;
          arrivals = can.limited.arrivals;
          partials = can.limited.partials;
          feeds = can.count;
          actors = count_at plan limits feeds system stands.events stands.of_actors stands.among stands.at;
          each = runs_fit_at plan limits feeds (runs_of plan limits feeds can) can.values system stands.events stands.at stands.fine;
        }

-- The events of a schedule: each takes a post that waits.
use Rattle.std.proofs.Common.{◌≡◌, ◌∙◌, ℕ, ◌<◌, List, [], ◌∷◌, ◌++◌, length, map, Option, None, Some, append_assoc, refl, ap, sym, subst}
use Rattle.std.specs.List.{AllByRecursion}
use Rattle.std.specs.Option.{option_and_then}
use Rattle.std.proofs.lemmas.List.{append-nil}
use Rattle.join_base.specs.declared.message.Message.{Message}
use Rattle.join_base.specs.declared.message.Stamped.{Stamped}
use Rattle.join_base.specs.declared.message.Source.{Source}
use Rattle.script_types.specs.declared.plan.Plan.{Plan}
use Rattle.fair_semantics.specs.declared.run.Limits.{Limits}
use Rattle.fair_semantics.specs.Schedule.{System, after_schedule, scheduled_step, system_at_first, taking}
use Rattle.run_order_law.proofs.EventLemmas.{Event, IsSystemAt, made, pair_of, sent_from, sent_to}
use Rattle.run_order_law.proofs.ServeLemmas.{next, next_is}
use Rattle.schedule_law.specs.Reached.{IsReached}

module _ (plan : Plan) (limits : Limits) (feeds : List (List (ℕ × Message))) where
  -- the post of each event is the next of its link, and the rest of what is made there is behind it
  pub record IsNext (before : List Event) (event : Event) : Type 0 where
    pub rest : List Stamped
    pub is : made plan limits feeds before event.1.0 event.0 ≡ sent_from event.1.0 (sent_to event.0 before) ++ event.1.1 ∷ rest

  abbrev pub EachNext : List Event → List Event → Type 0
  EachNext before [] = Unit {0}
  EachNext before (event ∷ events) = IsNext before event × EachNext (before ++ event ∷ []) events

  -- the events of the pairs of a schedule
  pub record Came (before : List Event) (pairs : List (ℕ × Source)) (end : System) : Type 0 where
    pub events : List Event
    pub pairs_are : map pair_of events ≡ pairs
    pub each : EachNext before events
    pub is : IsSystemAt plan limits feeds (before ++ events) end

  abbrev pub Later : System → List (ℕ × Source) → System → Type 0
  Later end pairs system = (before : List Event) → IsSystemAt plan limits feeds before system → after_schedule plan limits system pairs ≡ Some end → Came before pairs end

  one_more : (before : List Event) (system : System) (pair : ℕ × Source) (pairs : List (ℕ × Source)) (end : System) → IsSystemAt plan limits feeds before system → ((next : System) → Later end pairs next)
      → after_schedule plan limits system (pair ∷ pairs) ≡ Some end → Came before (pair ∷ pairs) end
  one_more before system pair pairs end at later steps = by (system.waiting pair.1 pair.0) refl steps
    where
      by : (posts : List Stamped) → system.waiting pair.1 pair.0 ≡ posts → option_and_then (λ next. after_schedule plan limits next pairs) (taking plan limits system pair.0 pair.1 posts) ≡ Some end → Came before (pair ∷ pairs) end
      by [] waits e = absurd cc
      by (post ∷ rest) waits e =
          let event : Event = (pair.0, (pair.1, post)) in
          let more = later (next plan limits feeds before system at event rest waits) (before ++ event ∷ []) (next_is plan limits feeds before system at event rest waits) e in
          record {
            events = event ∷ more.events;
            pairs_are = ap (λ (ps : List (ℕ × Source)). pair ∷ ps) more.pairs_are;
            each = (record { rest = rest; is = sym (at.links pair.1 pair.0) ∙ ap (λ (posts : List Stamped). sent_from pair.1 (sent_to pair.0 before) ++ posts) waits }, more.each);
            is = subst (λ (es : List Event). IsSystemAt plan limits feeds es end) (append_assoc before (event ∷ []) more.events) more.is;
          }

  pub came : (pairs : List (ℕ × Source)) (end system : System) → Later end pairs system
  came [] end system before at steps =
      let same : system ≡ end = cc steps in
      record { events = []; pairs_are = refl; each = tt; is = subst (λ (s : System). IsSystemAt plan limits feeds (before ++ []) s) same (subst (λ (es : List Event). IsSystemAt plan limits feeds es system) (sym (append-nil before)) at) }
  came (pair ∷ pairs) end system before at steps = one_more before system pair pairs end at (λ next. came pairs end next) steps

  -- ---- one step more

  pub schedule-append : (system : System) (pairs more : List (ℕ × Source)) → after_schedule plan limits system (pairs ++ more) ≡ option_and_then (λ next. after_schedule plan limits next more) (after_schedule plan limits system pairs)
  schedule-append system [] more = refl
  schedule-append system (pair ∷ pairs) more = by (scheduled_step plan limits system pair) (λ next. schedule-append next pairs more)
    where
      by : (o : Option System) → ((next : System) → after_schedule plan limits next (pairs ++ more) ≡ option_and_then (λ n. after_schedule plan limits n more) (after_schedule plan limits next pairs))
          → option_and_then (λ n. after_schedule plan limits n (pairs ++ more)) o ≡ option_and_then (λ n. after_schedule plan limits n more) (option_and_then (λ n. after_schedule plan limits n pairs) o)
      by None later = refl
      by (Some next) later = later next

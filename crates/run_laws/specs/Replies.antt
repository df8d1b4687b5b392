-- Each arrival is taken at most once, and replied to at most once, and not before it came.
use Rattle.std.specs.Prelude.{◌≡◌, ℕ, ◌+◌, ◌<◌, ◌≤◌, List, [], ◌∷◌, Bool, cond, ◌==◌, Option, None, Some, slice_get}
use Rattle.std.specs.List.{filter_map, flat_map}
use Rattle.join_base.specs.declared.message.Message.{Message}
use Rattle.script_types.specs.declared.plan.Plan.{Plan}
use Rattle.script_types.specs.Typed.{IsTyped}
use Rattle.fair_semantics.specs.declared.run.ActorRun.{ActorRun}
use Rattle.fair_semantics.specs.declared.run.Effect.{Effect}
use Rattle.fair_semantics.specs.declared.run.Effect.TheVariants as effect
use Rattle.fair_semantics.specs.declared.run.Entry.{Entry}
use Rattle.fair_semantics.specs.declared.run.Firing.{Firing}
use Rattle.fair_semantics.specs.declared.run.Limits.{Limits}
use Rattle.fair_semantics.specs.declared.run.Run.{Run}
use Rattle.fair_semantics.specs.Fair.{Sent, fair}
use Rattle.fair_semantics.specs.Linked.{IsLinked, firing_effects}

abbrev pub one_where : Bool → ℕ
one_where b = cond b 1 0

-- how often a number stands in a list
abbrev pub times : ℕ → List ℕ → ℕ
times number [] = 0
times number (other ∷ more) = one_where (number == other) + times number more

abbrev pub taken_by : Option Firing → List ℕ
taken_by None = []
taken_by (Some firing) = firing.taken

-- the arrival numbers that the firings took, in order
abbrev pub taken_in : List Entry → List ℕ
taken_in entries = flat_map (λ entry. taken_by entry.firing) entries

abbrev pub reply_number : Effect → Option ℕ
reply_number (effect.Print line) = None
reply_number (effect.Post target message) = None
reply_number (effect.Reply number value) = Some number

abbrev pub replies_of : Option Firing → List ℕ
replies_of firing = filter_map reply_number (firing_effects firing)

-- the arrival numbers that the firings replied to, in order
abbrev pub replied_in : List Entry → List ℕ
replied_in entries = flat_map (λ entry. replies_of entry.firing) entries

-- no entry replies to an arrival behind its own; the first entry is that of the arrival 1
abbrev pub RepliesBack : List Entry → Type 0
RepliesBack entries = (place : ℕ) (entry : Entry) (number : ℕ) → slice_get entries place ≡ Some entry → place + 1 < number → times number (replies_of entry.firing) ≡ 0

-- each arrival is taken at most once, no other is replied to, each at most once, and none before it came
pub record TakesOnce (entries : List Entry) : Type 0 where
  pub taken : (number : ℕ) → times number (taken_in entries) ≤ 1
  pub among : (number : ℕ) → times number (replied_in entries) ≤ times number (taken_in entries)
  pub replied : (number : ℕ) → times number (replied_in entries) ≤ 1
  pub back : RepliesBack entries

-- so it is at an actor of a well typed plan, whatever messages it is given
abbrev pub FairTakesOnce : Type 0
FairTakesOnce = (plan : Plan) (actor : ℕ) (limits : Limits) (feeds : ℕ) (sent : List Sent) → IsTyped plan → TakesOnce (fair plan actor limits feeds sent).entries

-- and at each actor of a linked run
abbrev pub LinkedTakesOnce : Type 0
LinkedTakesOnce = (plan : Plan) (limits : Limits) (feeds : List (List (ℕ × Message))) (run : Run) → IsTyped plan → IsLinked plan limits feeds run
    → (actor : ℕ) (own : ActorRun) → slice_get run.actors actor ≡ Some own → TakesOnce own.entries

-- What an actor is sent by the program that feeds it, and which rules fire.
use Rattle.std.specs.Prelude.{ℕ, List, Option, None, Some, map}
use Rattle.join_base.specs.declared.message.Message.{Message}
use Rattle.join_base.specs.declared.message.Source.TheVariants.{Feed}
use Rattle.script_types.specs.declared.plan.Plan.{Plan}
use Rattle.fair_semantics.specs.declared.run.Entry.{Entry}
use Rattle.fair_semantics.specs.declared.run.Firing.{Firing}
use Rattle.fair_semantics.specs.declared.run.Limits.{Limits}
use Rattle.fair_semantics.specs.Fair.{Sent, fair}
use Rattle.fair_semantics.specs.Step.{State}

-- messages of the only feed, in order
abbrev pub from_feed : List Message → List Sent
from_feed messages = map (λ message. (Feed 1, record { message = message; stamp = 0 })) messages

-- the rule that fired, if one did
abbrev pub rule_of : Option Firing → Option ℕ
rule_of None = None
rule_of (Some firing) = Some firing.rule

abbrev pub firings_in : State → List (Option Firing)
firings_in state = map (λ (entry : Entry). entry.firing) state.entries

-- for each message that the actor records, the rule that it fires, if it does, by the fair semantics
abbrev pub rules_fired : Plan → ℕ → Limits → List Message → List (Option ℕ)
rules_fired plan index limits messages = map rule_of (firings_in (fair plan index limits 1 (from_feed messages)))

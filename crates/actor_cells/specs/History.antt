-- The history of an actor in a run, and what is left of arrivals without their stamps.
use Rattle.std.specs.Prelude.{ℕ, List}
use Rattle.join_base.specs.declared.message.Message.{Message}
use Rattle.join_base.specs.declared.message.Source.{Source}
use Rattle.fair_semantics.specs.declared.run.ActorRun.{ActorRun}
use Rattle.fair_semantics.specs.declared.run.Entry.{Entry}
use Rattle.fair_semantics.specs.declared.run.Run.{Run}
use Rattle.fair_semantics.specs.Fair.{Sent}
use Rattle.fair_semantics.specs.Linked.{arrived, posts_of}
pub use Rattle.actor_turn.specs.Held.{History}

-- what the actor of this number recorded in a run over these feeds: each message carries the stamp of its post
abbrev pub history_shown : List (List (ℕ × Message)) → Run → ℕ → ActorRun → History
history_shown feeds run actor own = arrived (λ source. posts_of feeds run.actors source actor) own.entries

-- without its stamp
abbrev pub bare : Sent → Source × Message
bare sent = (sent.0, sent.1.message)

abbrev pub noted : Entry → Source × Message
noted entry = (entry.source, entry.message)

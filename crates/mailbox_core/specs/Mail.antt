-- What a mailbox holds.
use Rattle.std.specs.Prelude.{ℕ, ◌+◌, ◌-◌, ◌≤◌, List, [], ◌∷◌, ◌++◌, All, length, map, max, replicate, take}
use Rattle.std.specs.List.{AllByRecursion}
use Rattle.std.specs.List.Sorted.{IsStrictlyIncreasing}
use Rattle.join_base.specs.Stamps.{greatest_stamp}
use Rattle.join_base.specs.declared.message.Message.{Message}
use Rattle.join_base.specs.declared.message.Source.{Source}
use Rattle.mailbox_core.specs.declared.mailbox.Postmark.{Postmark}
use Rattle.join_base.specs.Late.{Late}

-- a recorded message: its source, its own stamp, and the stamp that it carried
pub record Received : Type 0 where
  pub source : Source
  pub message : Message
  pub stamp : ℕ
  pub came : ℕ

-- arrival n stands at place n - 1; the live numbers are those of the unconsumed ones, ascending
pub record Mail : Type 0 where
  pub arrivals : List Received
  pub live : List ℕ
  pub late : Late

-- what contracts see of a mailbox: what it holds, and for how many more arrivals there is room
pub record HeldMail : Type 0 where
  pub mail : Mail
  pub room : ℕ

-- no arrival, and no message late
abbrev pub no_mail : ℕ → ℕ → Mail
no_mail feeds actors = record { arrivals = []; live = []; late = record { feeds = replicate feeds 0; actors = replicate actors 0 } }

abbrev pub source_in : Received → Source
source_in arrival = arrival.source

abbrev pub recorded_messages : List Received → List Message
recorded_messages arrivals = map (λ arrival. arrival.message) arrivals

-- what is recorded beside each message
abbrev pub postmarks_of : List Received → List Postmark
postmarks_of arrivals = map (λ arrival. record { source = arrival.source; stamp = arrival.stamp; came = arrival.came }) arrivals

-- the messages, each with what is recorded beside it
abbrev pub received_of : List Message → List Postmark → List Received
received_of [] marks = []
received_of (message ∷ messages) [] = []
received_of (message ∷ messages) (mark ∷ marks) =
    record { source = mark.source; message = message; stamp = mark.stamp; came = mark.came } ∷ received_of messages marks

-- the last arrival's own stamp, or the one given
abbrev pub latest_from : ℕ → List Received → ℕ
latest_from stamp [] = stamp
latest_from stamp (arrival ∷ arrivals) = latest_from arrival.stamp arrivals

-- the last arrival's own stamp, or 0
abbrev pub latest : List Received → ℕ
latest arrivals = latest_from 0 arrivals

-- the next arrival: its stamp is 1 more than the greater of the latest and the one that the message carried
abbrev pub next_arrival : List Received → Source → Message → ℕ → Received
next_arrival arrivals source message came = record { source = source; message = message; stamp = max (latest arrivals) came + 1; came = came }

abbrev pub with_arrival : Mail → Source → Message → ℕ → Mail
with_arrival mail source message came = record {
  arrivals = mail.arrivals ++ next_arrival mail.arrivals source message came ∷ [];
  live = mail.live ++ (length mail.arrivals + 1) ∷ [];
  late = mail.late;
}

-- without the last arrival and its number
abbrev pub without_last : Mail → Mail
without_last mail = record {
  arrivals = take (length mail.arrivals - 1) mail.arrivals;
  live = take (length mail.live - 1) mail.live;
  late = mail.late;
}

abbrev pub with_live : Mail → List ℕ → Mail
with_live mail live = record { arrivals = mail.arrivals; live = live; late = mail.late }

abbrev pub with_late : Mail → Late → Mail
with_late mail late = record { arrivals = mail.arrivals; live = mail.live; late = late }

-- the number of an arrival
abbrev pub IsRecorded : List Received → ℕ → Type 0
IsRecorded arrivals number = (1 ≤ number) × (number ≤ length arrivals)

-- what is true of every mailbox
pub record IsSound (mail : Mail) : Type 0 where
  pub few : length mail.arrivals ≤ 1000000
  pub recorded : All (IsRecorded mail.arrivals) mail.live
  pub ascending : IsStrictlyIncreasing mail.live
  pub small : AllByRecursion (λ arrival. arrival.stamp ≤ greatest_stamp) mail.arrivals

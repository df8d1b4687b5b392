-- What a mailbox records is what the fair step records.
use Rattle.std.proofs.Common.{◌≡◌, ◌∙◌, ℕ, suc, ◌+◌, ◌-◌, List, [], ◌∷◌, ◌++◌, length, map, take, length-append, Option, refl, sym, ap, arith}
use Rattle.std.specs.Prelude.{max, reverse}
use Rattle.std.proofs.Math.Seq.{append_snoc, take-append_seam}
use Rattle.std.proofs.lemmas.List.{append_cancel_left, map-append, reverse-append}
use Rattle.join_base.specs.declared.message.Message.{Message}
use Rattle.join_base.specs.declared.message.Source.{Source}
use Rattle.mailbox_core.specs.Mail.{Mail, Received, latest_from, latest, postmarks_of, next_arrival, received_of, with_arrival, with_live, without_last}
use Rattle.mailbox_core.specs.declared.mailbox.Postmark.{Postmark}
use Rattle.mailbox_core.proofs.MailLemmas.{arrival_of, received_count, received_push}
use Rattle.mailbox_core.specs.Mail as mail
use Rattle.fair_semantics.specs.declared.run.Ending.{Ending}
use Rattle.fair_semantics.specs.declared.run.Entry.{Entry}
use Rattle.fair_semantics.specs.declared.run.Firing.{Firing}
use Rattle.fair_semantics.specs.Step.{Arrival, last_stamp, recorded_messages, recorded}
use Rattle.actor_turn.specs.Parts.{entries_of, state_of, AreFired}

pub entries_count : (from : ℕ) (arrivals : List Received) (firings : List (Option Firing)) → length firings ≡ length arrivals → length (entries_of from arrivals firings) ≡ length arrivals
entries_count from [] firings e = refl
entries_count from (a ∷ arrivals) [] e = absurd (omega arith)
entries_count from (a ∷ arrivals) (f ∷ firings) e = ap suc (entries_count (from + 1) arrivals firings (omega arith))

-- what they fired is what is kept of each
pub entries_firings : (from : ℕ) (arrivals : List Received) (firings : List (Option Firing)) → length firings ≡ length arrivals → firings ≡ map (λ (e : Entry). e.firing) (entries_of from arrivals firings)
entries_firings from [] [] e = refl
entries_firings from [] (f ∷ firings) e = absurd (omega arith)
entries_firings from (a ∷ arrivals) [] e = absurd (omega arith)
entries_firings from (a ∷ arrivals) (f ∷ firings) e = ap (λ (fs : List (Option Firing)). f ∷ fs) (entries_firings (from + 1) arrivals firings (omega arith))

-- the messages are those of the mailbox
pub entries_messages : (from : ℕ) (arrivals : List Received) (firings : List (Option Firing)) → length firings ≡ length arrivals → recorded_messages (entries_of from arrivals firings) ≡ mail.recorded_messages arrivals
entries_messages from [] firings e = refl
entries_messages from (a ∷ arrivals) [] e = absurd (omega arith)
entries_messages from (a ∷ arrivals) (f ∷ firings) e = ap (λ (ms : List Message). a.message ∷ ms) (entries_messages (from + 1) arrivals firings (omega arith))

-- and so is the latest stamp
pub entries_latest : (from before : ℕ) (arrivals : List Received) (firings : List (Option Firing)) → length firings ≡ length arrivals → last_stamp before (entries_of from arrivals firings) ≡ latest_from before arrivals
entries_latest from before [] firings e = refl
entries_latest from before (a ∷ arrivals) [] e = absurd (omega arith)
entries_latest from before (a ∷ arrivals) (f ∷ firings) e = entries_latest (from + 1) a.stamp arrivals firings (omega arith)

-- one arrival more is one entry more
entries_more : (from number : ℕ) (arrivals : List Received) (firings : List (Option Firing)) (a : Received) (f : Option Firing) → length firings ≡ length arrivals → number ≡ from + length arrivals
    → entries_of from (arrivals ++ a ∷ []) (firings ++ f ∷ []) ≡ entries_of from arrivals firings ++ record { number = number; source = a.source; message = a.message; stamp = a.stamp; firing = f } ∷ []
entries_more from number [] [] a f e n = let is : from ≡ number = omega arith in λ i. record { number = is i; source = a.source; message = a.message; stamp = a.stamp; firing = f } ∷ []
entries_more from number [] (g ∷ firings) a f e n = absurd (omega arith)
entries_more from number (b ∷ arrivals) [] a f e n = absurd (omega arith)
entries_more from number (b ∷ arrivals) (g ∷ firings) a f e n =
    ap (λ (es : List Entry). record { number = from; source = b.source; message = b.message; stamp = b.stamp; firing = g } ∷ es) (entries_more (from + 1) number arrivals firings a f (omega arith) (omega arith))

module _ (m : Mail) (firings : List (Option Firing)) (end : Ending) (source : Source) (message : Message) (stamp : ℕ) (fired : AreFired m firings) where
  abbrev arrival : Arrival
  arrival = record { state = state_of m firings end; source = source; message = message; stamp = stamp }

  -- the mailbox with the message, and a firing or none for it, show the state that the step records
  pub recorded_is : (firing : Option Firing) (live : List ℕ) (after : Ending) → state_of (with_live (with_arrival m source message stamp) live) (firings ++ firing ∷ []) after ≡ recorded arrival firing live after
  recorded_is firing live after =
      let count = entries_count 1 m.arrivals firings fired in
      let number : length (entries_of 1 m.arrivals firings) + 1 ≡ 1 + length m.arrivals = omega arith in
      let stamps = entries_latest 1 0 m.arrivals firings fired in
      let new : Received = record { source = source; message = message; stamp = max (latest m.arrivals) stamp + 1; came = stamp } in
      let entries =
      entries_more 1 (length (entries_of 1 m.arrivals firings) + 1) m.arrivals firings new firing fired number
      ∙ (λ i. entries_of 1 m.arrivals firings ++ record { number = length (entries_of 1 m.arrivals firings) + 1; source = source; message = message; stamp = max (sym stamps i) stamp + 1; firing = firing } ∷ [])
      in
      λ i. record { entries = entries i; live = live; ending = after; late = m.late }

-- ---- the entries of a run

abbrev pub entry_from : ℕ → Message → Postmark → Option Firing → Entry
entry_from number message mark firing = record { number = number; source = mark.source; message = message; stamp = mark.stamp; firing = firing }

-- the last of each list goes in front of the entries that are there, the last first
pub popped_entries : (messages messages' : List Message) (marks marks' : List Postmark) (firings firings' : List (Option Firing)) (m : Message) (k : Postmark) (f : Option Firing) (entries entries' : List Entry) (last : ℕ) (whole : List Entry)
    → length marks' ≡ length messages' → length firings' ≡ length messages' → messages ≡ messages' ++ m ∷ [] → marks ≡ marks' ++ k ∷ [] → firings ≡ firings' ++ f ∷ [] → last ≡ 1 + length messages' → entries' ≡ entries ++ entry_from last m k f ∷ []
    → entries_of 1 (received_of messages marks) firings ++ reverse entries ≡ whole → entries_of 1 (received_of messages' marks') firings' ++ reverse entries' ≡ whole
popped_entries messages messages' marks marks' firings firings' m k f entries entries' last whole em ef el ek en eat er told =
    let front : List Entry = entries_of 1 (received_of messages' marks') firings' in
    let count = received_count messages' marks' em in
    let pushed = ap (λ (rs : List Received). entries_of 1 rs (firings' ++ f ∷ [])) (received_push messages' marks' m k em) ∙ entries_more 1 last (received_of messages' marks') firings' (arrival_of m k) f (omega arith) (omega arith) in
    ap (λ (rs : List Entry). front ++ reverse rs) er
    ∙ ap (λ (rs : List Entry). front ++ rs) (reverse-append entries (entry_from last m k f ∷ []))
    ∙ sym (append_snoc front (entry_from last m k f) (reverse entries))
    ∙ ap (λ (rs : List Entry). rs ++ reverse entries) (sym pushed)
    ∙ (λ i. entries_of 1 (received_of (sym el i) (sym ek i)) (sym en i) ++ reverse entries)
    ∙ told

-- the arrivals are those of their messages and marks
pub received_again : (arrivals : List Received) → received_of (mail.recorded_messages arrivals) (postmarks_of arrivals) ≡ arrivals
received_again [] = refl
received_again (a ∷ arrivals) = ap (λ (rs : List Received). a ∷ rs) (received_again arrivals)

-- an arrival that is taken back leaves what was there before
pub retracted_again : (m : Mail) (source : Source) (message : Message) (stamp : ℕ) → without_last (with_arrival m source message stamp) ≡ m
retracted_again m source message stamp =
    let one : List Received = next_arrival m.arrivals source message stamp ∷ [] in
    let long = length-append m.arrivals one in
    let longer = length-append m.live ((length m.arrivals + 1) ∷ []) in
    let first : length (m.arrivals ++ one) - 1 ≡ length m.arrivals = omega arith in
    let second : length (m.live ++ (length m.arrivals + 1) ∷ []) - 1 ≡ length m.live = omega arith in
    let arrivals = ap (λ (n : ℕ). take n (m.arrivals ++ one)) first ∙ take-append_seam m.arrivals one in
    let live = ap (λ (n : ℕ). take n (m.live ++ (length m.arrivals + 1) ∷ [])) second ∙ take-append_seam m.live ((length m.arrivals + 1) ∷ []) in
    λ i. record { arrivals = arrivals i; live = live i; late = m.late }

-- and its message comes back
pub handed_back : (m before after : Mail) (source : Source) (message back : Message) (stamp : ℕ) → before ≡ with_arrival m source message stamp → mail.recorded_messages before.arrivals ≡ mail.recorded_messages after.arrivals ++ back ∷ [] → after ≡ without_last before → back ≡ message
handed_back m before after source message back stamp is told left =
    let again : after ≡ m = left ∙ ap without_last is ∙ retracted_again m source message stamp in
    let messages : mail.recorded_messages m.arrivals ++ back ∷ [] ≡ mail.recorded_messages m.arrivals ++ message ∷ [] =
    ap (λ (x : Mail). mail.recorded_messages x.arrivals ++ back ∷ []) (sym again) ∙ sym told ∙ ap (λ (x : Mail). mail.recorded_messages x.arrivals) is
    ∙ map-append (λ (a : Received). a.message) m.arrivals (next_arrival m.arrivals source message stamp ∷ []) in
    let same : back ∷ [] ≡ message ∷ [] = append_cancel_left (mail.recorded_messages m.arrivals) (back ∷ []) (message ∷ []) messages in
    cc same

-- Messages with their marks, as arrivals.
use Rattle.std.proofs.Common.{◌≡◌, ◌∙◌, ℕ, zero, suc, ◌+◌, ◌-◌, ◌≤◌, ◌<◌, get_or, List, [], ◌∷◌, ◌++◌, length, Option, None, Some, slice_get, max, take, length-append, refl, ap, sym, arith}
use Rattle.std.proofs.Math.Seq.{take-append_seam}
use Rattle.std.proofs.lemmas.List.{length-take}
use Rattle.std.specs.Prelude.{All}
use Rattle.std.specs.Option.{option_map}
use Rattle.std.specs.List.{AllByRecursion}
use Rattle.std.specs.List.Sorted.{IsStrictlyIncreasing}
use Rattle.join_base.specs.Stamps.{greatest_stamp}
use Rattle.join_base.specs.declared.message.Message.{Message}
use Rattle.join_base.specs.declared.message.Source.{Source}
use Rattle.mailbox_core.specs.declared.mailbox.Postmark.{Postmark}
use Rattle.mailbox_core.specs.Inside.{last_stamp}
use Rattle.join_base.specs.Late.{Late}
use Rattle.mailbox_core.specs.Mail.{IsSound, Mail, Received, latest, latest_from, recorded_messages, postmarks_of, next_arrival, received_of, source_in, with_arrival, without_last}

abbrev pub arrival_of : Message → Postmark → Received
arrival_of message mark = record { source = mark.source; message = message; stamp = mark.stamp; came = mark.came }

pub messages_are : (messages : List Message) (marks : List Postmark) → length marks ≡ length messages → recorded_messages (received_of messages marks) ≡ messages
messages_are [] marks e = refl
messages_are (l ∷ messages) [] e = absurd (omega arith)
messages_are (l ∷ messages) (m ∷ marks) e = ap (λ (ls : List Message). l ∷ ls) (messages_are messages marks (omega arith))

pub marks_are : (messages : List Message) (marks : List Postmark) → length marks ≡ length messages → postmarks_of (received_of messages marks) ≡ marks
marks_are [] [] e = refl
marks_are [] (m ∷ marks) e = absurd (omega arith)
marks_are (l ∷ messages) [] e = absurd (omega arith)
marks_are (l ∷ messages) (m ∷ marks) e = ap (λ (ms : List Postmark). m ∷ ms) (marks_are messages marks (omega arith))

pub received_count : (messages : List Message) (marks : List Postmark) → length marks ≡ length messages → length (received_of messages marks) ≡ length messages
received_count [] marks e = refl
received_count (l ∷ messages) [] e = absurd (omega arith)
received_count (l ∷ messages) (m ∷ marks) e = let more = received_count messages marks (omega arith) in omega arith

pub received_push : (messages : List Message) (marks : List Postmark) (l : Message) (m : Postmark) → length marks ≡ length messages → received_of (messages ++ l ∷ []) (marks ++ m ∷ []) ≡ received_of messages marks ++ arrival_of l m ∷ []
received_push [] [] l m e = refl
received_push [] (x ∷ marks) l m e = absurd (omega arith)
received_push (y ∷ messages) [] l m e = absurd (omega arith)
received_push (y ∷ messages) (x ∷ marks) l m e = ap (λ (rs : List Received). arrival_of y x ∷ rs) (received_push messages marks l m (omega arith))

-- the last arrival's stamp is the last mark's
pub latest_is : (stamp : ℕ) (messages : List Message) (marks : List Postmark) → length marks ≡ length messages → latest_from stamp (received_of messages marks) ≡ last_stamp stamp marks
latest_is stamp [] [] e = refl
latest_is stamp [] (m ∷ marks) e = absurd (omega arith)
latest_is stamp (l ∷ messages) [] e = absurd (omega arith)
latest_is stamp (l ∷ messages) (m ∷ marks) e = latest_is m.stamp messages marks (omega arith)

pub last_small : (stamp : ℕ) (marks : List Postmark) → stamp ≤ greatest_stamp → AllByRecursion (λ mark. mark.stamp ≤ greatest_stamp) marks → last_stamp stamp marks ≤ greatest_stamp
last_small stamp [] h all = h
last_small stamp (m ∷ marks) h all = last_small m.stamp marks all.0 all.1

pub small_push : (marks : List Postmark) (m : Postmark) → m.stamp ≤ greatest_stamp → AllByRecursion (λ mark. mark.stamp ≤ greatest_stamp) marks → AllByRecursion (λ mark. mark.stamp ≤ greatest_stamp) (marks ++ m ∷ [])
small_push [] m h all = (h, tt)
small_push (x ∷ marks) m h all = (all.0, small_push marks m h all.1)

pub small_front : (marks more : List Postmark) → AllByRecursion (λ mark. mark.stamp ≤ greatest_stamp) (marks ++ more) → AllByRecursion (λ mark. mark.stamp ≤ greatest_stamp) marks
small_front [] more all = tt
small_front (x ∷ marks) more all = (all.0, small_front marks more all.1)

pub small_received : (messages : List Message) (marks : List Postmark) → AllByRecursion (λ mark. mark.stamp ≤ greatest_stamp) marks → AllByRecursion (λ (a : Received). a.stamp ≤ greatest_stamp) (received_of messages marks)
small_received [] marks all = tt
small_received (l ∷ messages) [] all = tt
small_received (l ∷ messages) (m ∷ marks) all = (all.0, small_received messages marks all.1)

abbrev elim_stamp : ℕ → Option Postmark → ℕ
elim_stamp n None = n
elim_stamp n (Some mark) = mark.stamp

-- the stamp of the mark at the last place
pub last_is : (stamp : ℕ) (marks : List Postmark) (m : Postmark) → slice_get marks (length marks - 1) ≡ Some m → last_stamp stamp marks ≡ m.stamp
last_is stamp [] m e = cc
last_is stamp (x ∷ []) m e = ap (elim_stamp 0) e
last_is stamp (x ∷ y ∷ marks) m e =
    let there : suc (length marks) ≡ length (x ∷ y ∷ marks) - 1 = omega arith in
    let here : length (y ∷ marks) - 1 ≡ length marks = omega arith in
    last_is x.stamp (y ∷ marks) m (ap (slice_get (y ∷ marks)) here ∙ ap (slice_get (x ∷ y ∷ marks)) there ∙ e)

-- a list without its last item is shorter by one
pub front_count : {A : Type 0} (front xs : List A) (n : ℕ) → n ≡ length xs → front ≡ take (n - 1) xs → length front ≡ length xs - 1
front_count front xs n en e = ap length e ∙ length-take (n - 1) xs ∙ omega arith

take_received : (count : ℕ) (messages : List Message) (marks : List Postmark) → received_of (take count messages) (take count marks) ≡ take count (received_of messages marks)
take_received zero messages marks = refl
take_received (suc count) [] marks = refl
take_received (suc count) (l ∷ messages) [] = refl
take_received (suc count) (l ∷ messages) (m ∷ marks) = ap (λ (rs : List Received). arrival_of l m ∷ rs) (take_received count messages marks)

-- what is inside after an arrival
pub appended : (messages messages' : List Message) (marks marks' : List Postmark) (live live' : List ℕ) (late : Late) (source : Source) (message : Message) (came stamp count : ℕ)
    → length marks ≡ length messages → count ≡ length messages → stamp ≡ max (last_stamp 0 marks) came + 1
    → messages' ≡ messages ++ message ∷ [] → marks' ≡ marks ++ record { source = source; stamp = stamp; came = came } ∷ [] → live' ≡ live ++ (count + 1) ∷ []
    → ◌≡◌ {A = Mail} (record { arrivals = received_of messages' marks'; live = live'; late = late }) (with_arrival (record { arrivals = received_of messages marks; live = live; late = late }) source message came)
appended messages messages' marks marks' live live' late source message came stamp count marked numbered stamped el em en =
    let mark : Postmark = record { source = source; stamp = stamp; came = came } in
    let latest_stamp : stamp ≡ max (latest (received_of messages marks)) came + 1 = stamped ∙ ap (λ (n : ℕ). max n came + 1) (sym (latest_is 0 messages marks marked)) in
    let place : count + 1 ≡ length (received_of messages marks) + 1 = ap (λ (n : ℕ). n + 1) (numbered ∙ sym (received_count messages marks marked)) in
    let arrivals : received_of messages' marks' ≡ received_of messages marks ++ next_arrival (received_of messages marks) source message came ∷ []
    = (λ i. received_of (el i) (em i)) ∙ received_push messages marks message mark marked ∙ ap (λ (n : ℕ). received_of messages marks ++ record { source = source; message = message; stamp = n; came = came } ∷ []) latest_stamp in
    let numbers = en ∙ ap (λ (n : ℕ). live ++ n ∷ []) place in
    λ i. record { arrivals = arrivals i; live = numbers i; late = late }

-- what is inside after the last arrival was taken back
pub retracted : (messages messages' : List Message) (marks marks' : List Postmark) (live live' : List ℕ) (late : Late) (number before before' : ℕ)
    → length marks ≡ length messages → before ≡ length messages → before' ≡ length marks → messages' ≡ take (before - 1) messages → marks' ≡ take (before' - 1) marks → live ≡ live' ++ number ∷ []
    → ◌≡◌ {A = Mail} (record { arrivals = received_of messages' marks'; live = live'; late = late }) (without_last (record { arrivals = received_of messages marks; live = live; late = late }))
retracted messages messages' marks marks' live live' late number before before' marked eb eb' el em en =
    let count : ℕ = length (received_of messages marks) - 1 in
    let long = received_count messages marks marked in
    let first : before - 1 ≡ count = omega arith in
    let second : before' - 1 ≡ count = omega arith in
    let arrivals = (λ i. received_of (el i) (em i)) ∙ (λ i. received_of (take (first i) messages) (take (second i) marks)) ∙ take_received count messages marks in
    let longer = length-append live' (number ∷ []) in
    let shorter : length live' ≡ length live - 1 = omega (arith, ap length en) in
    let numbers : live' ≡ take (length live - 1) live = sym (take-append_seam live' (number ∷ [])) ∙ (λ i. take (shorter i) (sym en i)) in
    λ i. record { arrivals = arrivals i; live = numbers i; late = late }

-- what is inside is sound
pub is_sound : (messages : List Message) (marks : List Postmark) (live : List ℕ) (count : ℕ) (late : Late) → length marks ≡ length messages → count ≡ length messages → length messages ≤ 1000000
    → AllByRecursion (λ mark. mark.stamp ≤ greatest_stamp) marks → All (λ n. (1 ≤ n) × (n ≤ count)) live → IsStrictlyIncreasing live → IsSound (record { arrivals = received_of messages marks; live = live; late = late })
is_sound messages marks live count late marked numbered few small recorded ascending =
    let long = received_count messages marks marked in
    record {
      few = omega arith;
      recorded = λ k d h. let r = recorded k d h in (r.0, omega (arith, r.1));
      ascending = ascending;
      small = small_received messages marks small;
    }

-- the source of an arrival is that of its mark
pub source_there : (messages : List Message) (marks : List Postmark) (place : ℕ) (mark : Postmark) → length marks ≡ length messages → place < length marks → mark ≡ get_or marks place mark → option_map source_in (slice_get (received_of messages marks) place) ≡ Some mark.source
source_there [] marks place mark e l at = absurd (omega arith)
source_there (x ∷ messages) [] place mark e l at = absurd (omega arith)
source_there (x ∷ messages) (m ∷ marks) zero mark e l at = ap (λ (k : Postmark). Some k.source) (sym at)
source_there (x ∷ messages) (m ∷ marks) (suc place) mark e l at = source_there messages marks place mark (omega arith) (omega arith) at

-- A chain of fair steps over all that an actor is given: the messages that it records, and those behind them.
use Rattle.std.proofs.Common.{◌≡◌, ◌∙◌, ◌⊎◌, inl, inr, ℕ, zero, suc, ◌+◌, ◌-◌, ◌^◌, ◌<◌, ◌≤◌, min, max, List, [], ◌∷◌, ◌++◌, length, length-append, map, take, drop, Bool, true, false, Option, None, Some, slice_get, append_assoc, replicate, refl, ap, sym, subst, arith}
use Rattle.std.specs.Prelude.{if◌then◌else◌, not, nat_le, ◌||◌, ◌==◌, slice_index, Contains}
use Rattle.std.specs.List.{AllByRecursion, cons_option, filter_map, flat_map, list_any}
use Rattle.std.proofs.lemmas.List.{append-nil, length-map, map-append}
use Rattle.std.proofs.lemmas.List.Elements.{filter_map-append}
use Rattle.std.proofs.Math.Seq.{drop-append_seam}
use Rattle.join_base.specs.Late.{Late, late_count}
use Rattle.join_base.specs.declared.message.Message.{Message}
use Rattle.join_base.specs.declared.message.Stamped.{Stamped}
use Rattle.join_base.specs.declared.message.Source.{Source}
use Rattle.fair_semantics.specs.declared.run.Ending.TheVariants as ending
use Rattle.fair_semantics.specs.declared.run.Entry.{Entry}
use Rattle.fair_semantics.specs.Step.{Setting, State, is_refused, is_running, late_step, spent_step}
use Rattle.fair_semantics.specs.Fair.{Sent, after_all}
use Rattle.fair_semantics.specs.Linked.{arrived_after, message_from, messages_of, same_source, stamp_at, taken_from}
use Rattle.fair_semantics.proofs.ChainLemmas.{Records, adds}
use Rattle.run_order_law.proofs.EventLemmas.{if_from, same_source_is, sent_from}
use Rattle.run_order_law.proofs.ListLemmas.{at_front}
use Rattle.run_order_law.proofs.WaitLemmas.{from_itself}
use Rattle.fair_semantics.proofs.TakenLemmas.{next_of}
use Rattle.fair_semantics.proofs.TakenLemmas.{Taken, late_is, spent_is, taken_count}
use Rattle.fair_semantics.proofs.CountedLemmas.{raised_by}
use Rattle.fair_semantics.proofs.FairLemmas.{after_all-append}

-- ---- messages and the entries that they left

-- an entry for each of the messages, in order
abbrev pub AreRecords : List Sent → List Entry → Type 0
AreRecords [] [] = Unit {0}
AreRecords [] (e ∷ entries) = ⊥
AreRecords (s ∷ sent) [] = ⊥
AreRecords (s ∷ sent) (e ∷ entries) = (e.source ≡ s.0) × (e.message ≡ s.1.message) × AreRecords sent entries

records_append : (xs ys : List Sent) (es fs : List Entry) → AreRecords xs es → AreRecords ys fs → AreRecords (xs ++ ys) (es ++ fs)
records_append [] ys [] fs r q = q
records_append [] ys (e ∷ es) fs r q = absurd r
records_append (x ∷ xs) ys [] fs r q = absurd r
records_append (x ∷ xs) ys (e ∷ es) fs r q = (r.0, r.1, records_append xs ys es fs r.2 q)

pub all_recorded : (latest : ℕ) (sent : List Sent) (entries : List Entry) → Records latest sent entries → length entries ≡ length sent → AreRecords sent entries
all_recorded latest [] [] r count = tt
all_recorded latest [] (e ∷ entries) r count = absurd r
all_recorded latest (s ∷ sent) [] r count = absurd (omega arith)
all_recorded latest (s ∷ sent) (e ∷ entries) r count = (r.0.source, r.0.message, all_recorded e.stamp sent entries r.1 (omega arith))

-- what was taken from a source has the messages that came from it
pub taken_are : (source : Source) (sent : List Sent) (entries : List Entry) → AreRecords sent entries → taken_from source entries ≡ messages_of (sent_from source sent)
taken_are source [] [] r = refl
taken_are source [] (e ∷ entries) r = absurd r
taken_are source (s ∷ sent) [] r = absurd r
taken_are source (s ∷ sent) (e ∷ entries) r =
    ap (λ (x : Source). cons_option (if same_source x source then Some e.message else None) (taken_from source entries)) r.0
    ∙ by (same_source s.0 source) (taken_are source sent entries r.2)
  where
    by : (b : Bool) → taken_from source entries ≡ messages_of (sent_from source sent) → cons_option (if b then Some e.message else None) (taken_from source entries) ≡ messages_of (cons_option (if b then Some s.1 else None) (sent_from source sent))
    by true later = λ i. r.1 i ∷ later i
    by false later = later

pub taken_count_from : (source : Source) (sent : List Sent) (entries : List Entry) → AreRecords sent entries → length (taken_from source entries) ≡ length (sent_from source sent)
taken_count_from source sent entries r = ap length (taken_are source sent entries r) ∙ length-map (sent_from source sent) (λ post. post.message)

module _ (posts : Source → List Stamped) where
  -- what came from each source begins its posts
  abbrev pub AreFirst : List Sent → Type 0
  AreFirst sent = (source : Source) → (rest : List Stamped) × (posts source ≡ sent_from source sent ++ rest)

  one_arrived : (before : List Sent) (front : List Entry) (s : Sent) (sent : List Sent) (e : Entry) → AreRecords before front → e.source ≡ s.0 → e.message ≡ s.1.message → AreFirst (before ++ s ∷ sent)
      → (e.source, record { message = e.message; stamp = stamp_at (slice_get (posts e.source) (length (taken_from e.source front))) }) ≡ s
  one_arrived before front s sent e r source message first =
      let f = first s.0 in
      let split : posts s.0 ≡ sent_from s.0 before ++ s.1 ∷ (sent_from s.0 sent ++ f.0) =
      f.1 ∙ ap (λ (ps : List Stamped). ps ++ f.0) (from_itself s.0 s.1 before sent) ∙ append_assoc (sent_from s.0 before) (s.1 ∷ sent_from s.0 sent) f.0 in
      let place : slice_get (posts s.0) (length (taken_from s.0 front)) ≡ Some s.1 =
      (λ i. slice_get (split i) (taken_count_from s.0 before front r i)) ∙ at_front (sent_from s.0 before) s.1 (sent_from s.0 sent ++ f.0) in
      let stamp : stamp_at (slice_get (posts e.source) (length (taken_from e.source front))) ≡ s.1.stamp = ap (λ (x : Source). stamp_at (slice_get (posts x) (length (taken_from x front)))) source ∙ ap stamp_at place in
      λ i. (source i, record { message = message i; stamp = stamp i })

  -- the arrivals with the stamps that they carried are the messages as they came
  pub arrived_are : (before : List Sent) (front : List Entry) (sent : List Sent) (entries : List Entry) → AreRecords before front → AreRecords sent entries → AreFirst (before ++ sent) → arrived_after posts front entries ≡ sent
  arrived_are before front [] [] r q first = refl
  arrived_are before front [] (e ∷ entries) r q first = absurd q
  arrived_are before front (s ∷ sent) [] r q first = absurd q
  arrived_are before front (s ∷ sent) (e ∷ entries) r q first =
      let here = one_arrived before front s sent e r q.0 q.1 first in
      let same : before ++ s ∷ sent ≡ (before ++ s ∷ []) ++ sent = sym (append_assoc before (s ∷ []) sent) in
      let later = arrived_are (before ++ s ∷ []) (front ++ e ∷ []) sent entries (records_append before (s ∷ []) front (e ∷ []) r (q.0, q.1, tt)) q.2 (subst AreFirst same first) in
      λ i. here i ∷ later i

-- ---- the messages behind

-- the state with these late counts
abbrev pub with_late : State → Late → State
with_late state late = record { entries = state.entries; live = state.live; ending = state.ending; late = late }

abbrev pub spent_of : State → State
spent_of state = record { entries = state.entries; live = []; ending = ending.Spent; late = state.late }

module _ (setting : Setting) where
  -- an ended actor's late counts rise, and nothing else changes
  pub ended_state : (sent : List Sent) (state : State) → is_running state.ending ≡ false → after_all setting state sent ≡ with_late state (raised_by state.late sent)
  ended_state [] state e = refl
  ended_state (s ∷ sent) state e = ap (λ (x : State). after_all setting x sent) (late_is setting state s e) ∙ ended_state sent (late_step state s.0).0 e

  pub spent_state : (s : Sent) (sent : List Sent) (state : State) → is_running state.ending ≡ true → is_refused setting state s.1.message s.1.stamp ≡ true → after_all setting state (s ∷ sent) ≡ with_late (spent_of state) (raised_by state.late (s ∷ sent))
  spent_state s sent state e r = ap (λ (x : State). after_all setting x sent) (spent_is setting state s e r) ∙ ended_state sent (spent_step state s.0).0 refl

  -- it takes none of the messages: there is none, or it has ended, or it refuses the first
  abbrev pub Refuses : State → List Sent → Type 0
  Refuses state [] = Unit {0}
  Refuses state (s ∷ sent) = (is_running state.ending ≡ false) ⊎ ((is_running state.ending ≡ true) × (is_refused setting state s.1.message s.1.stamp ≡ true))

  -- the messages that are taken, and those behind them
  pub record Split (state : State) (sent : List Sent) : Type 0 where
    pub taken : List Sent
    pub behind : List Sent
    pub whole : sent ≡ taken ++ behind
    pub all : Taken setting state taken
    pub refuses : Refuses (after_all setting state taken) behind

  one_split : (s : Sent) (sent : List Sent) (state : State) → ((next : State) → Split next sent) → Split state (s ∷ sent)
  one_split s sent state later = by (is_running state.ending) refl
    where
      running : is_running state.ending ≡ true → (b : Bool) → is_refused setting state s.1.message s.1.stamp ≡ b → Split state (s ∷ sent)
      running e true r = record { taken = []; behind = s ∷ sent; whole = refl; all = tt; refuses = inr (e, r) }
      running e false r =
          let more = later (next_of setting state s) in
          record { taken = s ∷ more.taken; behind = more.behind; whole = ap (λ (xs : List Sent). s ∷ xs) more.whole; all = (e, (r, more.all)); refuses = more.refuses }

      by : (b : Bool) → is_running state.ending ≡ b → Split state (s ∷ sent)
      by false e = record { taken = []; behind = s ∷ sent; whole = refl; all = tt; refuses = inl e }
      by true e = running e (is_refused setting state s.1.message s.1.stamp) refl

  pub split : (sent : List Sent) (state : State) → Split state sent
  split [] state = record { taken = []; behind = []; whole = refl; all = tt; refuses = tt }
  split (s ∷ sent) state = one_split s sent state (split sent)

  -- the entries that the taken ones left
  pub record Left (state : State) (taken : List Sent) : Type 0 where
    pub new : List Entry
    pub are : (after_all setting state taken).entries ≡ state.entries ++ new
    pub records : AreRecords taken new

  pub left : (state : State) (taken : List Sent) → Taken setting state taken → Left state taken
  left state taken all =
      let a = adds setting taken state in
      let count = taken_count setting taken state all in
      let more : length (after_all setting state taken).entries ≡ length state.entries + length a.new = ap length a.entries_are ∙ length-append state.entries a.new in
      record { new = a.new; are = a.entries_are; records = all_recorded _ taken a.new a.records (omega arith) }

  -- messages behind leave the entries as they are
  pub behind_entries : (state : State) (behind : List Sent) → Refuses state behind → (after_all setting state behind).entries ≡ state.entries
  behind_entries state [] r = refl
  behind_entries state (s ∷ sent) (inl e) = ap (λ (x : State). x.entries) (ended_state (s ∷ sent) state e)
  behind_entries state (s ∷ sent) (inr r) = ap (λ (x : State). x.entries) (spent_state s sent state r.0 r.1)

  pub behind_late : (state : State) (behind : List Sent) → Refuses state behind → (after_all setting state behind).late ≡ raised_by state.late behind
  behind_late state [] r = refl
  behind_late state (s ∷ sent) (inl e) = ap (λ (x : State). x.late) (ended_state (s ∷ sent) state e)
  behind_late state (s ∷ sent) (inr r) = ap (λ (x : State). x.late) (spent_state s sent state r.0 r.1)

  -- a running actor has nothing behind
  pub none_behind : (state : State) (behind : List Sent) → Refuses state behind → (after_all setting state behind).ending ≡ ending.Running → behind ≡ []
  none_behind state [] r runs = refl
  none_behind state (s ∷ sent) (inl e) runs =
      let clash : true ≡ false = sym (ap is_running runs) ∙ ap (λ (x : State). is_running x.ending) (ended_state (s ∷ sent) state e) ∙ e in absurd cc
  none_behind state (s ∷ sent) (inr r) runs =
      let clash : true ≡ false = sym (ap is_running runs) ∙ ap (λ (x : State). is_running x.ending) (spent_state s sent state r.0 r.1) in absurd cc

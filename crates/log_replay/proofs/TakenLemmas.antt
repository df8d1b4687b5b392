-- Chains of fair steps: an ended actor changes its late counts alone, and a chain that records each message.
use Rattle.std.proofs.Common.{◌≡◌, ◌∙◌, ℕ, ◌+◌, ◌<◌, max, List, [], ◌∷◌, ◌++◌, length, append_assoc, map, Bool, true, false, refl, ap, sym, subst, arith}
use Rattle.std.specs.Prelude.{if◌then◌else◌, nat_lt, nat_le, not, ◌||◌}
use Rattle.std.proofs.lemmas.List.{append-nil, length-map}
use Rattle.std.proofs.lemmas.Bool.Decides.{nat_tests}
use Rattle.join_base.specs.Stamps.{greatest_stamp}
use Rattle.fair_semantics.specs.declared.run.Entry.{Entry}
use Rattle.fair_semantics.specs.Step.{Setting, State, entry_with, fits, is_refused, is_running, latest_stamp}
use Rattle.fair_semantics.specs.Fair.{Sent, after_all}
use Rattle.fair_semantics.specs.Linked.{unstamped_entry}
use Rattle.fair_semantics.proofs.FairLemmas.{latest_stamp-more}
use Rattle.log_posts.specs.Posts.{stamped_as, stamped_anew}
use Rattle.log_posts.specs.Stamps.{next_stamp}
use Rattle.log_replay.specs.Expected.{restamped}
use Rattle.log_replay.proofs.BareLemmas.{arrival_alike, bare_state}
pub use Rattle.fair_semantics.proofs.TakenLemmas.{OnlyLate, Taken, arrival_is, arrival_of, ended, late_is, next_of, not_late, one_more, or_none, or_parts, records, spent_is, spent_on, taken_count, taken_or_fewer}

-- the message without its stamp
abbrev pub unsent : Sent → Sent
unsent s = (s.0, record { message = s.1.message; stamp = 0 })

-- the entries that follow from these stamps that came
abbrev pub Follow : ℕ → List Sent → List Entry → Type 0
Follow latest [] [] = Unit {0}
Follow latest [] (e ∷ entries) = ⊥
Follow latest (s ∷ sent) [] = ⊥
Follow latest (s ∷ sent) (e ∷ entries) = (e.stamp ≡ next_stamp latest s.1.stamp) × Follow e.stamp sent entries

module _ (setting : Setting) where
  -- a message that is not refused has a stamp left
  stamp_left : (state : State) (s : Sent) → is_refused setting state s.1.message s.1.stamp ≡ false → next_stamp (latest_stamp state.entries) s.1.stamp ≡ max (latest_stamp state.entries) s.1.stamp + 1
  stamp_left state s r =
      let full = or_parts (nat_le setting.limits.arrivals (length state.entries)) (not (fits setting.sorts s.1.message) || nat_le greatest_stamp (max (latest_stamp state.entries) s.1.stamp)) r in
      let unfit = or_parts (not (fits setting.sorts s.1.message)) (nat_le greatest_stamp (max (latest_stamp state.entries) s.1.stamp)) full.1 in
      let small : nat_lt (max (latest_stamp state.entries) s.1.stamp) greatest_stamp ≡ true = below (max (latest_stamp state.entries) s.1.stamp) greatest_stamp unfit.1 in
      ap (λ (b : Bool). if b then max (latest_stamp state.entries) s.1.stamp + 1 else 1) small
    where
      below : (n m : ℕ) → nat_le m n ≡ false → nat_lt n m ≡ true
      below n m e = grind (arith, nat_tests)

  -- the entries that a chain adds
  pub record Adding (state : State) (sent : List Sent) : Type 0 where
    pub new : List Entry
    pub are : (after_all setting state sent).entries ≡ state.entries ++ new
    pub follow : Follow (latest_stamp state.entries) sent new

  pub adding : (sent : List Sent) (state : State) → Taken setting state sent → Adding state sent
  adding [] state t = record { new = []; are = sym (append-nil state.entries); follow = tt }
  adding (s ∷ sent) state t =
      let h = records setting state s t.0 t.1.0 in
      let entry : Entry = entry_with (arrival_of state s) h.0 in
      let a = adding sent (next_of setting state s) t.1.1 in
      record {
        new = entry ∷ a.new;
        are = a.are ∙ ap (λ (xs : List Entry). xs ++ a.new) h.1.0 ∙ append_assoc state.entries (entry ∷ []) a.new;
        follow = (sym (stamp_left state s t.1.0), subst (λ (l : ℕ). Follow l sent a.new) (ap latest_stamp h.1.0 ∙ latest_stamp-more state.entries entry) a.follow);
      }

  -- a chain over the messages without stamps does the same but for stamps
  pub bare_chain : (sent : List Sent) (state other : State) → bare_state state ≡ bare_state other → latest_stamp other.entries ≡ length other.entries → length other.entries + length sent < greatest_stamp → Taken setting state sent → bare_state (after_all setting state sent) ≡ bare_state (after_all setting other (map unsent sent))
  bare_chain [] state other same latest small t = same
  bare_chain (s ∷ sent) state other same latest small t =
      let count : length state.entries ≡ length other.entries = sym (length-map state.entries unstamped_entry) ∙ ap (λ (x : State). length x.entries) same ∙ length-map other.entries unstamped_entry in
      let full = or_parts (nat_le setting.limits.arrivals (length state.entries)) (not (fits setting.sorts s.1.message) || nat_le greatest_stamp (max (latest_stamp state.entries) s.1.stamp)) t.1.0 in
      let unfit = or_parts (not (fits setting.sorts s.1.message)) (nat_le greatest_stamp (max (latest_stamp state.entries) s.1.stamp)) full.1 in
      let room : nat_le greatest_stamp (max (latest_stamp other.entries) 0) ≡ false = below greatest_stamp (max (latest_stamp other.entries) 0) (omega arith) in
      let running : is_running other.ending ≡ true = sym (ap (λ (x : State). is_running x.ending) same) ∙ t.0 in
      let taken : is_refused setting other s.1.message 0 ≡ false = or_none _ _ (sym (ap (nat_le setting.limits.arrivals) count) ∙ full.0) (or_none _ _ unfit.0 room) in
      let next : State = next_of setting other (unsent s) in
      let h = records setting other (unsent s) running taken in
      let more = one_more setting other next (entry_with (arrival_of other (unsent s)) h.0) h.1.0 in
      let last : latest_stamp next.entries ≡ max (latest_stamp other.entries) 0 + 1 = ap latest_stamp h.1.0 ∙ latest_stamp-more other.entries (entry_with (arrival_of other (unsent s)) h.0) in
      let alike = ap bare_state (arrival_is setting state s t.0 t.1.0) ∙ arrival_alike setting state other same s.0 s.1.message s.1.stamp 0 ∙ sym (ap bare_state (arrival_is setting other (unsent s) running taken)) in
      bare_chain sent (next_of setting state s) next alike (omega arith) (omega arith) t.1.1
    where
      below : (n m : ℕ) → m < n → nat_le n m ≡ false
      below n m e = grind (arith, nat_tests)

-- ---- stamps of entries that are equal but for stamps

pub restamped_is : (latest : ℕ) (sent : List Sent) (new entries : List Entry) → Follow latest sent new → map unstamped_entry entries ≡ map unstamped_entry new → restamped latest sent entries ≡ new
restamped_is latest [] [] [] f same = refl
restamped_is latest [] [] (e ∷ entries) f same = absurd cc
restamped_is latest [] (x ∷ new) entries f same = absurd f
restamped_is latest (s ∷ sent) [] entries f same = absurd f
restamped_is latest (s ∷ sent) (x ∷ new) [] f same = absurd cc
restamped_is latest (s ∷ sent) (x ∷ new) (e ∷ entries) f same =
    let here : unstamped_entry e ≡ unstamped_entry x = cc in
    let later : map unstamped_entry entries ≡ map unstamped_entry new = cc in
    let stamp : ℕ = next_stamp latest s.1.stamp in
    let first : stamped_anew e stamp ≡ x = ap (λ (y : Entry). stamped_anew y stamp) here ∙ ap (stamped_anew x) (sym f.0) in
    let others : restamped stamp sent entries ≡ new = ap (λ (n : ℕ). restamped n sent entries) (sym f.0) ∙ restamped_is x.stamp sent new entries f.1 later in
    λ i. first i ∷ others i

pub stamped_alike : (entries lines : List Entry) → map unstamped_entry entries ≡ map unstamped_entry lines → stamped_as entries lines ≡ lines
stamped_alike [] [] same = refl
stamped_alike [] (l ∷ lines) same = absurd cc
stamped_alike (e ∷ entries) [] same = absurd cc
stamped_alike (e ∷ entries) (l ∷ lines) same =
    let here : unstamped_entry e ≡ unstamped_entry l = cc in
    let later : map unstamped_entry entries ≡ map unstamped_entry lines = cc in
    λ i. stamped_anew (here i) l.stamp ∷ stamped_alike entries lines later i

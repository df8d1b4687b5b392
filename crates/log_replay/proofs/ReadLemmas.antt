-- A run that is its own expected run: each actor recorded each of its arrivals, with the stamps that the fair steps
-- give.
use Rattle.std.proofs.Common.{◌≡◌, ◌∙◌, inl, inr, ℕ, suc, ◌+◌, ◌<◌, ◌≤◌, max, List, [], ◌∷◌, ◌++◌, length, length-append, map, Bool, true, false, Some, slice_get, refl, ap, sym, subst, arith}
use Rattle.std.specs.Prelude.{if◌then◌else◌, nat_lt, nat_le, not, ◌||◌, ◌==◌}
use Rattle.std.specs.List.{AllByRecursion}
use Rattle.std.proofs.lemmas.List.{length-map}
use Rattle.std.proofs.lemmas.Option.{same_Some, slice_get_within}
use Rattle.std.proofs.lemmas.Bool.Decides.{nat_tests}
use Rattle.join_base.specs.Stamps.{greatest_stamp}
use Rattle.join_base.specs.declared.message.Message.{Message}
use Rattle.join_base.specs.declared.message.Stamped.{Stamped}
use Rattle.join_base.specs.declared.message.Source.{Source}
use Rattle.join_base.proofs.EachLemmas.{each_from_get}
use Rattle.pattern_core.specs.Members.{IsIn}
use Rattle.pattern_core.proofs.MembersLemmas.{IsIn-flat_map_from, IsIn-map_from}
use Rattle.script_types.specs.declared.plan.Plan.{Plan}
use Rattle.fair_semantics.specs.declared.run.Entry.{Entry}
use Rattle.fair_semantics.specs.declared.run.ActorRun.{ActorRun}
use Rattle.fair_semantics.specs.declared.run.Run.{Run}
use Rattle.fair_semantics.specs.Step.{Setting, State, entry_with, fits, is_refused, is_running, latest_stamp, opening}
use Rattle.fair_semantics.specs.Fair.{Sent, after_all, setting_of}
use Rattle.fair_semantics.specs.Fits.{EntryFits, RunFits}
use Rattle.fair_semantics.specs.Linked.{arrived, arrived_after, numbers_from, posts_in, posts_of, stamp_at, taken_from, unstamped_entry}
use Rattle.fair_semantics.specs.StampLaw.{arrivals_of}
use Rattle.fair_semantics.proofs.FairLemmas.{latest_stamp-more}
use Rattle.fair_semantics.proofs.ListLemmas.{each_in}
use Rattle.fair_semantics.proofs.StampLemmas.{Known, ZeroOr, came_known, count_from, count_to-length, entry_known, found_in, max_of, place_in, stamp_of_entry, stamps}
use Rattle.run_order_law.proofs.ArrivalLemmas.{length-arrived}
use Rattle.run_order_law.specs.Sorted.{entries_in}
use Rattle.log_posts.specs.Posts.{stamped_as}
use Rattle.log_posts.specs.Stamps.{next_stamp}
use Rattle.log_replay.specs.Expected.{bare, expected_actor, expected_late, expected_posts, expected_run, read_entries, restamped, stamped_in, stamps_sent, stepped}
use Rattle.log_replay.proofs.BareLemmas.{bare_state, arrival_alike, next_of}
pub use Rattle.fair_semantics.proofs.NumberLemmas.{get_numbers}
use Rattle.log_replay.proofs.TakenLemmas.{Follow, Taken, arrival_is, arrival_of, or_none, or_parts, records, stamped_alike, taken_count, taken_or_fewer, unsent}
use Rattle.log_replay.proofs.ActorLemmas.{arrived_same, taken_few, unstamped_twice, posts_are, stamps_are}
use Rattle.log_replay.proofs.BoundLemmas.{most, one_or_two, sum_at_most}
use Rattle.log_replay.proofs.EndingLemmas.{settled_entries}

-- ---- stamps

restamped_few : (latest : ℕ) (sent : List Sent) (entries : List Entry) → length (restamped latest sent entries) ≤ length entries
restamped_few latest sent [] = omega arith
restamped_few latest [] (e ∷ entries) = omega arith
restamped_few latest (s ∷ sent) (e ∷ entries) = let later = restamped_few (next_stamp latest s.1.stamp) sent entries in omega (arith, later)

pub stamped_few : (version : ℕ) (sent : List Sent) (entries : List Entry) → length (stamped_in version sent entries) ≤ length entries
stamped_few version sent entries = by (version == 1)
  where
    by : (b : Bool) → length (if b then map unstamped_entry entries else restamped 0 sent entries) ≤ length entries
    by true = let same = length-map entries unstamped_entry in omega (arith, same)
    by false = restamped_few 0 sent entries

restamped_bare : (latest : ℕ) (sent : List Sent) (entries : List Entry) → length entries ≤ length sent → map unstamped_entry (restamped latest sent entries) ≡ map unstamped_entry entries
restamped_bare latest sent [] l = refl
restamped_bare latest [] (e ∷ entries) l = absurd (omega arith)
restamped_bare latest (s ∷ sent) (e ∷ entries) l = ap (λ (xs : List Entry). unstamped_entry e ∷ xs) (restamped_bare (next_stamp latest s.1.stamp) sent entries (omega arith))

pub stamped_bare : (version : ℕ) (sent : List Sent) (entries : List Entry) → length entries ≤ length sent → map unstamped_entry (stamped_in version sent entries) ≡ map unstamped_entry entries
stamped_bare version sent entries l = by (version == 1)
  where
    by : (b : Bool) → map unstamped_entry (if b then map unstamped_entry entries else restamped 0 sent entries) ≡ map unstamped_entry entries
    by true = unstamped_twice entries
    by false = restamped_bare 0 sent entries l

restamped_follow : (latest : ℕ) (sent : List Sent) (entries : List Entry) → length entries ≡ length sent → Follow latest sent (restamped latest sent entries)
restamped_follow latest [] [] l = tt
restamped_follow latest [] (e ∷ entries) l = absurd (omega arith)
restamped_follow latest (s ∷ sent) [] l = absurd (omega arith)
restamped_follow latest (s ∷ sent) (e ∷ entries) l = (refl, restamped_follow (next_stamp latest s.1.stamp) sent entries (omega arith))

-- each stamp is 1, or 1 more than a known one or 0
stamp_behind : (P : ℕ → Type 0) (posts : Source → List Stamped) → ((source : Source) (k : ℕ) → ZeroOr P (stamp_at (slice_get (posts source) k))) → (earlier entries : List Entry) (latest : ℕ) → ZeroOr P latest
    → ((e : Entry) → IsIn e entries → P e.stamp) → Follow latest (arrived_after posts earlier entries) entries → (e : Entry) → IsIn e entries → (n : ℕ) → e.stamp ≡ suc n → ZeroOr P n
stamp_behind P posts sent earlier [] latest zero_or known f e h n is = absurd h
stamp_behind P posts sent earlier (x ∷ entries) latest zero_or known f e (inl same) n is =
    let carried : ℕ = stamp_at (slice_get (posts x.source) (length (taken_from x.source earlier))) in
    let stamp : suc n ≡ next_stamp latest carried = sym is ∙ ap (λ (y : Entry). y.stamp) (sym same) ∙ f.0 in
    by carried (max_of P latest carried zero_or (sent x.source (length (taken_from x.source earlier)))) (nat_lt (max latest carried) greatest_stamp) stamp
  where
    by : (carried : ℕ) → ZeroOr P (max latest carried) → (b : Bool) → suc n ≡ (if b then max latest carried + 1 else 1) → ZeroOr P n
    by carried z true e = let here : max latest carried ≡ n = omega (arith, e) in subst (ZeroOr P) here z
    by carried z false e = inl (omega (arith, e))
stamp_behind P posts sent earlier (x ∷ entries) latest zero_or known f e (inr h) n is =
    stamp_behind P posts sent (earlier ++ x ∷ []) entries x.stamp (inr (known x (inl refl))) (λ y i. known y (inr i)) f.1 e h n is

-- ---- a chain with stamps that are far below the greatest records what the chain without them does

module _ (setting : Setting) where
  pub stamped_chain : (sent : List Sent) (state other : State) → bare_state state ≡ bare_state other → latest_stamp state.entries ≤ most + length state.entries → AllByRecursion (λ (s : Sent). s.1.stamp ≤ most) sent → length state.entries + length sent ≤ 1000000 → Taken setting other (map unsent sent) → Taken setting state sent
  stamped_chain [] state other same latest small few t = tt
  stamped_chain (s ∷ sent) state other same latest small few t =
      let count : length state.entries ≡ length other.entries = sym (length-map state.entries unstamped_entry) ∙ ap (λ (x : State). length x.entries) same ∙ length-map other.entries unstamped_entry in
      let full = or_parts (nat_le setting.limits.arrivals (length other.entries)) (not (fits setting.sorts s.1.message) || nat_le greatest_stamp (max (latest_stamp other.entries) 0)) t.1.0 in
      let unfit = or_parts (not (fits setting.sorts s.1.message)) (nat_le greatest_stamp (max (latest_stamp other.entries) 0)) full.1 in
      let room : nat_le greatest_stamp (max (latest_stamp state.entries) s.1.stamp) ≡ false = below greatest_stamp (max (latest_stamp state.entries) s.1.stamp) (omega (arith, small.0)) in
      let running : is_running state.ending ≡ true = ap (λ (x : State). is_running x.ending) same ∙ t.0 in
      let taken : is_refused setting state s.1.message s.1.stamp ≡ false = or_none _ _ (ap (nat_le setting.limits.arrivals) count ∙ full.0) (or_none _ _ unfit.0 room) in
      let next : State = next_of setting state s in
      let h = records setting state s running taken in
      let more : length next.entries ≡ length state.entries + 1 = ap length h.1.0 ∙ length-append state.entries _ in
      let last : latest_stamp next.entries ≡ max (latest_stamp state.entries) s.1.stamp + 1 = ap latest_stamp h.1.0 ∙ latest_stamp-more state.entries (entry_with (arrival_of state s) h.0) in
      let alike = ap bare_state (arrival_is setting state s running taken) ∙ arrival_alike setting state other same s.0 s.1.message s.1.stamp 0 ∙ sym (ap bare_state (arrival_is setting other (unsent s) t.0 t.1.0)) in
      (running, (taken, stamped_chain sent next (next_of setting other (unsent s)) alike (omega (arith, last, small.0)) small.1 (omega (arith, more)) t.1.1))
    where
      below : (n m : ℕ) → m < n → nat_le n m ≡ false
      below n m e = grind (arith, nat_tests)

module _ (plan : Plan) (feeds : List (List (ℕ × Message))) (run : Run) (fit : RunFits plan run) (few_actors : length plan.actors ≤ 32) (same : expected_run plan run ≡ run) where
  abbrev pub start : State
  start = opening run.feeds (length plan.actors)

  abbrev pub limit_at_most : run.limits.arrivals ≤ 1000000
  limit_at_most = fit.arrivals.1

  module _ (actor : ℕ) (own : ActorRun) (there : slice_get run.actors actor ≡ Some own) where
    abbrev pub setting : Setting
    setting = setting_of plan actor run.limits

    abbrev pub posts : Source → List Stamped
    posts source = posts_of feeds run.actors source actor

    pub small : actor < length plan.actors
    small = let within = slice_get_within run.actors actor own there in omega (arith, within, fit.actors)

    pub own_expected : expected_actor plan run actor ≡ own
    own_expected =
        let e : 0 + actor ≡ actor = omega arith in
        let at : slice_get (map (expected_actor plan run) (numbers_from 0 (length plan.actors))) actor ≡ Some (expected_actor plan run actor) = get_numbers (expected_actor plan run) 0 (length plan.actors) actor small ∙ ap (λ (i : ℕ). Some (expected_actor plan run i)) e in
        same_Some (expected_actor plan run actor) own (sym at ∙ ap (λ (r : Run). slice_get r.actors actor) same ∙ there)

    read : read_entries run actor ≡ own.entries
    read = ap entries_in there

    abbrev pub again : State
    again = stepped plan run actor

    again_is : again ≡ after_all setting start (map bare own.entries)
    again_is = ap (λ (es : List Entry). after_all setting start (map bare es)) read

    abbrev sent_so : List Sent
    sent_so = arrived (stamps_sent plan run actor) (read_entries run actor)

    entries_are : stamped_in run.version sent_so again.entries ≡ own.entries
    entries_are = ap (stamped_in run.version sent_so) (sym (settled_entries again (expected_late plan run actor))) ∙ ap (λ (x : ActorRun). x.entries) own_expected

    at_least : length own.entries ≤ length again.entries
    at_least = let same_length = ap length entries_are in let fewer = stamped_few run.version sent_so again.entries in omega (arith, same_length, fewer)

    pub bare_taken : Taken setting start (map bare own.entries)
    bare_taken = elim (taken_or_fewer setting (map bare own.entries) start) [
      | inl t ↦ t
      | inr f ↦
          let sent_count : length (map bare own.entries) ≡ length own.entries = length-map own.entries bare in
          let again_count : length again.entries ≡ length (after_all setting start (map bare own.entries)).entries = ap (λ (s : State). length s.entries) again_is in
          absurd (omega (arith, f.1, at_least, sent_count, again_count))
    ]

    pub again_count : length again.entries ≡ length own.entries
    again_count =
        let sent_count : length (map bare own.entries) ≡ length own.entries = length-map own.entries bare in
        let all = taken_count setting (map bare own.entries) start bare_taken in
        let is : length again.entries ≡ length (after_all setting start (map bare own.entries)).entries = ap (λ (s : State). length s.entries) again_is in
        omega (arith, all, sent_count, is)

    pub few : length own.entries ≤ run.limits.arrivals
    few = let sent_count : length (map bare own.entries) ≡ length own.entries = length-map own.entries bare in let l = taken_few setting (map bare own.entries) start bare_taken (omega arith) in omega (arith, l, sent_count)

    sent_count : length sent_so ≡ length own.entries
    sent_count = length-arrived (stamps_sent plan run actor) [] (read_entries run actor) ∙ ap length read

    pub entries_alike : map unstamped_entry again.entries ≡ map unstamped_entry own.entries
    entries_alike = sym (stamped_bare run.version sent_so again.entries (omega (arith, sent_count, again_count))) ∙ ap (map unstamped_entry) entries_are

    pub stamped_entries : stamped_as again.entries (read_entries run actor) ≡ own.entries
    stamped_entries = ap (stamped_as again.entries) read ∙ stamped_alike again.entries own.entries entries_alike

  -- what an actor posts by its expected entries is what it posted
  pub expected_is : (from to : ℕ) → expected_posts plan run from to ≡ posts_in to (slice_get run.actors from)
  expected_is = posts_are plan run stamped_entries

  module _ (actor : ℕ) (own : ActorRun) (there : slice_get run.actors actor ≡ Some own) where
    -- its arrivals as they were sent
    abbrev pub came : List Sent
    came = arrived (posts actor own there) own.entries

    came_is : arrived (stamps_sent plan run actor) (read_entries run actor) ≡ came
    came_is = ap (arrived (stamps_sent plan run actor)) (ap entries_in there) ∙ arrived_same (stamps_sent plan run actor) (posts actor own there) (stamps_are plan feeds run stamped_entries actor) [] own.entries

    pub stamped_came : stamped_in run.version came (again actor own there).entries ≡ own.entries
    stamped_came = ap (λ (xs : List Sent). stamped_in run.version xs (again actor own there).entries) (sym came_is) ∙ entries_are actor own there

    follow : run.version ≡ 2 → Follow 0 came own.entries
    follow second =
        let is : restamped 0 came (again actor own there).entries ≡ own.entries = sym (ap (λ (v : ℕ). stamped_in v came (again actor own there).entries) second) ∙ stamped_came in
        let all = length-arrived (posts actor own there) [] own.entries in
        subst (Follow 0 came) is (restamped_follow 0 came (again actor own there).entries (again_count actor own there ∙ sym all))

  -- no stamp is greater than the number of all arrivals
  few_arrivals : length (arrivals_of run.actors) ≤ most
  few_arrivals =
      let each = each_from_get (λ (r : ActorRun). length r.entries ≤ 1000000) run.actors (λ k r e. let n = few k r e in omega (arith, n, limit_at_most)) in
      let sum = sum_at_most run.actors each in
      omega (arith, sum, fit.actors, few_actors)

  down : run.version ≡ 2 → (n : ℕ) → IsIn (suc n) (stamps run.actors) → ZeroOr (Known run.actors) n
  down second n i =
      let e = IsIn-map_from stamp_of_entry (suc n) (arrivals_of run.actors) i in
      let own = IsIn-flat_map_from (λ (x : ActorRun). x.entries) e.0 run.actors e.1 in
      let at = place_of run.actors own.0 own.1 in
      stamp_behind (Known run.actors) (λ source. posts_of feeds run.actors source at.0) (came_known run.actors feeds at.0) [] own.0.entries 0 (inl refl) (λ y j. entry_known run.actors own.0 y own.1 j) (follow at.0 own.0 at.1 second) e.0 own.2 n e.2
    where
      place_of : (xs : List ActorRun) (x : ActorRun) → IsIn x xs → (k : ℕ) × (slice_get xs k ≡ Some x)
      place_of xs x h = place_in xs x h

  pub stamps_small : (actor : ℕ) (own : ActorRun) → slice_get run.actors actor ≡ Some own → (e : Entry) → IsIn e own.entries → e.stamp ≤ most
  stamps_small actor own there e h =
      elim (one_or_two run.version fit.version.0 fit.version.1) [
        | inl first ↦
            let own_fits = each_in _ run.actors fit.each own (found_in run.actors actor own there) in
            let f = each_in (EntryFits plan run.version run.feeds) own.entries own_fits.entries e h in
            let none = f.stamp.first first in
            omega (arith, none)
        | inr second ↦
            let known : Known run.actors e.stamp = entry_known run.actors own e (found_in run.actors actor own there) h in
            let count = count_from (stamps run.actors) (down second) e.stamp (inr known) in
            let all = count_to-length e.stamp (stamps run.actors) in
            let many : length (stamps run.actors) ≡ length (arrivals_of run.actors) = length-map (arrivals_of run.actors) stamp_of_entry in
            omega (arith, count, all, many, few_arrivals)
      ]

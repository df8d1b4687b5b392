-- What a linked actor did: it recorded each of its arrivals in turn, and none of the rests behind them.
use Rattle.std.proofs.Common.{◌≡◌, ◌∙◌, inl, inr, ℕ, zero, suc, ◌+◌, ◌<◌, ◌≤◌, max, List, [], ◌∷◌, ◌++◌, length, length-append, map, Bool, true, false, Option, None, Some, slice_get, refl, ap, sym, arith}
use Rattle.std.specs.Prelude.{if◌then◌else◌, nat_le, not, ◌||◌, ◌==◌}
use Rattle.std.specs.List.{flat_map}
use Rattle.std.proofs.lemmas.List.{append-nil, length-map, nil_from_length}
use Rattle.std.proofs.lemmas.Bool.Decides.{nat_tests}
use Rattle.join_base.specs.Stamps.{greatest_stamp}
use Rattle.join_base.specs.declared.message.Message.{Message}
use Rattle.join_base.specs.declared.message.Stamped.{Stamped}
use Rattle.join_base.specs.declared.message.Source.{Source}
use Rattle.join_base.specs.declared.message.Source.TheVariants.{Feed, Actor}
use Rattle.script_types.specs.declared.plan.Plan.{Plan}
use Rattle.script_types.specs.declared.plan.Rule.{Rule}
use Rattle.fair_semantics.specs.declared.run.Entry.{Entry}
use Rattle.fair_semantics.specs.declared.run.ActorRun.{ActorRun}
use Rattle.fair_semantics.specs.declared.run.Run.{Run}
use Rattle.fair_semantics.specs.Step.{Setting, State, fits, latest_stamp, opening}
use Rattle.join_base.specs.Late.{late_counts}
use Rattle.fair_semantics.specs.Fair.{Sent, after_all, fair, partials_of, run_of, setting_of}
use Rattle.fair_semantics.specs.Linked.{arrived, arrived_after, entry_posts, in_version, posts_in, posts_of, rests_of, stamp_at, taken_from, unstamped, unstamped_entry, IsLinked}
use Rattle.fair_semantics.proofs.ChainLemmas.{adds}
use Rattle.fair_semantics.proofs.FairLemmas.{after_all-append}
use Rattle.fair_semantics.proofs.LinkedLemmas.{feed_unstamped}
use Rattle.run_order_law.proofs.ArrivalLemmas.{length-arrived}
use Rattle.run_order_law.specs.Sorted.{entries_in}
use Rattle.log_posts.specs.Posts.{stamped_as}
use Rattle.log_replay.specs.Expected.{bare, expected_posts, read_entries, restamped, stamped_in, stamps_sent, stepped}
use Rattle.log_replay.proofs.BareLemmas.{bare_state, next_of}
use Rattle.log_replay.proofs.TakenLemmas.{Taken, adding, bare_chain, ended, or_parts, records, restamped_is, stamped_alike, taken_count, taken_or_fewer, unsent}

-- ---- a run and the state that it shows

pub record Shows (rules : List Rule) (own : ActorRun) (state : State) : Type 0 where
  pub entries : map unstamped_entry own.entries ≡ map unstamped_entry state.entries
  pub late : own.late ≡ late_counts state.late
  pub ending : own.ending ≡ state.ending
  pub left : own.left ≡ state.live
  pub partials : own.partials ≡ partials_of rules state

pub unstamped_twice : (entries : List Entry) → map unstamped_entry (map unstamped_entry entries) ≡ map unstamped_entry entries
unstamped_twice [] = refl
unstamped_twice (e ∷ entries) = ap (λ (xs : List Entry). unstamped_entry e ∷ xs) (unstamped_twice entries)

pub shows : (version : ℕ) (rules : List Rule) (own : ActorRun) (state : State) → own ≡ in_version version (run_of rules state) → Shows rules own state
shows version rules own state = by (version == 1)
  where
    by : (b : Bool) → own ≡ (if b then unstamped (run_of rules state) else run_of rules state) → Shows rules own state
    by true e = record {
      entries = ap (λ (x : ActorRun). map unstamped_entry x.entries) e ∙ unstamped_twice state.entries;
      late = ap (λ (x : ActorRun). x.late) e;
      ending = ap (λ (x : ActorRun). x.ending) e;
      left = ap (λ (x : ActorRun). x.left) e;
      partials = ap (λ (x : ActorRun). x.partials) e;
    }
    by false e = record {
      entries = ap (λ (x : ActorRun). map unstamped_entry x.entries) e;
      late = ap (λ (x : ActorRun). x.late) e;
      ending = ap (λ (x : ActorRun). x.ending) e;
      left = ap (λ (x : ActorRun). x.left) e;
      partials = ap (λ (x : ActorRun). x.partials) e;
    }

-- its entries have the stamps of its version
pub stamped_is : (version : ℕ) (rules : List Rule) (own : ActorRun) (state : State) (sent : List Sent) (entries : List Entry) → own ≡ in_version version (run_of rules state) → map unstamped_entry entries ≡ map unstamped_entry state.entries → restamped 0 sent entries ≡ state.entries → stamped_in version sent entries ≡ own.entries
stamped_is version rules own state sent entries e same is = by (version == 1) e
  where
    by : (b : Bool) → own ≡ (if b then unstamped (run_of rules state) else run_of rules state) → (if b then map unstamped_entry entries else restamped 0 sent entries) ≡ own.entries
    by true e = same ∙ sym (ap (λ (x : ActorRun). x.entries) e)
    by false e = is ∙ sym (ap (λ (x : ActorRun). x.entries) e)

-- ---- arrivals

pub arrived_unsent : (posts : Source → List Stamped) (before entries : List Entry) → map unsent (arrived_after posts before entries) ≡ map bare entries
arrived_unsent posts before [] = refl
arrived_unsent posts before (e ∷ entries) = ap (λ (xs : List Sent). bare e ∷ xs) (arrived_unsent posts (before ++ e ∷ []) entries)

-- the arrivals hang on the stamps of the posts alone
pub arrived_same : (one two : Source → List Stamped) → ((source : Source) (k : ℕ) → stamp_at (slice_get (one source) k) ≡ stamp_at (slice_get (two source) k)) → (before entries : List Entry) → arrived_after one before entries ≡ arrived_after two before entries
arrived_same one two same before [] = refl
arrived_same one two same before (e ∷ entries) = λ i. (e.source, record { message = e.message; stamp = same e.source (length (taken_from e.source before)) i }) ∷ arrived_same one two same (before ++ e ∷ []) entries i

-- ---- posts

-- the expected entries, with the stamps of the lines, are the entries that were read
abbrev pub AreRead : Plan → Run → Type 0
AreRead plan run = (actor : ℕ) (own : ActorRun) → slice_get run.actors actor ≡ Some own → stamped_as (stepped plan run actor).entries (read_entries run actor) ≡ own.entries

-- what an actor posts by its expected entries is then what it posted
pub posts_are : (plan : Plan) (run : Run) → AreRead plan run → (from to : ℕ) → expected_posts plan run from to ≡ posts_in to (slice_get run.actors from)
posts_are plan run are from to = by (slice_get run.actors from) refl
  where
    by : (o : Option ActorRun) → slice_get run.actors from ≡ o → expected_posts plan run from to ≡ posts_in to (slice_get run.actors from)
    by None e = ap (λ (es : List Entry). flat_map (entry_posts to) (stamped_as (fair plan from run.limits run.feeds (map bare es)).entries es)) (ap entries_in e) ∙ sym (ap (posts_in to) e)
    by (Some own) e = ap (flat_map (entry_posts to)) (are from own e) ∙ sym (ap (posts_in to) e)

pub stamps_are : (plan : Plan) (feeds : List (List (ℕ × Message))) (run : Run) → AreRead plan run → (actor : ℕ) (source : Source) (k : ℕ) → stamp_at (slice_get (stamps_sent plan run actor source) k) ≡ stamp_at (slice_get (posts_of feeds run.actors source actor) k)
stamps_are plan feeds run are actor (Feed zero) k = refl
stamps_are plan feeds run are actor (Feed (suc n)) k = sym (feed_unstamped actor (slice_get feeds n) k)
stamps_are plan feeds run are actor (Actor from) k = ap (λ (xs : List Stamped). stamp_at (slice_get xs k)) (posts_are plan run are from actor)

-- a chain that records each message stays below the limit
pub taken_few : (setting : Setting) (sent : List Sent) (state : State) → Taken setting state sent → length state.entries ≤ setting.limits.arrivals → length state.entries + length sent ≤ setting.limits.arrivals
taken_few setting [] state t l = omega arith
taken_few setting (s ∷ sent) state t l =
    let h = records setting state s t.0 t.1.0 in
    let more : length (next_of setting state s).entries ≡ length state.entries + 1 = ap length h.1.0 ∙ length-append state.entries _ in
    let full = or_parts (nat_le setting.limits.arrivals (length state.entries)) (not (fits setting.sorts s.1.message) || nat_le greatest_stamp (max (latest_stamp state.entries) s.1.stamp)) t.1.0 in
    let room : length state.entries < setting.limits.arrivals = below setting.limits.arrivals (length state.entries) full.0 in
    let later = taken_few setting sent (next_of setting state s) t.1.1 (omega arith) in
    omega arith
  where
    below : (n m : ℕ) → nat_le n m ≡ false → m < n
    below n m e = grind (arith, nat_tests)

module _ (plan : Plan) (feeds : List (List (ℕ × Message))) (run : Run) (linked : IsLinked plan run.limits feeds run) where
  abbrev pub start : State
  start = opening run.feeds (length plan.actors)

  module _ (actor : ℕ) (own : ActorRun) (there : slice_get run.actors actor ≡ Some own) where
    abbrev setting : Setting
    setting = setting_of plan actor run.limits

    abbrev posts : Source → List Stamped
    posts source = posts_of feeds run.actors source actor

    -- its arrivals as they were sent, and what it was given behind them
    abbrev pub came : List Sent
    came = arrived posts own.entries

    abbrev pub rest : List Sent
    rest = rests_of plan feeds run actor own.entries

    abbrev pub before : State
    before = after_all setting start came

    abbrev pub after : State
    after = after_all setting before rest

    pub own_is : own ≡ in_version run.version (run_of setting.rules after)
    own_is = (linked.each actor own there).fair ∙ ap (λ (s : State). in_version run.version (run_of setting.rules s)) (after_all-append setting start came rest)

    pub shown : Shows setting.rules own after
    shown = shows run.version setting.rules own after own_is

    count : length own.entries ≡ length after.entries
    count = sym (length-map own.entries unstamped_entry) ∙ ap length shown.entries ∙ length-map after.entries unstamped_entry

    pub taken : Taken setting start came
    taken = elim (taken_or_fewer setting came start) [
      | inl t ↦ t
      | inr f ↦
          let o = ended setting rest before f.0 in
          let kept : length after.entries ≡ length before.entries = ap length o.entries in
          let all = length-arrived posts [] own.entries in
          absurd (omega (arith, f.1, count))
    ]

    pub before_count : length before.entries ≡ length own.entries
    before_count = let sum = taken_count setting came start taken in let all = length-arrived posts [] own.entries in omega (arith, sum, all)

    pub entries_kept : after.entries ≡ before.entries
    entries_kept =
        let a = adds setting rest before in
        let sum : length after.entries ≡ length before.entries + length a.new = ap length a.entries_are ∙ length-append before.entries a.new in
        let none : a.new ≡ [] = nil_from_length a.new (omega (arith, count, before_count)) in
        a.entries_are ∙ ap (λ (xs : List Entry). before.entries ++ xs) none ∙ append-nil before.entries

    pub few : length own.entries ≤ run.limits.arrivals
    few = let all = length-arrived posts [] own.entries in let most = taken_few setting came start taken (omega arith) in omega (arith, most, all)

    read : read_entries run actor ≡ own.entries
    read = ap entries_in there

    -- the fair steps over the arrivals without stamps
    pub alike : bare_state before ≡ bare_state (stepped plan run actor)
    alike =
        let all = length-arrived posts [] own.entries in
        let most = linked.fits_plan.arrivals.1 in
        bare_chain setting came start start refl refl (omega (arith, all, most, few)) taken
        ∙ (λ i. bare_state (after_all setting start ((arrived_unsent posts [] own.entries ∙ ap (map bare) (sym read)) i)))

    pub entries_alike : map unstamped_entry (stepped plan run actor).entries ≡ map unstamped_entry own.entries
    entries_alike = sym (ap (λ (s : State). s.entries) alike) ∙ ap (map unstamped_entry) (sym entries_kept) ∙ sym shown.entries

    pub stamped_entries : stamped_as (stepped plan run actor).entries (read_entries run actor) ≡ own.entries
    stamped_entries = ap (stamped_as (stepped plan run actor).entries) read ∙ stamped_alike (stepped plan run actor).entries own.entries entries_alike

  -- what an actor posts by its expected entries is what it posted
  pub expected_is : (from to : ℕ) → expected_posts plan run from to ≡ posts_in to (slice_get run.actors from)
  expected_is = posts_are plan run stamped_entries

  -- the expected entries, with their stamps, are the entries that were read
  pub stamps_expected : (actor : ℕ) (own : ActorRun) → slice_get run.actors actor ≡ Some own → stamped_in run.version (arrived (stamps_sent plan run actor) (read_entries run actor)) (stepped plan run actor).entries ≡ own.entries
  stamps_expected actor own there =
      let setting : Setting = setting_of plan actor run.limits in
      let sent : List Sent = came actor own there in
      let a = adding setting sent start (taken actor own there) in
      let same : arrived (stamps_sent plan run actor) (read_entries run actor) ≡ sent =
      ap (arrived (stamps_sent plan run actor)) (ap entries_in there) ∙ arrived_same (stamps_sent plan run actor) (λ source. posts_of feeds run.actors source actor) (stamps_are plan feeds run stamped_entries actor) [] own.entries in
      let bare_same : map unstamped_entry (stepped plan run actor).entries ≡ map unstamped_entry (before actor own there).entries = sym (ap (λ (s : State). s.entries) (alike actor own there)) in
      let bare_new : map unstamped_entry (stepped plan run actor).entries ≡ map unstamped_entry a.new = bare_same ∙ ap (map unstamped_entry) a.are in
      let restamps : restamped 0 sent (stepped plan run actor).entries ≡ (after actor own there).entries = restamped_is 0 sent a.new (stepped plan run actor).entries a.follow bare_new ∙ sym a.are ∙ sym (entries_kept actor own there) in
      ap (λ (xs : List Sent). stamped_in run.version xs (stepped plan run actor).entries) same
      ∙ stamped_is run.version setting.rules own (after actor own there) sent (stepped plan run actor).entries (own_is actor own there) (bare_same ∙ ap (map unstamped_entry) (sym (entries_kept actor own there))) restamps

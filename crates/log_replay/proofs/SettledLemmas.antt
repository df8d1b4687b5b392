-- Settled, the run that the fair steps over the read arrivals show is the expected run of the actor.
use Rattle.std.proofs.Common.{◌≡◌, ◌∙◌, ℕ, zero, suc, ◌+◌, ◌-◌, ◌^◌, ◌<◌, ◌≤◌, min, List, [], ◌∷◌, ◌++◌, length, length-append, map, Bool, true, false, Some, slice_get, refl, sym, ap, arith}
use Rattle.std.specs.Prelude.{if◌then◌else◌, nat_lt, not, replicate, ◌&&◌, ◌||◌, ◌==◌}
use Rattle.std.specs.List.{AllByRecursion, list_any}
use Rattle.std.proofs.lemmas.Bool.Decides.{nat_tests}
use Rattle.std.proofs.lemmas.List.{length-map}
use Rattle.join_base.specs.Late.{Late, late_counts, late_list}
use Rattle.join_base.specs.declared.message.Source.{Source}
use Rattle.join_base.specs.declared.message.Source.TheVariants.{Feed, Actor}
use Rattle.join_base.specs.declared.message.Stamped.{Stamped}
use Rattle.script_types.specs.declared.plan.Plan.{Plan}
use Rattle.script_types.specs.declared.plan.Rule.{Rule}
use Rattle.pattern_core.specs.Matches.{partial_count}
use Rattle.fair_semantics.specs.declared.run.ActorRun.{ActorRun}
use Rattle.fair_semantics.specs.declared.run.Ending.TheVariants as ending
use Rattle.fair_semantics.specs.declared.run.Entry.{Entry}
use Rattle.fair_semantics.specs.declared.run.Run.{Run}
use Rattle.script_types.specs.Typed.{IsTyped}
use Rattle.fair_semantics.specs.Fits.{ActorRunFits, EntryFits, RunFits, SourceFits}
use Rattle.fair_semantics.proofs.ListLemmas.{each_from}
use Rattle.run_fit_law.proofs.LawLemmas.{rules_sound}
use Rattle.run_fit_law.proofs.RestLemmas.{cleared_exact}
use Rattle.log_replay.specs.Law.{AllRulesFit}
use Rattle.fair_semantics.specs.Fair.{Sent, run_of, setting_of}
use Rattle.fair_semantics.specs.Linked.{arrived, arrived_after, numbers_from, stamp_at, taken_from, unstamped_entry}
use Rattle.fair_semantics.specs.Step.{State, definitions_of, is_running, recorded_messages}
use Rattle.run_order_law.proofs.ArrivalLemmas.{length-arrived}
use Rattle.run_order_law.specs.Sorted.{entries_in}
use Rattle.log_posts.specs.Lates.{actor_counts, count_where, lates_made}
use Rattle.log_posts.specs.Posts.{link_posts, stamped_anew}
use Rattle.log_posts.specs.Stamps.{HasLink, link_at, next_stamp, posts_from, stamps_behind, stamps_in, with_stamps}
use Rattle.log_replay.specs.Expected.{expected_actor, expected_late, expected_posts, expected_run, late_in, may_be_late, posts_beyond, read_entries, read_late, restamped, settled, some_late, stamped_in, stamps_sent, stepped, with_entries}
use Rattle.log_replay.specs.Settling as made
use Rattle.log_replay.specs.Settling.{definition_count, links_to, made_run, made_runs}
use Rattle.log_replay.proofs.ConverseLemmas.{count_numbers}
use Rattle.log_replay.proofs.ReadLemmas.{get_numbers}
use Rattle.log_replay.proofs.SectionLemmas.{few_stepped}
use Rattle.log_replay.proofs.EndingLemmas.{settled_entries}

-- ---- links

pub links_count : (made : List ActorRun) (run : Run) (to from n : ℕ) → length (links_to made run to from n) ≡ n
links_count made run to from n = length-map (numbers_from from n) (λ k. link_posts to (entries_in (slice_get made k)) (entries_in (slice_get run.actors k))) ∙ count_numbers from n

-- ---- stamps

restamped_by : (before : ℕ) (sent : List Sent) (entries : List Entry) → length entries ≤ length sent → with_stamps (stamps_behind before sent) entries ≡ restamped before sent entries
restamped_by before [] [] l = refl
restamped_by before [] (e ∷ entries) l = absurd (omega arith)
restamped_by before (one ∷ sent) [] l = refl
restamped_by before (one ∷ sent) (e ∷ entries) l = ap (λ (es : List Entry). stamped_anew e (next_stamp before one.1.stamp) ∷ es) (restamped_by (next_stamp before one.1.stamp) sent entries (omega (arith, l)))

unstamped_by : (n : ℕ) (entries : List Entry) → length entries ≤ n → with_stamps (replicate n 0) entries ≡ map unstamped_entry entries
unstamped_by zero [] l = refl
unstamped_by zero (e ∷ entries) l = absurd (omega arith)
unstamped_by (suc n) [] l = refl
unstamped_by (suc n) (e ∷ entries) l = ap (λ (es : List Entry). unstamped_entry e ∷ es) (unstamped_by n entries (omega (arith, l)))

-- what arrives where the sources of the arrivals send the same
arrived_alike : (n : ℕ) (one two : Source → List Stamped) → ((source : Source) → HasLink n source → one source ≡ two source) → (before entries : List Entry) → AllByRecursion (λ e. HasLink n e.source) entries
    → arrived_after one before entries ≡ arrived_after two before entries
arrived_alike n one two same before [] linked = refl
arrived_alike n one two same before (e ∷ entries) linked =
    λ i. (e.source, record { message = e.message; stamp = stamp_at (slice_get (same e.source linked.0 i) (length (taken_from e.source before))) }) ∷ arrived_alike n one two same (before ++ e ∷ []) entries linked.1 i

-- ---- late counts

listed : (source : ℕ → Source) (from : ℕ) (counts : List ℕ) → list_any (λ n. not (n == 0)) counts ≡ nat_lt 0 (length (late_list source from counts))
listed source from [] = refl
listed source from (c ∷ counts) = by (c == 0) (listed source (from + 1) counts)
  where
    by : (b : Bool) → list_any (λ n. not (n == 0)) counts ≡ nat_lt 0 (length (late_list source (from + 1) counts))
        → (not b || list_any (λ n. not (n == 0)) counts) ≡ nat_lt 0 (length (if b then late_list source (from + 1) counts else (source from, c) ∷ late_list source (from + 1) counts))
    by true later = later
    by false later = sym (above (length (late_list source (from + 1) counts)))
      where
        above : (n : ℕ) → nat_lt 0 (suc n) ≡ true
        above n = grind (arith, nat_tests)

some_listed : (late : Late) → some_late late ≡ nat_lt 0 (length (late_counts late))
some_listed late =
    let feeds : List (Source × ℕ) = late_list (λ k. Feed k) 1 late.feeds in
    let actors : List (Source × ℕ) = late_list (λ a. Actor a) 0 late.actors in
    (λ i. listed (λ k. Feed k) 1 late.feeds i || listed (λ a. Actor a) 0 late.actors i)
    ∙ one_of (length feeds) (length actors)
    ∙ ap (nat_lt 0) (sym (length-append feeds actors))
  where
    one_of : (a b : ℕ) → (nat_lt 0 a || nat_lt 0 b) ≡ nat_lt 0 (a + b)
    one_of zero b = let e : b ≡ 0 + b = omega arith in ap (nat_lt 0) e
    one_of (suc a) b = grind (arith, nat_tests)

-- ---- the run of an actor

module _ (plan : Plan) (run : Run) (runs : List ActorRun) (many : length run.actors ≡ length plan.actors) (are : runs ≡ made_runs plan run 0 (length plan.actors)) where
  made_at : (a : ℕ) → a < length plan.actors → entries_in (slice_get runs a) ≡ (stepped plan run a).entries
  made_at a l =
      let same : 0 + a ≡ a = omega arith in
      ap (λ (rs : List ActorRun). entries_in (slice_get rs a)) are
      ∙ ap entries_in (get_numbers (made_run plan run) 0 (length plan.actors) a l)
      ∙ ap (λ (k : ℕ). (stepped plan run k).entries) same

  posts_at : (to a : ℕ) → a < length plan.actors → link_posts to (entries_in (slice_get runs a)) (read_entries run a) ≡ expected_posts plan run a to
  posts_at to a l = ap (λ (es : List Entry). link_posts to es (read_entries run a)) (made_at a l)

  link_is : (to a : ℕ) → a < length plan.actors → link_at (slice_get (links_to runs run to 0 (length run.actors)) a) ≡ expected_posts plan run a to
  link_is to a l =
      let same : 0 + a ≡ a = omega arith in
      ap link_at (get_numbers (λ k. link_posts to (entries_in (slice_get runs k)) (read_entries run k)) 0 (length run.actors) a (omega (arith, l, many)))
      ∙ ap (λ (k : ℕ). link_posts to (entries_in (slice_get runs k)) (read_entries run k)) same
      ∙ posts_at to a l

  module _ (to : ℕ) (may : Bool) where
    counts_are : (from m : ℕ) → from + m ≤ length plan.actors → actor_counts may (read_entries run to) from (links_to runs run to from m) ≡ map (λ k. count_where may (posts_beyond plan run k to)) (numbers_from from m)
    counts_are from zero l = refl
    counts_are from (suc m) l =
        let here = posts_at to from (omega (arith, l)) in
        (λ i. count_where may (min (length (here i) - length (taken_from (Actor from) (read_entries run to))) (2 ^ 64 - 1)) ∷ counts_are (from + 1) m (omega (arith, l)) i)

  lates_are : (to : ℕ) → lates_made (may_be_late run.limits (stepped plan run to)) (read_late run to) run.feeds (read_entries run to) (links_to runs run to 0 (length run.actors)) ≡ late_counts (expected_late plan run to)
  lates_are to =
      let may : Bool = may_be_late run.limits (stepped plan run to) in
      let feeds : List (Source × ℕ) = late_list (λ k. Feed k) 1 (expected_late plan run to).feeds in
      let counts = counts_are to may 0 (length run.actors) (omega (arith, many)) ∙ ap (λ (n : ℕ). map (λ k. count_where may (posts_beyond plan run k to)) (numbers_from 0 n)) many in
      ap (λ (ns : List ℕ). feeds ++ late_list (λ a. Actor a) 0 ns) counts

  -- whether it was spent by a late message
  settled_is : (actor : ℕ) (rules : List Rule) (state : State) (late : Late) (definitions : ℕ) → definitions ≡ partial_count (recorded_messages state.entries) [] (definitions_of rules) → made.settled_run (run_of rules state) (late_counts late) definitions ≡ run_of rules (settled state late)
  settled_is actor rules state late definitions count =
      ap (λ (b : Bool). if is_running state.ending && b then spent else late_run) (sym (some_listed late)) ∙ by (is_running state.ending && some_late late)
    where
      spent : ActorRun
      spent = record { entries = state.entries; late = late_counts late; ending = ending.Spent; left = []; partials = definitions }

      late_run : ActorRun
      late_run = record (run_of rules state) { late = late_counts late }

      spent_state : State
      spent_state = record { entries = state.entries; live = []; ending = ending.Spent; late = late }

      late_state : State
      late_state = record { entries = state.entries; live = state.live; ending = state.ending; late = late }

      by : (b : Bool) → (if b then spent else late_run) ≡ run_of rules (if b then spent_state else late_state)
      by true = λ i. record { entries = state.entries; late = late_counts late; ending = ending.Spent; left = []; partials = count i }
      by false = refl

  module _ (to : ℕ) (read : ActorRun) (there : slice_get run.actors to ≡ Some read) (linked : AllByRecursion (λ e. HasLink (length run.actors) e.source) read.entries) where
    abbrev links : List (List Stamped)
    links = links_to runs run to 0 (length run.actors)

    abbrev sent : List Sent
    sent = arrived (stamps_sent plan run to) read.entries

    lines_are : read_entries run to ≡ read.entries
    lines_are = ap entries_in there

    arrives : arrived (posts_from links) read.entries ≡ sent
    arrives = arrived_alike (length run.actors) (posts_from links) (stamps_sent plan run to) sends [] read.entries linked
      where
        sends : (source : Source) → HasLink (length run.actors) source → posts_from links source ≡ stamps_sent plan run to source
        sends (Feed k) h = refl
        sends (Actor a) h = link_is to a (omega (arith, h, many))

    stamped_is : (entries : List Entry) → length entries ≤ length read.entries → with_stamps (stamps_in run.version links read.entries) entries ≡ stamped_in run.version sent entries
    stamped_is entries few = by (run.version == 1)
      where
        by : (b : Bool) → with_stamps (if b then replicate (length read.entries) 0 else stamps_behind 0 (arrived (posts_from links) read.entries)) entries ≡ (if b then map unstamped_entry entries else restamped 0 sent entries)
        by true = unstamped_by (length read.entries) entries few
        by false = ap (λ (xs : List Sent). with_stamps (stamps_behind 0 xs) entries) arrives ∙ restamped_by 0 sent entries (omega (arith, few, length-arrived (stamps_sent plan run to) [] read.entries))

    -- settled, the run is the expected run of the actor
    pub finished_is : (definitions : ℕ) → definitions ≡ partial_count (recorded_messages (stepped plan run to).entries) [] (definitions_of (setting_of plan to run.limits).rules)
        → made.finished (made_run plan run to) (made.settlement_of runs run to (made_run plan run to) read) definitions ≡ expected_actor plan run to
    finished_is definitions count =
        let rules = (setting_of plan to run.limits).rules in
        let state : State = stepped plan run to in
        let late : Late = expected_late plan run to in
        let may : Bool = may_be_late run.limits state in
        let lates : lates_made may read.late run.feeds read.entries links ≡ late_counts late = (λ i. lates_made may (late_in (sym there i)) run.feeds (entries_in (sym there i)) links) ∙ lates_are to in
        let own : ActorRun = run_of rules (settled state late) in
        let settled_too = ap (λ (ls : List (Source × ℕ)). made.settled_run (run_of rules state) ls definitions) lates ∙ settled_is to rules state late definitions count in
        let few : length own.entries ≤ length read.entries = omega (arith, ap length (settled_entries state late), few_stepped plan run to, ap length lines_are) in
        (λ i. with_entries (settled_too i) (with_stamps (stamps_in run.version links read.entries) (settled_too i).entries))
        ∙ ap (with_entries own) (stamped_is own.entries few)
        ∙ (λ i. with_entries own (stamped_in run.version (arrived (stamps_sent plan run to) (sym lines_are i)) own.entries))

  -- the runs of all actors
  finished_from : (to m : ℕ) (reads : List ActorRun) → to + m ≡ length plan.actors → length reads ≡ m → ((k : ℕ) → slice_get run.actors (to + k) ≡ slice_get reads k) → AllByRecursion (λ own. AllByRecursion (λ e. HasLink (length run.actors) e.source) own.entries) reads
      → ((a : ℕ) → definition_count plan a ≡ partial_count (recorded_messages (stepped plan run a).entries) [] (definitions_of (setting_of plan a run.limits).rules))
      → made.finished_runs plan to (made_runs plan run to m) (made.settlements_of runs run to (made_runs plan run to m) reads) ≡ map (expected_actor plan run) (numbers_from to m)
  finished_from to zero reads whole count at linked definitions = refl
  finished_from to (suc m) [] whole count at linked definitions = absurd (omega arith)
  finished_from to (suc m) (read ∷ reads) whole count at linked definitions =
      let here : to + 0 ≡ to = omega arith in
      let there : slice_get run.actors to ≡ Some read = ap (slice_get run.actors) (sym here) ∙ at 0 in
      let first = finished_is to read there linked.0 (definition_count plan to) (definitions to) in
      let later = finished_from (to + 1) m reads (omega (arith, whole)) (omega (arith, count)) (λ k. let moved : to + 1 + k ≡ to + suc k = omega arith in ap (slice_get run.actors) moved ∙ at (suc k)) linked.1 definitions in
      λ i. first i ∷ later i

pub replay_is : (plan : Plan) (run : Run) (runs : List ActorRun) → IsTyped plan → RunFits plan run → AllRulesFit plan run.limits → runs ≡ made_runs plan run 0 (length plan.actors)
    → AllByRecursion (λ own. AllByRecursion (λ e. HasLink (length run.actors) e.source) own.entries) run.actors
    → made.finished_runs plan 0 runs (made.settlements_of runs run 0 runs run.actors) ≡ (expected_run plan run).actors
replay_is plan run runs typed fit texts are linked =
    let count : (a : ℕ) → definition_count plan a ≡ partial_count (recorded_messages (stepped plan run a).entries) [] (definitions_of (setting_of plan a run.limits).rules) =
    λ a.
    let rules : List Rule = (setting_of plan a run.limits).rules in
    let sound = rules_sound plan run.version a typed fit.replies (texts a) in
    sym (cleared_exact (recorded_messages (stepped plan run a).entries) (definitions_of rules) sound.can_rest ∙ length-map rules (λ (r : Rule). r.definition)) in
    ap (λ (rs : List ActorRun). made.finished_runs plan 0 rs (made.settlements_of runs run 0 rs run.actors)) are
    ∙ finished_from plan run runs fit.actors are 0 (length plan.actors) run.actors (omega arith) fit.actors (λ k. let e : 0 + k ≡ k = omega arith in ap (slice_get run.actors) e) linked count

-- each source of a run that fits has a link
pub sources_linked : (plan : Plan) (run : Run) → RunFits plan run → AllByRecursion (λ own. AllByRecursion (λ e. HasLink (length run.actors) e.source) own.entries) run.actors
sources_linked plan run fit =
    each_from (ActorRunFits plan run.version run.feeds) (λ (own : ActorRun). AllByRecursion (λ (e : Entry). HasLink (length run.actors) e.source) own.entries)
    (λ own h. each_from (EntryFits plan run.version run.feeds) (λ (e : Entry). HasLink (length run.actors) e.source) (λ e h. linked e.source h.source) own.entries h.entries) run.actors fit.each
  where
    linked : (source : Source) → SourceFits plan run.feeds source → HasLink (length run.actors) source
    linked (Feed k) h = tt
    linked (Actor a) h = omega (arith, h, fit.actors)

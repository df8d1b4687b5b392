-- Whether the read entries stand in for those that are the same but for stamps makes no difference.
use Rattle.std.proofs.Common.{◌≡◌, ◌∙◌, ℕ, zero, suc, ◌+◌, ◌≤◌, List, [], ◌∷◌, length, map, Bool, true, false, slice_get, refl, sym, ap, arith}
use Rattle.std.specs.Prelude.{if◌then◌else◌, nat_le, nat_lt, not, ◌&&◌, ◌||◌, ◌==◌, replicate}
use Rattle.std.specs.List.{AllByRecursion, flat_map}
use Rattle.std.proofs.lemmas.List.{length-map, length-replicate}
use Rattle.join_base.specs.declared.message.Stamped.{Stamped}
use Rattle.script_types.specs.declared.plan.Plan.{Plan}
use Rattle.fair_semantics.specs.declared.run.ActorRun.{ActorRun}
use Rattle.fair_semantics.specs.declared.run.Ending.TheVariants as ending
use Rattle.fair_semantics.specs.declared.run.Entry.{Entry}
use Rattle.fair_semantics.specs.declared.run.Limits.{Limits}
use Rattle.fair_semantics.specs.declared.run.Run.{Run}
use Rattle.fair_semantics.specs.Fair.{Sent}
use Rattle.fair_semantics.specs.Linked.{arrived, entry_posts, numbers_from, unstamped_entry}
use Rattle.run_order_law.proofs.ArrivalLemmas.{length-arrived}
use Rattle.fair_semantics.specs.Step.{is_running}
use Rattle.log_replay.specs.declared.settling.Settlement.{Settlement}
use Rattle.log_replay.specs.declared.shared.Shared.{Shared}
use Rattle.run_order_law.specs.Sorted.{entries_in}
use Rattle.log_posts.specs.Posts.{link_posts, stamped_as, stamped_anew}
use Rattle.log_posts.specs.Stamps.{next_stamp, posts_from, stamps_behind, stamps_in, with_stamps}
use Rattle.log_replay.specs.Expected.{with_entries}
use Rattle.log_posts.specs.Same.{same_entries}
use Rattle.log_posts.specs.Lates.{lates_made}
use Rattle.log_replay.specs.Settling.{definition_count, finished, finished_runs, links_to, may_be_late, settled_run, settlement_of, settlements_of}
use Rattle.log_replay.specs.Shared.{finished_all, finished_shared, kept, settlements_shown, shown, shown_all}
use Rattle.log_posts.proofs.SameLemmas.{entries_are}

-- ---- entries that are equal but for stamps

same_many : (es fs : List Entry) → map unstamped_entry es ≡ map unstamped_entry fs → length es ≡ length fs
same_many es fs same = sym (length-map es unstamped_entry) ∙ ap length same ∙ length-map fs unstamped_entry

pub stamped_like : (es fs lines : List Entry) → map unstamped_entry es ≡ map unstamped_entry fs → length es ≤ length lines → stamped_as es lines ≡ stamped_as fs lines
stamped_like [] [] lines same few = refl
stamped_like [] (f ∷ fs) lines same few = absurd cc
stamped_like (e ∷ es) [] lines same few = absurd cc
stamped_like (e ∷ es) (f ∷ fs) [] same few = absurd (omega arith)
stamped_like (e ∷ es) (f ∷ fs) (line ∷ lines) same few =
    let first : unstamped_entry e ≡ unstamped_entry f = cc in
    let more : map unstamped_entry es ≡ map unstamped_entry fs = cc in
    let later = stamped_like es fs lines more (omega (arith, few)) in
    λ i. stamped_anew (first i) line.stamp ∷ later i

stamps_like : (stamps : List ℕ) (es fs : List Entry) → map unstamped_entry es ≡ map unstamped_entry fs → length es ≤ length stamps → with_stamps stamps es ≡ with_stamps stamps fs
stamps_like [] [] [] same few = refl
stamps_like [] [] (f ∷ fs) same few = absurd cc
stamps_like [] (e ∷ es) fs same few = absurd (omega arith)
stamps_like (s ∷ stamps) [] [] same few = refl
stamps_like (s ∷ stamps) [] (f ∷ fs) same few = absurd cc
stamps_like (s ∷ stamps) (e ∷ es) [] same few = absurd cc
stamps_like (s ∷ stamps) (e ∷ es) (f ∷ fs) same few =
    let first : unstamped_entry e ≡ unstamped_entry f = cc in
    let more : map unstamped_entry es ≡ map unstamped_entry fs = cc in
    let later = stamps_like stamps es fs more (omega (arith, few)) in
    λ i. stamped_anew (first i) s ∷ later i

-- ---- one actor

-- the run with the read entries where they are the same
abbrev pub swap : ActorRun → ActorRun → ActorRun
swap read own = if same_entries own.entries read.entries then with_entries own read.entries else own

abbrev pub swap_all : List ActorRun → List ActorRun → List ActorRun
swap_all [] owns = []
swap_all (read ∷ reads) [] = []
swap_all (read ∷ reads) (own ∷ owns) = swap read own ∷ swap_all reads owns

pub kept_shown : (read own : ActorRun) → shown read (kept read.entries own) ≡ swap read own
kept_shown read own = by (same_entries own.entries read.entries)
  where
    by : (b : Bool) → shown read (if b then record { as_read = true; stamps = []; own = with_entries own [] } else record { as_read = false; stamps = []; own = own }) ≡ (if b then with_entries own read.entries else own)
    by true = refl
    by false = refl

pub kept_stamps : (read : List Entry) (own : ActorRun) → (kept read own).stamps ≡ []
kept_stamps read own = by (same_entries own.entries read)
  where
    by : (b : Bool) → (if b then (let s : Shared = record { as_read = true; stamps = []; own = with_entries own [] } in s) else record { as_read = false; stamps = []; own = own }).stamps ≡ []
    by true = refl
    by false = refl

swap_posts : (to : ℕ) (read own : ActorRun) → link_posts to (swap read own).entries read.entries ≡ link_posts to own.entries read.entries
swap_posts to read own = by (same_entries own.entries read.entries) refl
  where
    by : (b : Bool) → same_entries own.entries read.entries ≡ b → link_posts to (swap read own).entries read.entries ≡ link_posts to own.entries read.entries
    by true e =
        let same = entries_are own.entries read.entries e in
        ap (λ (x : Bool). link_posts to (if x then with_entries own read.entries else own).entries read.entries) e
        ∙ ap (flat_map (entry_posts to)) (stamped_like read.entries own.entries read.entries (sym same) (omega arith))
    by false e = ap (λ (x : Bool). link_posts to (if x then with_entries own read.entries else own).entries read.entries) e

swap_late : (limits : Limits) (read own : ActorRun) → may_be_late limits (swap read own) ≡ may_be_late limits own
swap_late limits read own = by (same_entries own.entries read.entries) refl
  where
    by : (b : Bool) → same_entries own.entries read.entries ≡ b → may_be_late limits (swap read own) ≡ may_be_late limits own
    by true e =
        let many = same_many own.entries read.entries (entries_are own.entries read.entries e) in
        ap (λ (x : Bool). may_be_late limits (if x then with_entries own read.entries else own)) e
        ∙ ap (λ (n : ℕ). not (is_running own.ending) || nat_le limits.arrivals n) (sym many)
    by false e = ap (λ (x : Bool). may_be_late limits (if x then with_entries own read.entries else own)) e

-- its run, settled
finished_with : (own : ActorRun) (entries : List Entry) (settlement : Settlement) (definitions : ℕ)
    → finished (with_entries own entries) settlement definitions ≡ with_entries (settled_run own settlement.late definitions) (with_stamps settlement.stamps entries)
finished_with own entries settlement definitions = by (is_running own.ending && nat_lt 0 (length settlement.late))
  where
    by : (b : Bool)
        → (let run : ActorRun = if b then record { entries = entries; late = settlement.late; ending = ending.Spent; left = []; partials = definitions } else record own { entries = entries; late = settlement.late } in
        record run { entries = with_stamps settlement.stamps run.entries })
        ≡ with_entries (if b then record { entries = own.entries; late = settlement.late; ending = ending.Spent; left = []; partials = definitions } else record own { late = settlement.late }) (with_stamps settlement.stamps entries)
    by true = refl
    by false = refl

swap_finished : (read own : ActorRun) (settlement : Settlement) (definitions : ℕ) → length read.entries ≤ length settlement.stamps → finished (swap read own) settlement definitions ≡ finished own settlement definitions
swap_finished read own settlement definitions many = by (same_entries own.entries read.entries) refl
  where
    by : (b : Bool) → same_entries own.entries read.entries ≡ b → finished (swap read own) settlement definitions ≡ finished own settlement definitions
    by true e =
        let same = entries_are own.entries read.entries e in
        ap (λ (x : Bool). finished (if x then with_entries own read.entries else own) settlement definitions) e
        ∙ finished_with own read.entries settlement definitions
        ∙ ap (with_entries (settled_run own settlement.late definitions)) (stamps_like settlement.stamps read.entries own.entries (sym same) many)
        ∙ sym (finished_with own own.entries settlement definitions)
    by false e = ap (λ (x : Bool). finished (if x then with_entries own read.entries else own) settlement definitions) e

shown_finished : (read : ActorRun) (shared : Shared) (settlement : Settlement) (definitions : ℕ) → shared.stamps ≡ [] → shown read (finished_shared shared settlement definitions) ≡ finished (shown read shared) settlement definitions
shown_finished read shared settlement definitions none = by shared.as_read
  where
    own : ActorRun
    own = shared.own

    settled : ActorRun
    settled = settled_run own settlement.late definitions

    by : (b : Bool) → shown read (if b then record { as_read = b; stamps = settlement.stamps; own = settled } else record { as_read = b; stamps = []; own = with_entries settled (with_stamps settlement.stamps settled.entries) })
        ≡ finished (if b then with_entries own (with_stamps shared.stamps read.entries) else own) settlement definitions
    by true = sym (finished_with own read.entries settlement definitions) ∙ ap (λ (ss : List ℕ). finished (with_entries own (with_stamps ss read.entries)) settlement definitions) (sym none)
    by false = plainly (is_running own.ending && nat_lt 0 (length settlement.late))
      where
        plainly : (b : Bool)
            → (let run : ActorRun = if b then record { entries = own.entries; late = settlement.late; ending = ending.Spent; left = []; partials = definitions } else record own { late = settlement.late } in
            with_entries run (with_stamps settlement.stamps run.entries))
            ≡ (let run : ActorRun = if b then record { entries = own.entries; late = settlement.late; ending = ending.Spent; left = []; partials = definitions } else record own { late = settlement.late } in
            record run { entries = with_stamps settlement.stamps run.entries })
        plainly true = refl
        plainly false = refl

-- ---- all actors

swap_at : (to : ℕ) (reads owns : List ActorRun) (k : ℕ) → length owns ≡ length reads
    → link_posts to (entries_in (slice_get (swap_all reads owns) k)) (entries_in (slice_get reads k)) ≡ link_posts to (entries_in (slice_get owns k)) (entries_in (slice_get reads k))
swap_at to [] [] k many = refl
swap_at to [] (own ∷ owns) k many = absurd (omega arith)
swap_at to (read ∷ reads) [] k many = absurd (omega arith)
swap_at to (read ∷ reads) (own ∷ owns) zero many = swap_posts to read own
swap_at to (read ∷ reads) (own ∷ owns) (suc k) many = swap_at to reads owns k (omega (arith, many))

swap_links : (owns : List ActorRun) (run : Run) (to : ℕ) → length owns ≡ length run.actors → links_to (swap_all run.actors owns) run to 0 (length run.actors) ≡ links_to owns run to 0 (length run.actors)
swap_links owns run to many = λ i. map (λ k. swap_at to run.actors owns k many i) (numbers_from 0 (length run.actors))

swap_settlement : (owns : List ActorRun) (run : Run) (to : ℕ) (read own : ActorRun) → length owns ≡ length run.actors → settlement_of (swap_all run.actors owns) run to (swap read own) read ≡ settlement_of owns run to own read
swap_settlement owns run to read own many =
    let links = swap_links owns run to many in
    let may = swap_late run.limits read own in
    λ i. record { late = lates_made (may i) read.late run.feeds read.entries (links i); stamps = stamps_in run.version (links i) read.entries }

-- what is to be made of them, in whichever form they are
swap_settlements : (all : List ActorRun) (run : Run) (to : ℕ) (reads owns : List ActorRun) → length all ≡ length run.actors → settlements_of (swap_all run.actors all) run to (swap_all reads owns) reads ≡ settlements_of all run to owns reads
swap_settlements all run to [] [] many = refl
swap_settlements all run to [] (own ∷ owns) many = refl
swap_settlements all run to (read ∷ reads) [] many = refl
swap_settlements all run to (read ∷ reads) (own ∷ owns) many = λ i. swap_settlement all run to read own many i ∷ swap_settlements all run (to + 1) reads owns many i

as_shown : (made : List ActorRun) (run : Run) (to : ℕ) (reads : List ActorRun) (runs : List Shared) → settlements_shown made run to runs reads ≡ settlements_of made run to (shown_all reads runs) reads
as_shown made run to [] [] = refl
as_shown made run to [] (shared ∷ runs) = refl
as_shown made run to (read ∷ reads) [] = refl
as_shown made run to (read ∷ reads) (shared ∷ runs) = ap (λ (ss : List Settlement). settlement_of made run to (shown read shared) read ∷ ss) (as_shown made run (to + 1) reads runs)

stamps_count : (before : ℕ) (sent : List Sent) → length (stamps_behind before sent) ≡ length sent
stamps_count before [] = refl
stamps_count before (one ∷ sent) = ap suc (stamps_count (next_stamp before one.1.stamp) sent)

stamps_enough : (version : ℕ) (links : List (List Stamped)) (entries : List Entry) → length (stamps_in version links entries) ≡ length entries
stamps_enough version links entries = by (version == 1)
  where
    by : (b : Bool) → length (if b then replicate (length entries) 0 else stamps_behind 0 (arrived (posts_from links) entries)) ≡ length entries
    by true = length-replicate (length entries) 0
    by false = stamps_count 0 (arrived (posts_from links) entries) ∙ length-arrived (posts_from links) [] entries

swap_runs : (plan : Plan) (made : List ActorRun) (run : Run) (to : ℕ) (reads owns : List ActorRun)
    → finished_runs plan to (swap_all reads owns) (settlements_of made run to owns reads) ≡ finished_runs plan to owns (settlements_of made run to owns reads)
swap_runs plan made run to [] [] = refl
swap_runs plan made run to [] (own ∷ owns) = refl
swap_runs plan made run to (read ∷ reads) [] = refl
swap_runs plan made run to (read ∷ reads) (own ∷ owns) =
    let settlement : Settlement = settlement_of made run to own read in
    let enough = stamps_enough run.version (links_to made run to 0 (length run.actors)) read.entries in
    let first = swap_finished read own settlement (definition_count plan to) (omega (arith, enough)) in
    λ i. first i ∷ swap_runs plan made run (to + 1) reads owns i

shown_runs : (plan : Plan) (to : ℕ) (reads : List ActorRun) (runs : List Shared) (settlements : List Settlement) → AllByRecursion (λ (s : Shared). s.stamps ≡ []) runs
    → shown_all reads (finished_all plan to runs settlements) ≡ finished_runs plan to (shown_all reads runs) settlements
shown_runs plan to [] [] settlements none = refl
shown_runs plan to [] (shared ∷ runs) settlements none = refl
shown_runs plan to (read ∷ reads) [] settlements none = refl
shown_runs plan to (read ∷ reads) (shared ∷ runs) [] none = refl
shown_runs plan to (read ∷ reads) (shared ∷ runs) (settlement ∷ settlements) none =
    λ i. shown_finished read shared settlement (definition_count plan to) none.0 i ∷ shown_runs plan (to + 1) reads runs settlements none.1 i

-- settled and shown, they are the runs that they showed, settled
pub settled_shown : (plan : Plan) (run : Run) (made : List ActorRun) (runs : List Shared) → shown_all run.actors runs ≡ made → AllByRecursion (λ (s : Shared). s.stamps ≡ []) runs
    → shown_all run.actors (finished_all plan 0 runs (settlements_shown (shown_all run.actors runs) run 0 runs run.actors)) ≡ finished_runs plan 0 made (settlements_of made run 0 made run.actors)
settled_shown plan run made runs same none =
    let settled = as_shown (shown_all run.actors runs) run 0 run.actors runs ∙ ap (λ (rs : List ActorRun). settlements_of rs run 0 rs run.actors) same in
    shown_runs plan 0 run.actors runs (settlements_shown (shown_all run.actors runs) run 0 runs run.actors) none ∙ (λ i. finished_runs plan 0 (same i) (settled i))

-- with the read entries in place of those that are the same, it comes to the same
pub settled_swapped : (plan : Plan) (run : Run) (made : List ActorRun) → length made ≡ length run.actors
    → finished_runs plan 0 (swap_all run.actors made) (settlements_of (swap_all run.actors made) run 0 (swap_all run.actors made) run.actors) ≡ finished_runs plan 0 made (settlements_of made run 0 made run.actors)
settled_swapped plan run made many =
    ap (finished_runs plan 0 (swap_all run.actors made)) (swap_settlements made run 0 run.actors made many) ∙ swap_runs plan made run 0 run.actors made

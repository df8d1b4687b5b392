-- Runs that share their entries with those that were read.
use Rattle.std.proofs.Common.{◌≡◌, ◌∙◌, ℕ, zero, suc, ◌+◌, List, [], ◌∷◌, ◌++◌, length, Bool, true, false, Option, None, Some, slice_get, refl, sym, ap, arith}
use Rattle.std.specs.Prelude.{if◌then◌else◌, not, nat_le, ◌||◌, ◌-◌, ◌<◌}
use Rattle.std.proofs.Common.{append_assoc, drop, get_or}
use Rattle.std.proofs.Math.Seq.{drop-nil}
use Rattle.std.specs.List.{flat_map}
use Rattle.join_base.specs.declared.message.Stamped.{Stamped}
use Rattle.fair_semantics.specs.declared.run.ActorRun.{ActorRun}
use Rattle.fair_semantics.specs.declared.run.Entry.{Entry}
use Rattle.fair_semantics.specs.Linked.{entry_posts}
use Rattle.log_replay.specs.declared.shared.Shared.{Shared}
use Rattle.run_order_law.specs.Sorted.{entries_in}
use Rattle.log_posts.specs.Posts.{link_posts, stamped_as, stamped_anew}
use Rattle.log_replay.specs.Expected.{with_entries}
use Rattle.fair_semantics.specs.declared.run.Limits.{Limits}
use Rattle.fair_semantics.specs.declared.run.Run.{Run}
use Rattle.fair_semantics.specs.Step.{is_running}
use Rattle.log_replay.specs.Kept.{ends_running, link_fault, link_of}
use Rattle.log_posts.specs.Stamps.{with_stamps}
use Rattle.log_replay.specs.Settling.{links_to, may_be_late}
use Rattle.log_replay.specs.Shared.{plain, plain_at, runs_at, shown, shown_all, shown_run, stamp_or}

-- ---- stamps that are written over

stamped_over : (stamps : List ℕ) (lines : List Entry) → stamped_as (with_stamps stamps lines) lines ≡ stamped_as lines lines
stamped_over [] lines = refl
stamped_over (s ∷ stamps) [] = refl
stamped_over (s ∷ stamps) (line ∷ lines) = ap (λ (es : List Entry). stamped_anew line line.stamp ∷ es) (stamped_over stamps lines)

shown_posts : (to : ℕ) (read : ActorRun) (shared : Shared) → link_posts to (plain read shared) read.entries ≡ link_posts to (shown read shared).entries read.entries
shown_posts to read shared = by shared.as_read
  where
    by : (b : Bool) → link_posts to (if b then read.entries else shared.own.entries) read.entries ≡ link_posts to (if b then with_entries shared.own (with_stamps shared.stamps read.entries) else shared.own).entries read.entries
    by true = ap (flat_map (entry_posts to)) (sym (stamped_over shared.stamps read.entries))
    by false = refl

-- the posts of the actor at a place
pub posts_at : (to : ℕ) (reads : List ActorRun) (runs : List Shared) (k : ℕ) →
    link_posts to (plain_at (slice_get reads k) (slice_get runs k)) (entries_in (slice_get reads k)) ≡ link_posts to (entries_in (slice_get (shown_all reads runs) k)) (entries_in (slice_get reads k))
posts_at to [] runs k = refl
posts_at to (read ∷ reads) [] zero = refl
posts_at to (read ∷ reads) [] (suc k) = none (slice_get reads k)
  where
    none : (o : Option ActorRun) → link_posts to (plain_at o None) (entries_in o) ≡ link_posts to [] (entries_in o)
    none None = refl
    none (Some r) = refl
posts_at to (read ∷ reads) (shared ∷ runs) zero = shown_posts to read shared
posts_at to (read ∷ reads) (shared ∷ runs) (suc k) = posts_at to reads runs k

-- the posts from one actor more
pub links_next : (runs : List Shared) (run : Run) (to from n : ℕ) (done next whole : List (List Stamped)) (reads : List ActorRun) (posts : List Stamped) → from < n → reads ≡ run.actors
    → posts ≡ link_posts to (entries_in (slice_get (shown_all reads runs) from)) (entries_in (slice_get reads from)) → next ≡ done ++ posts ∷ []
    → done ++ links_to (shown_all run.actors runs) run to from (n - from) ≡ whole → next ++ links_to (shown_all run.actors runs) run to (from + 1) (n - (from + 1)) ≡ whole
links_next runs run to from n done next whole reads posts below by_reads by_posts more left =
    let rest : List (List Stamped) = links_to (shown_all run.actors runs) run to (from + 1) (n - (from + 1)) in
    let count : suc (n - (from + 1)) ≡ n - from = omega arith in
    let posts_are = by_posts ∙ ap (λ (rs : List ActorRun). link_posts to (entries_in (slice_get (shown_all rs runs) from)) (entries_in (slice_get rs from))) by_reads in
    ap (λ (ls : List (List Stamped)). ls ++ rest) more
    ∙ append_assoc done (posts ∷ []) rest
    ∙ ap (λ (ps : List Stamped). done ++ ps ∷ rest) posts_are
    ∙ ap (λ (k : ℕ). done ++ links_to (shown_all run.actors runs) run to from k) count
    ∙ left

-- ---- what a run shows but for its entries

pub runs_shown : (reads : List ActorRun) (runs : List Shared) (k : ℕ) → runs_at (slice_get reads k) (slice_get runs k) ≡ ends_running (slice_get (shown_all reads runs) k)
runs_shown [] runs k = refl
runs_shown (read ∷ reads) [] zero = refl
runs_shown (read ∷ reads) [] (suc k) = none (slice_get reads k)
  where
    none : (o : Option ActorRun) → runs_at o None ≡ false
    none None = refl
    none (Some r) = refl
runs_shown (read ∷ reads) (shared ∷ runs) zero = by shared.as_read
  where
    by : (b : Bool) → is_running shared.own.ending ≡ is_running (if b then with_entries shared.own (with_stamps shared.stamps read.entries) else shared.own).ending
    by true = refl
    by false = refl
runs_shown (read ∷ reads) (shared ∷ runs) (suc k) = runs_shown reads runs k

stamps_many : (stamps : List ℕ) (entries : List Entry) → length (with_stamps stamps entries) ≡ length entries
stamps_many [] entries = refl
stamps_many (s ∷ stamps) [] = refl
stamps_many (s ∷ stamps) (e ∷ entries) = ap suc (stamps_many stamps entries)

pub late_shown : (limits : Limits) (read : ActorRun) (shared : Shared) → (not (is_running shared.own.ending) || nat_le limits.arrivals (length (plain read shared))) ≡ may_be_late limits (shown read shared)
late_shown limits read shared = by shared.as_read
  where
    by : (b : Bool) → (not (is_running shared.own.ending) || nat_le limits.arrivals (length (if b then read.entries else shared.own.entries))) ≡ may_be_late limits (if b then with_entries shared.own (with_stamps shared.stamps read.entries) else shared.own)
    by true = ap (λ (n : ℕ). not (is_running shared.own.ending) || nat_le limits.arrivals n) (sym (stamps_many shared.stamps read.entries))
    by false = refl

-- what was found of a link, from its parts
pub link_is : (run : Run) (runs : List Shared) (to line : ℕ) (own : ActorRun) (from : ℕ) (reads : List ActorRun) (posts : List Stamped) (entries : List Entry) (on : Bool) (late : ℕ) (fault : Option ℕ)
    → reads ≡ run.actors → posts ≡ link_posts to (entries_in (slice_get (shown_all reads runs) from)) (entries_in (slice_get reads from)) → entries ≡ own.entries → on ≡ runs_at (slice_get reads to) (slice_get runs to)
    → late ≡ length own.late → fault ≡ link_fault posts from on late (line + 1) 0 entries → fault ≡ link_of run (shown_run run runs) to line own from
link_is run runs to line own from reads posts entries on late fault by_reads by_posts by_entries by_on by_late is =
    let posts_are = by_posts ∙ ap (λ (rs : List ActorRun). link_posts to (entries_in (slice_get (shown_all rs runs) from)) (entries_in (slice_get rs from))) by_reads in
    let on_is = by_on ∙ runs_shown reads runs to ∙ ap (λ (rs : List ActorRun). ends_running (slice_get (shown_all rs runs) to)) by_reads in
    is ∙ (λ i. link_fault (posts_are i) from (on_is i) (by_late i) (line + 1) 0 (by_entries i))

-- ---- the lines of entries with stamps

pub stamp_here : (stamps : List ℕ) (entries : List Entry) (place : ℕ) (e : Entry) → place < length entries → e ≡ get_or entries place e
    → with_stamps (drop place stamps) (drop place entries) ≡ stamped_anew e (stamp_or (slice_get stamps place) e.stamp) ∷ with_stamps (drop (suc place) stamps) (drop (suc place) entries)
stamp_here stamps [] place e l is = absurd (omega arith)
stamp_here [] (x ∷ entries) zero e l is = ap (λ (y : Entry). y ∷ entries) (sym is)
stamp_here (s ∷ stamps) (x ∷ entries) zero e l is = ap (λ (y : Entry). stamped_anew y s ∷ with_stamps stamps entries) (sym is)
stamp_here [] (x ∷ entries) (suc place) e l is =
    ap (λ (ss : List ℕ). with_stamps ss (drop place entries)) (sym (drop-nil place)) ∙ stamp_here [] entries place e (omega (arith, l)) is
    ∙ ap (λ (ss : List ℕ). stamped_anew e (stamp_or None e.stamp) ∷ with_stamps ss (drop (suc place) entries)) (drop-nil (suc place))
stamp_here (s ∷ stamps) (x ∷ entries) (suc place) e l is = stamp_here stamps entries place e (omega (arith, l)) is

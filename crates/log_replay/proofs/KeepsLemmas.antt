-- The first line of a run that does not hold of posts, against what its lines keep.
use Rattle.std.proofs.Common.{◌≡◌, inl, ◌∙◌, ℕ, zero, suc, ◌+◌, ◌<◌, ◌≤◌, List, [], ◌∷◌, ◌++◌, length, length-append, map, Bool, true, false, Option, None, Some, append_assoc, append-nil, slice_get, refl, sym, ap, subst, arith}
use Rattle.std.specs.Prelude.{◌&&◌, nat_lt, if◌then◌else◌}
use Rattle.std.specs.List.{AllByRecursion, cons_option}
use Rattle.std.proofs.lemmas.Bool.Decides.{nat_tests}
use Rattle.std.proofs.lemmas.List.{length-map}
use Rattle.std.proofs.lemmas.Bool.{and_parts, eqb-true}
use Rattle.join_base.specs.declared.message.Message.{Message}
use Rattle.join_base.specs.declared.message.Source.{Source}
use Rattle.join_base.specs.declared.message.Source.TheVariants.{Feed, Actor}
use Rattle.join_base.specs.declared.message.Stamped.{Stamped}
use Rattle.script_types.specs.declared.plan.Plan.{Plan}
use Rattle.fair_semantics.specs.declared.run.ActorRun.{ActorRun}
use Rattle.fair_semantics.specs.declared.run.Ending.TheVariants as ending
use Rattle.fair_semantics.specs.declared.run.Entry.{Entry}
use Rattle.fair_semantics.specs.declared.run.Firing.{Firing}
use Rattle.fair_semantics.specs.declared.run.Run.{Run}
use Rattle.fair_semantics.specs.Linked.{message_from, messages_of, same_source, taken_from}
use Rattle.fair_semantics.specs.Step.{is_running}
use Rattle.arrival_log.specs.LogText.{effect_line, end_line, late_line}
use Rattle.log_replay.specs.Expected.{expected_actor, expected_posts, read_entries}
use Rattle.log_replay.specs.Fault.{Line, LineKind, arrives, ends, entries_lines, lines_of_entry, firing_texts, other, other_line}
use Rattle.log_posts.specs.Posts.{has_message}
use Rattle.log_posts.specs.Same.{same_message}
use Rattle.log_replay.specs.Kept.{entry_size, firing_size, link_fault}
use Rattle.log_replay.proofs.AcceptedLemmas.{each_mapped, taken_with}
use Rattle.log_replay.proofs.ExpectedLemmas.{running_is}
use Rattle.log_replay.proofs.FirstLemmas.{First, first_behind}
use Rattle.log_posts.proofs.SameLemmas.{message_itself, same_message_is, itself}

-- ---- tests and facts

-- the source of a test
from_of : (source : Source) (from : ℕ) → same_source source (Actor from) ≡ true → source ≡ Actor from
from_of (Feed k) from e = absurd cc
from_of (Actor a) from e = ap (λ (n : ℕ). Actor n) (eqb-true a from e)

from_is : (source : Source) (from : ℕ) → source ≡ Actor from → same_source source (Actor from) ≡ true
from_is source from e = ap (λ (s : Source). same_source s (Actor from)) e ∙ itself from

-- the post at a place, and its message
has_is : (posts : List Stamped) (k : ℕ) (m : Message) → has_message (slice_get posts k) m ≡ true → slice_get (messages_of posts) k ≡ Some m
has_is [] k m e = absurd cc
has_is (p ∷ posts) zero m e = ap (λ (x : Message). Some x) (same_message_is p.message m e)
has_is (p ∷ posts) (suc k) m e = has_is posts k m e

is_has : (posts : List Stamped) (k : ℕ) (m : Message) → slice_get (messages_of posts) k ≡ Some m → has_message (slice_get posts k) m ≡ true
is_has [] k m e = absurd cc
is_has (p ∷ posts) zero m e = let same : p.message ≡ m = cc in ap (λ (x : Message). same_message x m) same ∙ message_itself m
is_has (p ∷ posts) (suc k) m e = is_has posts k m e

true_not_false : (b : Bool) → b ≡ true → b ≡ false → ⊥
true_not_false b e f = absurd cc

-- how many of the entries are from an actor, one more
pub taken_more : (from : ℕ) (before : List Entry) (e : Entry) → same_source e.source (Actor from) ≡ true → length (taken_from (Actor from) (before ++ e ∷ [])) ≡ length (taken_from (Actor from) before) + 1
taken_more from before e is =
    ap length (taken_with (Actor from) before [] e (ap (λ (b : Bool). if b then Some e.message else None) is)) ∙ length-append (taken_from (Actor from) before) (e.message ∷ [])

pub taken_same : (from : ℕ) (before : List Entry) (e : Entry) → same_source e.source (Actor from) ≡ false → taken_from (Actor from) (before ++ e ∷ []) ≡ taken_from (Actor from) before
taken_same from [] e is = ap (λ (b : Bool). cons_option (if b then Some e.message else None) []) is
taken_same from (x ∷ before) e is = ap (cons_option (message_from (Actor from) x)) (taken_same from before e is)

-- ---- the posts of one link

module _ (plan : Plan) (run : Run) where
  -- what a line says of the posts of one actor
  abbrev pub LinkKeeps : ℕ → LineKind → Type 0
  LinkKeeps from (arrives actor before entry) = entry.source ≡ Actor from → slice_get (messages_of (expected_posts plan run from actor)) (length (taken_from (Actor from) before)) ≡ Some entry.message
  LinkKeeps from (ends actor) = (expected_actor plan run actor).ending ≡ ending.Running → length (expected_posts plan run from actor) ≤ length (taken_from (Actor from) (read_entries run actor))
  LinkKeeps from other = Unit {0}

  abbrev LinkLine : ℕ → Line → Type 0
  LinkLine from l = LinkKeeps from l.mark

  others_keep : (from : ℕ) (texts : List (List ℕ)) → AllByRecursion (LinkLine from) (map other_line texts)
  others_keep from texts = each_mapped (LinkLine from) other_line (λ t. tt) texts

  lates_keep : (from : ℕ) (late : List (Source × ℕ)) → AllByRecursion (LinkLine from) (map (λ l. other_line (late_line plan l)) late)
  lates_keep from late = each_mapped (LinkLine from) (λ l. other_line (late_line plan l)) (λ l. tt) late

  pub firing_count : (o : Option Firing) → length (map other_line (firing_texts plan o)) ≡ firing_size o
  firing_count None = refl
  firing_count (Some f) = omega (arith, length-map (map (effect_line plan) f.effects) other_line, length-map f.effects (effect_line plan))

  module _ (to : ℕ) (own : ActorRun) (read : read_entries run to ≡ own.entries) (runs : Bool) (runs_is : runs ≡ is_running (expected_actor plan run to).ending) where
    abbrev last : List Line
    last = map (λ l. other_line (late_line plan l)) own.late ++ record { mark = ends to; text = end_line own } ∷ []

    module _ (from : ℕ) (posts : List Stamped) (posts_are : posts ≡ expected_posts plan run from to) where
      same_posts : messages_of posts ≡ messages_of (expected_posts plan run from to)
      same_posts = ap messages_of posts_are

      end_keeps : (taken : ℕ) → taken ≡ length (taken_from (Actor from) own.entries) → (runs && nat_lt taken (length posts)) ≡ false → LinkKeeps from (ends to)
      end_keeps taken count e running =
          let goes : runs ≡ true = runs_is ∙ ap is_running running in
          let none : nat_lt taken (length posts) ≡ false = ap (λ (b : Bool). b && nat_lt taken (length posts)) (sym goes) ∙ e in
          let most = few taken (length posts) none in
          omega (arith, most, count, ap length posts_are, ap (λ (es : List Entry). length (taken_from (Actor from) es)) read)
        where
          few : (n m : ℕ) → nat_lt n m ≡ false → m ≤ n
          few n m e = grind (arith, nat_tests)

      end_fails : (taken : ℕ) → taken ≡ length (taken_from (Actor from) own.entries) → (runs && nat_lt taken (length posts)) ≡ true → LinkKeeps from (ends to) → ⊥
      end_fails taken count e keeps =
          let h = and_parts runs (nat_lt taken (length posts)) e in
          let most = keeps (running_is (expected_actor plan run to).ending (sym runs_is ∙ h.0)) in
          let more = less taken (length posts) h.1 in
          omega (arith, most, more, count, ap length posts_are, ap (λ (es : List Entry). length (taken_from (Actor from) es)) read)
        where
          less : (n m : ℕ) → nat_lt n m ≡ true → n < m
          less n m e = grind (arith, nat_tests)

      end_first : (line taken : ℕ) → taken ≡ length (taken_from (Actor from) own.entries) → First (LinkLine from) line last (link_fault posts from runs (length own.late) line taken [])
      end_first line taken count = by (runs && nat_lt taken (length posts)) refl
        where
          late : List Line
          late = map (λ l. other_line (late_line plan l)) own.late

          many : length late ≡ length own.late
          many = length-map own.late (λ l. other_line (late_line plan l))

          by : (b : Bool) → (runs && nat_lt taken (length posts)) ≡ b → First (LinkLine from) line last (if b then Some (line + length own.late) else None)
          by true e =
              first_behind (LinkLine from) line late (record { mark = ends to; text = end_line own } ∷ []) (Some (line + length own.late)) (lates_keep from own.late)
              (inl (ap (λ (n : ℕ). line + n) (sym many), end_fails taken count e))
          by false e =
              first_behind (LinkLine from) line late (record { mark = ends to; text = end_line own } ∷ []) None (lates_keep from own.late) (end_keeps taken count e, tt)

      abbrev EntriesFirst : ℕ → ℕ → List Entry → List Entry → Type 0
      EntriesFirst line taken before entries = First (LinkLine from) line (entries_lines plan run.version to before entries ++ last) (link_fault posts from runs (length own.late) line taken entries)

      entry_first : (line taken : ℕ) (before entries : List Entry) (e : Entry) → before ++ e ∷ entries ≡ own.entries → taken ≡ length (taken_from (Actor from) before)
          → ((line taken : ℕ) (before : List Entry) → before ++ entries ≡ own.entries → taken ≡ length (taken_from (Actor from) before) → EntriesFirst line taken before entries) → EntriesFirst line taken before (e ∷ entries)
      entry_first line taken before entries e all count again = by (same_source e.source (Actor from)) refl
        where
          rest : List Line
          rest = entries_lines plan run.version to (before ++ e ∷ []) entries ++ last

          lines : (lines_of_entry plan run.version to before e ++ entries_lines plan run.version to (before ++ e ∷ []) entries) ++ last ≡ lines_of_entry plan run.version to before e ++ rest
          lines = append_assoc (lines_of_entry plan run.version to before e) (entries_lines plan run.version to (before ++ e ∷ []) entries) last

          size : line + length (lines_of_entry plan run.version to before e) ≡ line + entry_size e
          size = omega (arith, firing_count e.firing)

          next : (before ++ e ∷ []) ++ entries ≡ own.entries
          next = append_assoc before (e ∷ []) entries ∙ all

          -- where the arrival keeps what it says, by what is behind it
          on : (o : Option ℕ) → LinkKeeps from (arrives to before e) → First (LinkLine from) (line + entry_size e) rest o → First (LinkLine from) line ((lines_of_entry plan run.version to before e ++ entries_lines plan run.version to (before ++ e ∷ []) entries) ++ last) o
          on o keeps later =
              subst (λ (ls : List Line). First (LinkLine from) line ls o) (sym lines)
              (first_behind (LinkLine from) line (lines_of_entry plan run.version to before e) rest o (keeps, others_keep from (firing_texts plan e.firing))
              (subst (λ (n : ℕ). First (LinkLine from) n rest o) (sym size) later))

          taken_by : (b : Bool) → has_message (slice_get posts taken) e.message ≡ b → same_source e.source (Actor from) ≡ true
              → First (LinkLine from) line ((lines_of_entry plan run.version to before e ++ entries_lines plan run.version to (before ++ e ∷ []) entries) ++ last)
              (if b then link_fault posts from runs (length own.late) (line + entry_size e) (taken + 1) entries else Some line)
          taken_by true h is =
              on (link_fault posts from runs (length own.late) (line + entry_size e) (taken + 1) entries)
              (λ source. ap (slice_get (messages_of (expected_posts plan run from to))) (sym count) ∙ ap (λ (ms : List Message). slice_get ms taken) (sym same_posts) ∙ has_is posts taken e.message h)
              (again (line + entry_size e) (taken + 1) (before ++ e ∷ []) next (ap (λ (n : ℕ). n + 1) count ∙ sym (taken_more from before e is)))
          taken_by false h is =
              inl (
                refl,
                λ keeps.
                    true_not_false (has_message (slice_get posts taken) e.message)
                    (is_has posts taken e.message (ap (λ (ms : List Message). slice_get ms taken) same_posts ∙ ap (slice_get (messages_of (expected_posts plan run from to))) count ∙ keeps (from_of e.source from is))) h,
              )

          by : (b : Bool) → same_source e.source (Actor from) ≡ b
              → First (LinkLine from) line ((lines_of_entry plan run.version to before e ++ entries_lines plan run.version to (before ++ e ∷ []) entries) ++ last)
              (if b then (if has_message (slice_get posts taken) e.message then link_fault posts from runs (length own.late) (line + entry_size e) (taken + 1) entries else Some line)
              else link_fault posts from runs (length own.late) (line + entry_size e) taken entries)
          by true is = taken_by (has_message (slice_get posts taken) e.message) refl is
          by false is =
              on (link_fault posts from runs (length own.late) (line + entry_size e) taken entries) (λ source. absurd (true_not_false (same_source e.source (Actor from)) (from_is e.source from source) is))
              (again (line + entry_size e) taken (before ++ e ∷ []) next (count ∙ ap length (sym (taken_same from before e is))))

      -- the lines of the entries behind these, and those behind them
      pub entries_first : (line taken : ℕ) (before entries : List Entry) → before ++ entries ≡ own.entries → taken ≡ length (taken_from (Actor from) before) → EntriesFirst line taken before entries
      entries_first line taken before [] all count = end_first line taken (count ∙ ap (λ (es : List Entry). length (taken_from (Actor from) es)) (sym (append-nil before) ∙ all))
      entries_first line taken before (e ∷ entries) all count = entry_first line taken before entries e all count (λ l t b a c. entries_first l t b entries a c)

-- The search gives the first line of a run that is not that of the feeds.
use Rattle.std.proofs.Common.{◌≡◌, ◌∙◌, ℕ, zero, suc, ◌+◌, List, [], ◌∷◌, ◌++◌, length, map, Bool, true, false, Option, None, Some, append_assoc, append-nil, slice_get, refl, ap, sym, subst, arith}
use Rattle.std.specs.Prelude.{codes, if◌then◌else◌, ◌==◌, ◌-◌, ◌^◌, min, drop}
use Rattle.std.proofs.lemmas.List.{length-map}
use Rattle.join_base.specs.declared.message.Message.{Message}
use Rattle.join_base.specs.declared.message.Source.TheVariants.{Feed}
use Rattle.script_types.specs.declared.plan.ActorPlan.{ActorPlan}
use Rattle.script_types.specs.declared.plan.Plan.{Plan}
use Rattle.fair_semantics.specs.declared.run.ActorRun.{ActorRun}
use Rattle.fair_semantics.specs.declared.run.Entry.{Entry}
use Rattle.fair_semantics.specs.declared.run.Run.{Run}
use Rattle.fair_semantics.specs.Linked.{count_of, same_source}
use Rattle.arrival_log.specs.LogText.{arrival_line, end_line, head_line, late_line, line as text_line}
use Rattle.log_posts.specs.Same.{same_message}
use Rattle.log_replay.specs.Expected.{late_in, read_entries, read_late}
use Rattle.log_replay.specs.Fault.{Line, LineKind, arrives, ends, other, entries_lines, firing_texts, lines_of_entry, other_line, section_lines, sections_from}
use Rattle.log_replay.specs.Kept.{entry_size, section_size}
use Rattle.log_replay.proofs.AcceptedLemmas.{each_mapped}
use Rattle.log_replay.proofs.KeepsLemmas.{firing_count}
use Rattle.log_replay.proofs.SectionLemmas.{section_count}
use Rattle.run_order_law.specs.Sorted.{entries_in}
use Rattle.log_audit.specs.declared.refusal.Difference.{Difference}
use Rattle.log_audit.specs.Search.{earlier, left_behind, link_of, link_wrong, links_wrong, run_wrong, section_wrong, sections_wrong}
use Rattle.log_audit.specs.Wrong.{Feeds, Row, arrival_wrong, differs, end_wrong, first_difference, first_wrong, or_later, refused, rows_for, rows_left, wrong_by, wrong_from}
use Rattle.log_audit.proofs.FirstLemmas.{AreRight, Lined, Wrong, first_append, first_behind, first_both, first_none, first_same, or_assoc, or_lined, or_none}
use Rattle.log_audit.proofs.RowLemmas.{rows_next}

-- ---- what is wrong names its line

line_is : (line feed : ℕ) (row : Option Row) (d : Difference) → Some (differs line feed row) ≡ Some d → d.line ≡ line
line_is line feed row d e = let same : differs line feed row ≡ d = cc in sym (ap (λ (c : Difference). c.line) same)

none_is_some : (d : Difference) → None ≡ Some d → ⊥
none_is_some d e = absurd cc

some_where : (b : Bool) (line feed : ℕ) (row : Option Row) (d : Difference) → (if b then None else Some (differs line feed row)) ≡ Some d → d.line ≡ line
some_where true line feed row d e = absurd (none_is_some d e)
some_where false line feed row d e = line_is line feed row d e

refused_lined : (line feed : ℕ) (row : Option Row) (m : Message) (d : Difference) → refused line feed row m ≡ Some d → d.line ≡ line
refused_lined line feed None m d e = line_is line feed None d e
refused_lined line feed (Some row) m d e = some_where (same_message row.message m) line feed (Some row) d e

arrival_lined : (b : Bool) (line feed : ℕ) (row : Option Row) (m : Message) (d : Difference) → (if b then refused line feed row m else None) ≡ Some d → d.line ≡ line
arrival_lined true line feed row m d e = refused_lined line feed row m d e
arrival_lined false line feed row m d e = absurd (none_is_some d e)

module _ (plan : Plan) (run : Run) where
  abbrev By : ℕ → List (ℕ × Message) → Wrong
  By feed posts = λ n m. wrong_by run n feed posts m

  abbrev From : ℕ → Feeds → Wrong
  From feed feeds = λ n m. wrong_from run feed feeds n m

  by_lined : (feed : ℕ) (posts : List (ℕ × Message)) → Lined (By feed posts)
  by_lined feed posts n (arrives actor before entry) d e = arrival_lined (same_source entry.source (Feed feed)) n feed (slice_get (rows_left feed posts actor before) 0) entry.message d e
  by_lined feed posts n (ends actor) d e =
      let left : List Row = rows_left feed posts actor (read_entries run actor) in
      some_where (count_of (Feed feed) (read_late run actor) == min (length left) (2 ^ 64 - 1)) n feed (slice_get left 0) d e
  by_lined feed posts n other d e = absurd (none_is_some d e)

  -- ---- one feed

  others_right : (f : Wrong) → ((n : ℕ) → f n other ≡ None) → (texts : List (List ℕ)) → AreRight f (map other_line texts)
  others_right f none texts = each_mapped (λ (l : Line). (n : ℕ) → f n l.mark ≡ None) other_line (λ t. none) texts

  module _ (actor : ℕ) (own : ActorRun) (read : read_entries run actor ≡ own.entries) (late_read : read_late run actor ≡ own.late) where
    abbrev late_lines : List Line
    late_lines = map (λ l. other_line (late_line plan l)) own.late

    abbrev last : List Line
    last = late_lines ++ record { mark = ends actor; text = end_line own } ∷ []

    abbrev lines : List Line
    lines = entries_lines plan run.version actor [] own.entries ++ last

    module _ (feed : ℕ) (posts : List (ℕ × Message)) where
      abbrev late : ℕ
      late = count_of (Feed feed) own.late

      abbrev Search : ℕ → List Row → List Entry → Option Difference
      Search line left entries = link_wrong feed late (length own.late) line left entries

      end_first : (line : ℕ) (left : List Row) → left ≡ rows_left feed posts actor own.entries → Search line left [] ≡ first_wrong (By feed posts) line last
      end_first line left is =
          let many : length late_lines ≡ length own.late = length-map own.late (λ l. other_line (late_line plan l)) in
          let right : AreRight (By feed posts) late_lines = each_mapped (λ (l : Line). (n : ℕ) → By feed posts n l.mark ≡ None) (λ l. other_line (late_line plan l)) (λ l n. refl) own.late in
          (λ i. end_wrong (line + sym many i) feed ((is ∙ ap (rows_left feed posts actor) (sym read)) i) (count_of (Feed feed) (sym late_read i)))
          ∙ sym (or_none (By feed posts (line + length late_lines) (ends actor)))
          ∙ sym (first_behind (By feed posts) line late_lines (record { mark = ends actor; text = end_line own } ∷ []) right)

      entries_first : (line : ℕ) (left : List Row) (before entries : List Entry) → before ++ entries ≡ own.entries → left ≡ rows_left feed posts actor before
          → Search line left entries ≡ first_wrong (By feed posts) line (entries_lines plan run.version actor before entries ++ last)
      entries_first line left before [] all is = end_first line left (is ∙ ap (rows_left feed posts actor) (sym (append-nil before) ∙ all))
      entries_first line left before (e ∷ entries) all is =
          let later =
          entries_first (line + entry_size e) (left_behind feed left e) (before ++ e ∷ []) entries (append_assoc before (e ∷ []) entries ∙ all)
          (ap (λ (rows : List Row). left_behind feed rows e) is ∙ sym (rows_next feed posts actor before e)) in
          (λ i. or_later (arrival_wrong line feed (is i) e) (Search (line + entry_size e) (left_behind feed left e) entries))
          ∙ ap (or_later (arrival_wrong line feed (rows_left feed posts actor before) e)) (later ∙ at_size ∙ sym behind)
          ∙ sym (ap (first_wrong (By feed posts) line) parts)
        where
          at_size : first_wrong (By feed posts) (line + entry_size e) (entries_lines plan run.version actor (before ++ e ∷ []) entries ++ last)
              ≡ first_wrong (By feed posts) (line + 1 + length (map other_line (firing_texts plan e.firing))) (entries_lines plan run.version actor (before ++ e ∷ []) entries ++ last)
          at_size =
              let size : line + entry_size e ≡ line + 1 + length (map other_line (firing_texts plan e.firing)) = omega (arith, firing_count plan run e.firing) in
              ap (λ (n : ℕ). first_wrong (By feed posts) n (entries_lines plan run.version actor (before ++ e ∷ []) entries ++ last)) size

          behind : first_wrong (By feed posts) (line + 1) (map other_line (firing_texts plan e.firing) ++ (entries_lines plan run.version actor (before ++ e ∷ []) entries ++ last))
              ≡ first_wrong (By feed posts) (line + 1 + length (map other_line (firing_texts plan e.firing))) (entries_lines plan run.version actor (before ++ e ∷ []) entries ++ last)
          behind =
              first_behind (By feed posts) (line + 1) (map other_line (firing_texts plan e.firing)) (entries_lines plan run.version actor (before ++ e ∷ []) entries ++ last)
              (others_right (By feed posts) (λ n. refl) (firing_texts plan e.firing))

          parts : (lines_of_entry plan run.version actor before e ++ entries_lines plan run.version actor (before ++ e ∷ []) entries) ++ last
              ≡ lines_of_entry plan run.version actor before e ++ (entries_lines plan run.version actor (before ++ e ∷ []) entries ++ last)
          parts = append_assoc (lines_of_entry plan run.version actor before e) (entries_lines plan run.version actor (before ++ e ∷ []) entries) last

      pub link_first : (line : ℕ) → link_of actor line own feed posts ≡ first_wrong (By feed posts) (line + 1) lines
      link_first line = entries_first (line + 1) (rows_for actor 0 posts) [] own.entries refl refl

    -- ---- all feeds of a section

    links_first : (line : ℕ) (f : Wrong) → Lined f → (first : Option Difference) (feed : ℕ) (feeds : Feeds) → first ≡ first_wrong f (line + 1) lines
        → links_wrong actor line own first feed feeds ≡ first_wrong (λ n m. or_later (f n m) (From feed feeds n m)) (line + 1) lines
    links_first line f lined first feed [] is = is ∙ first_same f (λ n m. or_later (f n m) None) (λ n m. sym (or_none (f n m))) (line + 1) lines
    links_first line f lined first feed (posts ∷ feeds) is =
        let both : earlier first (link_of actor line own feed posts) ≡ first_wrong (λ n m. or_later (f n m) (By feed posts n m)) (line + 1) lines =
        (λ i. earlier (is i) (link_first feed posts line i)) ∙ first_both f (By feed posts) lined (by_lined feed posts) (line + 1) lines in
        links_first line (λ n m. or_later (f n m) (By feed posts n m)) (or_lined f (By feed posts) lined (by_lined feed posts)) (earlier first (link_of actor line own feed posts)) (feed + 1) feeds both
        ∙ first_same (λ n m. or_later (or_later (f n m) (By feed posts n m)) (From (feed + 1) feeds n m)) (λ n m. or_later (f n m) (or_later (By feed posts n m) (From (feed + 1) feeds n m)))
        (λ n m. or_assoc (f n m) (By feed posts n m) (From (feed + 1) feeds n m)) (line + 1) lines

    abbrev nothing : ℕ → LineKind → Option Difference
    nothing n m = None

    all_right : (ls : List Line) → AreRight nothing ls
    all_right [] = tt
    all_right (l ∷ ls) = ((λ n. refl), all_right ls)

    nothing_lined : Lined nothing
    nothing_lined n m d e = absurd (none_is_some d e)

    pub section_lines_first : (feeds : Feeds) (line : ℕ) → section_wrong feeds actor line own ≡ first_wrong (From 1 feeds) (line + 1) lines
    section_lines_first feeds line =
        links_first line nothing nothing_lined None 1 feeds (sym (first_none nothing (line + 1) lines (all_right lines)))
        ∙ first_same (λ n m. or_later (nothing n m) (From 1 feeds n m)) (From 1 feeds) (λ n m. refl) (line + 1) lines

  -- ---- all sections

  other_right : (feed : ℕ) (feeds : Feeds) (n : ℕ) → wrong_from run feed feeds n other ≡ None
  other_right feed [] n = refl
  other_right feed (posts ∷ feeds) n = other_right (feed + 1) feeds n

  module _ (feeds : Feeds) where
    abbrev Whole : Wrong
    Whole = From 1 feeds

    section_first : (actor : ℕ) (own : ActorRun) → slice_get run.actors actor ≡ Some own → (named : ActorPlan) (line : ℕ) → section_wrong feeds actor line own ≡ first_wrong Whole line (section_lines plan run.version actor named own)
    section_first actor own there named line =
        section_lines_first actor own (ap entries_in there) (ap late_in there) feeds line
        ∙ sym (ap (λ (o : Option Difference). or_later o (first_wrong Whole (line + 1) (lines actor own (ap entries_in there) (ap late_in there)))) (other_right 1 feeds line))

    sections_first : (actor line : ℕ) (actors : List ActorPlan) (runs : List ActorRun) → length runs ≡ length actors → ((k : ℕ) → slice_get run.actors (actor + k) ≡ slice_get runs k)
        → sections_wrong feeds actor line runs ≡ first_wrong Whole line (sections_from plan run.version actor actors runs)
    sections_first actor line [] [] many at = refl
    sections_first actor line [] (own ∷ runs) many at = absurd (omega arith)
    sections_first actor line (named ∷ actors) [] many at = absurd (omega arith)
    sections_first actor line (named ∷ actors) (own ∷ runs) many at =
        let here : actor + 0 ≡ actor = omega arith in
        let there : slice_get run.actors actor ≡ Some own = ap (slice_get run.actors) (sym here) ∙ at 0 in
        let first = section_first actor own there named line in
        let later = sections_first (actor + 1) (line + section_size own) actors runs (omega (arith, many)) (λ k. let moved : actor + 1 + k ≡ actor + suc k = omega arith in ap (slice_get run.actors) moved ∙ at (suc k)) in
        let size : line + section_size own ≡ line + length (section_lines plan run.version actor named own) = omega (arith, section_count plan run actor named own) in
        (λ i. or_later (first i) (later i))
        ∙ ap (λ (n : ℕ). or_later (first_wrong Whole line (section_lines plan run.version actor named own)) (first_wrong Whole n (sections_from plan run.version (actor + 1) actors runs))) size
        ∙ sym (first_append Whole line (section_lines plan run.version actor named own) (sections_from plan run.version (actor + 1) actors runs))

    pub run_is_first : length run.actors ≡ length plan.actors → run_wrong feeds run ≡ first_difference plan feeds run
    run_is_first many =
        sections_first 0 2 plan.actors run.actors many (λ k. let e : 0 + k ≡ k = omega arith in ap (slice_get run.actors) e)
        ∙ sym (ap (λ (o : Option Difference). or_later o (first_wrong Whole 2 (sections_from plan run.version 0 plan.actors run.actors))) (other_right 1 feeds 1))

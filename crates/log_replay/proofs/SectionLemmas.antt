-- From the posts of each link to the first line of a run that does not keep what it says of posts.
use Rattle.std.proofs.Common.{◌≡◌, inl, inr, ◌∙◌, ℕ, zero, suc, ◌+◌, ◌<◌, ◌≤◌, List, [], ◌∷◌, ◌++◌, length, length-append, map, Option, None, Some, slice_get, refl, sym, ap, subst, arith}
use Rattle.std.specs.Prelude.{codes}
use Rattle.std.specs.List.{AllByRecursion, flat_map}
use Rattle.std.proofs.lemmas.Bool.{cases_lt}
use Rattle.std.proofs.lemmas.List.{length-map}
use Rattle.join_base.specs.declared.message.Source.{Source}
use Rattle.script_types.specs.declared.plan.Plan.{Plan}
use Rattle.script_types.specs.declared.plan.ActorPlan.{ActorPlan}
use Rattle.fair_semantics.specs.declared.run.ActorRun.{ActorRun}
use Rattle.fair_semantics.specs.declared.run.Entry.{Entry}
use Rattle.fair_semantics.specs.declared.run.Run.{Run}
use Rattle.fair_semantics.specs.Fair.{Sent, setting_of}
use Rattle.fair_semantics.specs.Fits.{ActorRunFits, EntryFits, RunFits, SourceFits}
use Rattle.fair_semantics.specs.Linked.{arrived, entry_posts, numbers_from, unstamped_entry}
use Rattle.fair_semantics.specs.Step.{is_running, opening}
use Rattle.fair_semantics.proofs.ChainLemmas.{Records, adds}
use Rattle.fair_semantics.proofs.ListLemmas.{each_append}
use Rattle.guard_eval.proofs.ReadyLemmas.{each_at}
use Rattle.arrival_log.specs.LogText.{end_line, head_line, late_line, line as text_line}
use Rattle.run_order_law.proofs.ArrivalLemmas.{length-arrived}
use Rattle.run_order_law.specs.Sorted.{entries_in}
use Rattle.log_posts.specs.Posts.{link_posts}
use Rattle.log_replay.specs.Expected.{bare, expected_actor, expected_late, expected_posts, expected_run, read_entries, stamped_in, stamps_sent, stepped, unstamped_actor}
use Rattle.log_replay.specs.Fault.{Keeps, Line, LineKind, ends, entries_lines, lines_of_entry, firing_texts, lines_of, other_line, section_lines, sections_from}
use Rattle.log_replay.specs.Kept.{earlier, ends_running, entries_size, link_of, links_fault, posts_fault, section_fault, section_size, sections_fault}
use Rattle.log_replay.proofs.AcceptedLemmas.{each_mapped}
use Rattle.log_replay.proofs.FirstLemmas.{First, first_all, first_both, first_else, first_pass, first_same}
use Rattle.log_replay.proofs.KeepsLemmas.{LinkKeeps, entries_first, firing_count}
use Rattle.log_replay.proofs.ReadLemmas.{get_numbers, stamped_bare, stamped_few}
use Rattle.log_replay.proofs.SwapLemmas.{stamped_like}
use Rattle.log_replay.proofs.EndingLemmas.{settled_entries}

-- ---- the posts of the expected run

few_records : (latest : ℕ) (sent : List Sent) (new : List Entry) → Records latest sent new → length new ≤ length sent
few_records latest sent [] h = omega arith
few_records latest [] (e ∷ new) h = absurd h
few_records latest (s ∷ sent) (e ∷ new) h = let later = few_records e.stamp sent new h.1 in omega arith

module _ (plan : Plan) (run : Run) where
  pub few_stepped : (actor : ℕ) → length (stepped plan run actor).entries ≤ length (read_entries run actor)
  few_stepped actor =
      let sent : List Sent = map bare (read_entries run actor) in
      let added = adds (setting_of plan actor run.limits) sent (opening run.feeds (length plan.actors)) in
      omega (arith, ap length added.entries_are, few_records 0 sent added.new added.records, length-map (read_entries run actor) bare)

  made_are : (from to : ℕ) → link_posts to (expected_actor plan run from).entries (read_entries run from) ≡ expected_posts plan run from to
  made_are from to =
      let own : List Entry = (unstamped_actor plan run from).entries in
      let sent : List Sent = arrived (stamps_sent plan run from) (read_entries run from) in
      let same : own ≡ (stepped plan run from).entries = settled_entries (stepped plan run from) (expected_late plan run from) in
      let all = length-arrived (stamps_sent plan run from) [] (read_entries run from) in
      let few : length own ≤ length (read_entries run from) = omega (arith, ap length same, few_stepped from) in
      let unstamped = stamped_bare run.version sent own (omega (arith, few, all)) ∙ ap (map unstamped_entry) same in
      let least = stamped_few run.version sent own in
      ap (λ (es : List Entry). flat_map (entry_posts to) es) (stamped_like (stamped_in run.version sent own) (stepped plan run from).entries (read_entries run from) unstamped (omega (arith, least, few)))

  entries_of_actors : (from : ℕ) → from < length plan.actors → entries_in (slice_get (expected_run plan run).actors from) ≡ (expected_actor plan run from).entries
  entries_of_actors from l =
      let same : 0 + from ≡ from = omega arith in
      ap entries_in (get_numbers (expected_actor plan run) 0 (length plan.actors) from l) ∙ ap (λ (k : ℕ). (expected_actor plan run k).entries) same

  ends_of_actors : (to : ℕ) → to < length plan.actors → ends_running (slice_get (expected_run plan run).actors to) ≡ is_running (expected_actor plan run to).ending
  ends_of_actors to l =
      let same : 0 + to ≡ to = omega arith in
      ap ends_running (get_numbers (expected_actor plan run) 0 (length plan.actors) to l) ∙ ap (λ (k : ℕ). is_running (expected_actor plan run k).ending) same

  -- ---- all links of a section

  abbrev KeepsBelow : ℕ → LineKind → Type 0
  KeepsBelow n m = (from : ℕ) → from < n → LinkKeeps plan run from m

  module _ (expected : Run) (is : expected ≡ expected_run plan run) (to : ℕ) (there_is : to < length plan.actors) (own : ActorRun) (read : read_entries run to ≡ own.entries) where
    abbrev lines : List Line
    lines = entries_lines plan run.version to [] own.entries ++ (map (λ l. other_line (late_line plan l)) own.late ++ record { mark = ends to; text = end_line own } ∷ [])

    link_first : (line from : ℕ) → from < length plan.actors → First (λ (l : Line). LinkKeeps plan run from l.mark) (line + 1) lines (link_of run expected to line own from)
    link_first line from l =
        let posts = ap (λ (r : Run). link_posts to (entries_in (slice_get r.actors from)) (read_entries run from)) is ∙ ap (λ (es : List Entry). link_posts to es (read_entries run from)) (entries_of_actors from l) ∙ made_are from to in
        let runs = ap (λ (r : Run). ends_running (slice_get r.actors to)) is ∙ ends_of_actors to there_is in
        entries_first plan run to own read (ends_running (slice_get expected.actors to)) runs from (link_posts to (entries_in (slice_get expected.actors from)) (read_entries run from)) posts (line + 1) 0 [] own.entries refl refl

    abbrev Below : ℕ → Line → Type 0
    Below n l = KeepsBelow n l.mark

    -- one actor more
    below_more : (k line : ℕ) (o : Option ℕ) → First (λ l. Below k l × LinkKeeps plan run k l.mark) line lines o → First (Below (k + 1)) line lines o
    below_more k line o h = first_same (λ l. Below k l × LinkKeeps plan run k l.mark) (Below (k + 1)) line lines o (for_all lines) h
      where
        both : (l : Line) → Below k l → LinkKeeps plan run k l.mark → Below (k + 1) l
        both l old new from less = elim (cases_lt from k) [ inl b ↦ old from b | inr g ↦ let e : k ≡ from = omega arith in subst (λ (n : ℕ). LinkKeeps plan run n l.mark) e new ]

        for_all : (ls : List Line) → AllByRecursion (λ (l : Line). (Below k l × LinkKeeps plan run k l.mark → Below (k + 1) l) × (Below (k + 1) l → Below k l × LinkKeeps plan run k l.mark)) ls
        for_all [] = tt
        for_all (l ∷ ls) = (((λ h. both l h.0 h.1), λ h. ((λ from less. h from (omega (arith, less))), h k (omega arith))), for_all ls)

    links_first : (line k m : ℕ) (first : Option ℕ) → k + m ≤ length plan.actors → First (Below k) (line + 1) lines first → First (Below (k + m)) (line + 1) lines (links_fault run expected to line own first (numbers_from k m))
    links_first line k zero first l h = let e : k ≡ k + 0 = omega arith in subst (λ (n : ℕ). First (Below n) (line + 1) lines first) e h
    links_first line k (suc m) first l h =
        let here = link_first line k (omega arith) in
        let one = below_more k (line + 1) (earlier first (link_of run expected to line own k)) (first_both (Below k) (λ x. LinkKeeps plan run k x.mark) (line + 1) lines first (link_of run expected to line own k) h here) in
        let e : k + 1 + m ≡ k + suc m = omega arith in
        subst (λ (n : ℕ). First (Below n) (line + 1) lines (links_fault run expected to line own first (k ∷ numbers_from (k + 1) m))) e (links_first line (k + 1) m (earlier first (link_of run expected to line own k)) (omega arith) one)

    below_none : (ls : List Line) → AllByRecursion (Below 0) ls
    below_none [] = tt
    below_none (l ∷ ls) = ((λ from less. absurd (omega (arith, less))), below_none ls)

    -- ---- the section

    module _ (fits : AllByRecursion (EntryFits plan run.version run.feeds) own.entries) where
      abbrev Same : Line → Type 0
      Same l = (Below (length plan.actors) l → Keeps plan run l.mark) × (Keeps plan run l.mark → Below (length plan.actors) l)

      entries_same : (before entries : List Entry) → AllByRecursion (EntryFits plan run.version run.feeds) entries → AllByRecursion Same (entries_lines plan run.version to before entries)
      entries_same before [] fit = tt
      entries_same before (e ∷ entries) fit =
          each_append Same (lines_of_entry plan run.version to before e) (entries_lines plan run.version to (before ++ e ∷ []) entries)
          (((λ h from source. h from (subst (λ (s : Source). SourceFits plan run.feeds s) source fit.0.source) source), λ h from less. h from), each_mapped Same other_line (λ t. ((λ h. tt), λ h from less. tt)) (firing_texts plan e.firing))
          (entries_same (before ++ e ∷ []) entries fit.1)

      lines_same : AllByRecursion Same lines
      lines_same =
          let late : List Line = map (λ l. other_line (late_line plan l)) own.late in
          let last : List Line = record { mark = ends to; text = end_line own } ∷ [] in
          each_append Same (entries_lines plan run.version to [] own.entries) (late ++ last) (entries_same [] own.entries fits)
          (each_append Same late last (each_mapped Same (λ l. other_line (late_line plan l)) (λ l. ((λ h. tt), λ h from less. tt)) own.late) (((λ h running from less. h from less running), λ h from less running. h running from less), tt))

      pub section_first : length run.actors ≡ length plan.actors → (line : ℕ) (named : ActorPlan) → First (λ (l : Line). Keeps plan run l.mark) line (section_lines plan run.version to named own) (section_fault run expected to line own)
      section_first many line named =
          let all = links_first line 0 (length plan.actors) None (omega arith) (first_all (Below 0) (line + 1) lines (below_none lines)) in
          let n : 0 + length plan.actors ≡ length plan.actors = omega arith in
          let here = subst (λ (k : ℕ). First (Below k) (line + 1) lines (links_fault run expected to line own None (numbers_from 0 (length plan.actors)))) n all in
          let kept = first_same (Below (length plan.actors)) (λ l. Keeps plan run l.mark) (line + 1) lines (links_fault run expected to line own None (numbers_from 0 (length plan.actors))) lines_same here in
          let found = subst (λ (k : ℕ). First (λ l. Keeps plan run l.mark) (line + 1) lines (links_fault run expected to line own None (numbers_from 0 k))) (sym many) kept in
          first_pass (λ (l : Line). Keeps plan run l.mark) line (other_line (text_line (codes "actor" ∷ named.name ∷ []))) lines (section_fault run expected to line own) tt found

  -- ---- all sections

  entries_count : (to : ℕ) (before entries : List Entry) → length (entries_lines plan run.version to before entries) ≡ entries_size entries
  entries_count to before [] = refl
  entries_count to before (e ∷ entries) =
      omega (arith, length-append (lines_of_entry plan run.version to before e) (entries_lines plan run.version to (before ++ e ∷ []) entries), firing_count plan run e.firing, entries_count to (before ++ e ∷ []) entries)

  pub section_count : (to : ℕ) (named : ActorPlan) (own : ActorRun) → length (section_lines plan run.version to named own) ≡ section_size own
  section_count to named own =
      let late : List Line = map (λ l. other_line (late_line plan l)) own.late in
      let last : List Line = record { mark = ends to; text = end_line own } ∷ [] in
      omega (arith, length-append (entries_lines plan run.version to [] own.entries) (late ++ last), length-append late last, length-map own.late (λ l. other_line (late_line plan l)), entries_count to [] own.entries)

  module _ (expected : Run) (is : expected ≡ expected_run plan run) (fit : RunFits plan run) where
    sections_first : (line to : ℕ) (actors : List ActorPlan) (runs : List ActorRun) → to + length actors ≡ length plan.actors → length runs ≡ length actors → ((k : ℕ) → slice_get run.actors (to + k) ≡ slice_get runs k)
        → First (λ (l : Line). Keeps plan run l.mark) line (sections_from plan run.version to actors runs) (sections_fault run expected to line runs)
    sections_first line to [] [] whole same at = tt
    sections_first line to [] (own ∷ runs) whole same at = absurd (omega arith)
    sections_first line to (named ∷ actors) [] whole same at = absurd (omega arith)
    sections_first line to (named ∷ actors) (own ∷ runs) whole same at =
        let here : to + 0 ≡ to = omega arith in
        let there : slice_get run.actors to ≡ Some own = ap (slice_get run.actors) (sym here) ∙ at 0 in
        let own_fits = each_at (ActorRunFits plan run.version run.feeds) run.actors to own there fit.each in
        let first = section_first expected is to (omega arith) own (ap entries_in there) own_fits.entries fit.actors line named in
        let later = sections_first (line + section_size own) (to + 1) actors runs (omega arith) (omega arith) (λ k. let moved : to + 1 + k ≡ to + suc k = omega arith in ap (slice_get run.actors) moved ∙ at (suc k)) in
        let next : line + section_size own ≡ line + length (section_lines plan run.version to named own) = omega (arith, section_count to named own) in
        first_else (λ (l : Line). Keeps plan run l.mark) line (section_lines plan run.version to named own) (sections_from plan run.version (to + 1) actors runs) (section_fault run expected to line own) (sections_fault run expected (to + 1) (line + section_size own) runs) first
        (subst (λ (n : ℕ). First (λ l. Keeps plan run l.mark) n (sections_from plan run.version (to + 1) actors runs) (sections_fault run expected (to + 1) (line + section_size own) runs)) next later)

    -- the first line of the run that does not keep what it says of posts
    pub posts_first : First (λ (l : Line). Keeps plan run l.mark) 0 (lines_of plan run) (posts_fault run expected)
    posts_first =
        first_pass (λ (l : Line). Keeps plan run l.mark) 0 (other_line (head_line run)) (sections_from plan run.version 0 plan.actors run.actors) (posts_fault run expected) tt
        (sections_first 1 0 plan.actors run.actors (omega arith) fit.actors (λ k. let e : 0 + k ≡ k = omega arith in ap (slice_get run.actors) e))

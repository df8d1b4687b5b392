-- How far bytes are a section, one entry more, and a log, one section more.
use Rattle.std.proofs.Common.{◌≡◌, ◌∙◌, ℕ, suc, ◌+◌, ◌<◌, ◌≤◌, List, [], ◌∷◌, ◌++◌, length, drop, get_or, Bool, true, false, Option, Some, slice_get, refl, sym, ap, arith}
use Rattle.std.specs.Prelude.{if◌then◌else◌}
use Rattle.std.specs.List.{flat_map}
use Rattle.std.proofs.Math.ListN.{drop_of_length-le}
use Rattle.std.proofs.lemmas.List.{drop_more}
use Rattle.std.proofs.lemmas.Option.{same_Some, slice_get-get_or}
use Rattle.script_types.specs.declared.plan.Plan.{Plan}
use Rattle.script_types.specs.declared.plan.ActorPlan.{ActorPlan}
use Rattle.fair_semantics.specs.declared.run.ActorRun.{ActorRun}
use Rattle.fair_semantics.specs.declared.run.Entry.{Entry}
use Rattle.arrival_log.specs.LogText.{actor_lines, entry_lines, heading_line, last_lines, sections, stamped}
use Rattle.log_replay.specs.declared.apart.Progress.{Progress}
use Rattle.log_replay.specs.declared.shared.Shared.{Shared}
use Rattle.log_replay.specs.Apart.{behind, lines_before, parted}
use Rattle.log_replay.specs.declared.apart.Progress.TheVariants.{Along}
use Rattle.log_posts.specs.Stamps.{with_stamps}
use Rattle.log_replay.specs.Expected.{with_entries}
use Rattle.log_replay.specs.Shared.{plain, shown, shown_all, shown_stamps, stamp_or}
use Rattle.log_replay.proofs.ProgressLemmas.{behind_both, parts_where}
use Rattle.log_replay.proofs.SharedLemmas.{stamp_here}

module _ (plan : Plan) (version : ℕ) where
  abbrev lines : List Entry → List ℕ
  lines entries = flat_map (entry_lines plan version) entries

  module _ (bytes : List ℕ) where
    -- the lines of an entry more
    pub entry_behind : (stamps : List ℕ) (entries : List Entry) (place : ℕ) (e : Entry) (stamp : ℕ) (text : List ℕ) (before next whole : Progress) → place < length entries → e ≡ get_or entries place e → stamp ≡ stamp_or (slice_get stamps place) e.stamp
        → text ≡ entry_lines plan version (stamped e stamp) → next ≡ behind bytes before text → behind bytes before (lines (with_stamps (drop place stamps) (drop place entries))) ≡ whole
        → behind bytes next (lines (with_stamps (drop (place + 1) stamps) (drop (place + 1) entries))) ≡ whole
    entry_behind stamps entries place e stamp text before next whole l is by_stamp by_text more left =
        let further : place + 1 ≡ suc place = omega arith in
        let rest : List ℕ = lines (with_stamps (drop (suc place) stamps) (drop (suc place) entries)) in
        ap (λ (n : ℕ). behind bytes next (lines (with_stamps (drop n stamps) (drop n entries)))) further
        ∙ ap (λ (p : Progress). behind bytes p rest) (more ∙ ap (behind bytes before) by_text)
        ∙ behind_both bytes before (entry_lines plan version (stamped e stamp)) rest
        ∙ ap (λ (s : ℕ). behind bytes before (entry_lines plan version (stamped e s) ++ rest)) by_stamp
        ∙ ap (λ (es : List Entry). behind bytes before (lines es)) (sym (stamp_here stamps entries place e l is))
        ∙ left

    pub none_left : (stamps : List ℕ) (entries : List Entry) (place : ℕ) (before : Progress) → length entries ≤ place → behind bytes before (lines (with_stamps (drop place stamps) (drop place entries))) ≡ before
    none_left stamps entries place before past = ap (λ (es : List Entry). behind bytes before (lines (with_stamps (drop place stamps) es))) (drop_of_length-le entries past) ∙ by (drop place stamps)
      where
        by : (ss : List ℕ) → behind bytes before (lines (with_stamps ss [])) ≡ before
        by [] = refl
        by (s ∷ ss) = refl

    -- heading, entries and last lines, one behind the other
    pub parts_behind : (named : ActorPlan) (read : ActorRun) (shared : Shared) (start first further done : Progress) → first ≡ behind bytes start (heading_line named) → further ≡ behind bytes first (lines (with_stamps (shown_stamps shared) (plain read shared)))
        → done ≡ behind bytes further (last_lines plan shared.own) → done ≡ behind bytes start (actor_lines plan version named (shown read shared))
    parts_behind named read shared start first further done by_heading by_entries by_last =
        let entries : List ℕ = lines (with_stamps (shown_stamps shared) (plain read shared)) in
        let last : List ℕ = last_lines plan shared.own in
        by_last
        ∙ ap (λ (p : Progress). behind bytes p last) by_entries
        ∙ behind_both bytes first entries last
        ∙ ap (λ (p : Progress). behind bytes p (entries ++ last)) by_heading
        ∙ behind_both bytes start (heading_line named) (entries ++ last)
        ∙ ap (behind bytes start) (by shared.as_read)
      where
        by : (b : Bool)
            → heading_line named ++ (lines (with_stamps (if b then shared.stamps else []) (if b then read.entries else shared.own.entries)) ++ last_lines plan shared.own) ≡ actor_lines plan version named (if b then with_entries shared.own (with_stamps shared.stamps read.entries) else shared.own)
        by true = refl
        by false = refl

  module _ (bytes : List ℕ) (reads : List ActorRun) (runs : List Shared) where
    abbrev rest_from : ℕ → List ℕ
    rest_from place = sections plan version (drop place plan.actors) (shown_all (drop place reads) (drop place runs))

    pub section_behind : (place : ℕ) (named : ActorPlan) (read : ActorRun) (shared : Shared) (before next whole : Progress) → place < length plan.actors → place < length reads → place < length runs
        → slice_get plan.actors place ≡ Some named → read ≡ get_or reads place read → shared ≡ get_or runs place shared → next ≡ behind bytes before (actor_lines plan version named (shown read shared))
        → behind bytes before (rest_from place) ≡ whole → behind bytes next (rest_from (place + 1)) ≡ whole
    section_behind place named read shared before next whole l m n by_named by_read by_shared is left =
        let named_is : named ≡ get_or plan.actors place named = same_Some named (get_or plan.actors place named) (sym by_named ∙ slice_get-get_or plan.actors place named l) in
        let actors : drop place plan.actors ≡ named ∷ drop (place + 1) plan.actors = drop_more plan.actors place named l ∙ ap (λ (a : ActorPlan). a ∷ drop (place + 1) plan.actors) (sym named_is) in
        let owns : drop place reads ≡ read ∷ drop (place + 1) reads = drop_more reads place read m ∙ ap (λ (r : ActorRun). r ∷ drop (place + 1) reads) (sym by_read) in
        let others : drop place runs ≡ shared ∷ drop (place + 1) runs = drop_more runs place shared n ∙ ap (λ (s : Shared). s ∷ drop (place + 1) runs) (sym by_shared) in
        ap (λ (p : Progress). behind bytes p (rest_from (place + 1))) is
        ∙ behind_both bytes before (actor_lines plan version named (shown read shared)) (rest_from (place + 1))
        ∙ (λ i. behind bytes before (sections plan version (sym actors i) (shown_all (sym owns i) (sym others i))))
        ∙ left

    pub all_behind : (place : ℕ) (progress whole : Progress) → length plan.actors ≤ place → behind bytes progress (rest_from place) ≡ whole → progress ≡ whole
    all_behind place progress whole past left = sym (ap (λ (named : List ActorPlan). behind bytes progress (sections plan version named (shown_all (drop place reads) (drop place runs)))) (drop_of_length-le plan.actors past)) ∙ left

    -- the whole log at once
    pub parted_is : (head : List ℕ) (place : ℕ) (first progress : Progress) (found : Option ℕ) → length plan.actors ≤ place → first ≡ behind bytes (Along 0) head → behind bytes progress (rest_from place) ≡ behind bytes first (sections plan version plan.actors (shown_all reads runs)) → found ≡ parted bytes progress
        → found ≡ lines_before 0 bytes (head ++ sections plan version plan.actors (shown_all reads runs))
    parted_is head place first progress found past by_first left is =
        let all : List ℕ = sections plan version plan.actors (shown_all reads runs) in
        is
        ∙ ap (parted bytes) (all_behind place progress (behind bytes first all) past left ∙ ap (λ (p : Progress). behind bytes p all) by_first ∙ behind_both bytes (Along 0) head all)
        ∙ parts_where bytes 0 0 (head ++ all) (omega arith) refl

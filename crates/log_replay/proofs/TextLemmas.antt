-- The lines of a run that fits are lines: each has one LF, its last byte.
use Rattle.std.proofs.Common.{◌≡◌, ◌∙◌, ℕ, suc, ◌+◌, List, [], ◌∷◌, ◌++◌, length, map, Option, None, Some, slice_get, refl, sym, ap, subst, arith}
use Rattle.std.specs.Prelude.{codes}
use Rattle.std.specs.List.{AllByRecursion, flat_map}
use Rattle.std.proofs.lemmas.List.{map-append}
use Rattle.join_base.specs.declared.message.Source.{Source}
use Rattle.script_types.specs.declared.plan.Plan.{Plan}
use Rattle.script_types.specs.declared.plan.ActorPlan.{ActorPlan}
use Rattle.fair_semantics.specs.declared.run.ActorRun.{ActorRun}
use Rattle.fair_semantics.specs.declared.run.Effect.{Effect}
use Rattle.fair_semantics.specs.declared.run.Entry.{Entry}
use Rattle.fair_semantics.specs.declared.run.Firing.{Firing}
use Rattle.fair_semantics.specs.declared.run.Run.{Run}
use Rattle.fair_semantics.specs.Fits.{RunFits}
use Rattle.fair_semantics.proofs.ListLemmas.{each_map}
use Rattle.script_types.specs.Names.{actor_name}
use Rattle.arrival_log.specs.LogText.{effect_line, end_line, fire_line, head_line, late_line, line}
use Rattle.log_lines.specs.declared.line.Head.{Head}
use Rattle.log_lines.specs.declared.line.LogLine.{LogLine}
use Rattle.log_lines.specs.declared.line.LogLine.TheVariants.{Arrives, Heading}
use Rattle.log_lines.specs.Forms.{LineFits, head_text, line_text}
use Rattle.script_types.specs.Typed.{IsTyped}
use Rattle.log_lines.proofs.ExactLemmas.{head_is, heads_of, numbers_of_head}
use Rattle.log_lines.proofs.FormLemmas.{body, body_is}
use Rattle.log_lines.proofs.HeadLemmas.{head_body}
use Rattle.log_lines.proofs.LackLemmas.{body_lacks, head_lacks}
use Rattle.log_reader.proofs.AgainLemmas.{sections_fit}
use Rattle.log_reader.proofs.RunLines.{arrival_of, effect_log, end_log, entry_log, firing_log, head_of_run, late_log, section_log, sections_log}
use Rattle.log_reader.proofs.WalkLemmas.{head_fits}
use Rattle.log_replay.specs.Fault.{Line, ends, entries_lines, lines_of_entry, firing_texts, lines_of, other_line, section_lines, sections_from, texts_of}
use Rattle.log_replay.proofs.ApartLemmas.{IsLine}

module _ (plan : Plan) (head : Head) where
  abbrev logged : List LogLine → List (List ℕ)
  logged lines = map (line_text plan head) lines

  texts-append : (xs ys : List Line) → texts_of (xs ++ ys) ≡ texts_of xs ++ texts_of ys
  texts-append xs ys = map-append (λ (l : Line). l.text) xs ys

  logged-append : (xs ys : List LogLine) → logged (xs ++ ys) ≡ logged xs ++ logged ys
  logged-append xs ys = map-append (line_text plan head) xs ys

  others : (texts : List (List ℕ)) → texts_of (map other_line texts) ≡ texts
  others [] = refl
  others (t ∷ texts) = ap (λ (ts : List (List ℕ)). t ∷ ts) (others texts)

  effects_logged : (effects : List Effect) → map (effect_line plan) effects ≡ logged (map effect_log effects)
  effects_logged [] = refl
  effects_logged (e ∷ effects) = ap (λ (ts : List (List ℕ)). effect_line plan e ∷ ts) (effects_logged effects)

  firing_logged : (o : Option Firing) → firing_texts plan o ≡ logged (firing_log o)
  firing_logged None = refl
  firing_logged (Some f) = ap (λ (ts : List (List ℕ)). fire_line f ∷ ts) (effects_logged f.effects)

  entry_logged : (actor : ℕ) (before : List Entry) (e : Entry) → texts_of (lines_of_entry plan head.version actor before e) ≡ logged (entry_log e)
  entry_logged actor before e = ap (λ (ts : List (List ℕ)). line_text plan head (Arrives (arrival_of e)) ∷ ts) (others (firing_texts plan e.firing) ∙ firing_logged e.firing)

  entries_logged : (actor : ℕ) (before entries : List Entry) → texts_of (entries_lines plan head.version actor before entries) ≡ logged (flat_map entry_log entries)
  entries_logged actor before [] = refl
  entries_logged actor before (e ∷ entries) =
      texts-append (lines_of_entry plan head.version actor before e) (entries_lines plan head.version actor (before ++ e ∷ []) entries)
      ∙ (λ i. entry_logged actor before e i ++ entries_logged actor (before ++ e ∷ []) entries i)
      ∙ sym (logged-append (entry_log e) (flat_map entry_log entries))

  lates_logged : (late : List (Source × ℕ)) → texts_of (map (λ l. other_line (late_line plan l)) late) ≡ logged (map late_log late)
  lates_logged [] = refl
  lates_logged (l ∷ late) = ap (λ (ts : List (List ℕ)). late_line plan l ∷ ts) (lates_logged late)

  section_logged : (actor : ℕ) (named : ActorPlan) (own : ActorRun) → slice_get plan.actors actor ≡ Some named → texts_of (section_lines plan head.version actor named own) ≡ logged (section_log actor own)
  section_logged actor named own there =
      let late : List Line = map (λ l. other_line (late_line plan l)) own.late in
      let last : List Line = record { mark = ends actor; text = end_line own } ∷ [] in
      let entries : List Line = entries_lines plan head.version actor [] own.entries in
      let name : named.name ≡ actor_name (slice_get plan.actors actor) = sym (ap actor_name there) in
      (λ i. line (codes "actor" ∷ name i ∷ []) ∷ texts-append entries (late ++ last) i)
      ∙ (λ i. line_text plan head (Heading actor) ∷ (entries_logged actor [] own.entries i ++ texts-append late last i))
      ∙ (λ i. line_text plan head (Heading actor) ∷ (logged (flat_map entry_log own.entries) ++ (lates_logged own.late i ++ end_line own ∷ [])))
      ∙ (λ i. line_text plan head (Heading actor) ∷ (logged (flat_map entry_log own.entries) ++ sym (logged-append (map late_log own.late) (end_log own ∷ [])) i))
      ∙ (λ i. line_text plan head (Heading actor) ∷ sym (logged-append (flat_map entry_log own.entries) (map late_log own.late ++ end_log own ∷ [])) i)

  sections_logged : (actor : ℕ) (actors : List ActorPlan) (runs : List ActorRun) → ((k : ℕ) → slice_get plan.actors (actor + k) ≡ slice_get actors k) → length runs ≡ length actors → texts_of (sections_from plan head.version actor actors runs) ≡ logged (sections_log actor runs)
  sections_logged actor [] [] at same = refl
  sections_logged actor [] (own ∷ runs) at same = absurd (omega arith)
  sections_logged actor (named ∷ actors) [] at same = absurd (omega arith)
  sections_logged actor (named ∷ actors) (own ∷ runs) at same =
      let here : actor + 0 ≡ actor = omega arith in
      let next : actor + 1 ≡ suc actor = omega arith in
      let there : slice_get plan.actors actor ≡ Some named = ap (slice_get plan.actors) (sym here) ∙ at 0 in
      let later = sections_logged (actor + 1) actors runs (λ k. let moved : actor + 1 + k ≡ actor + suc k = omega arith in ap (slice_get plan.actors) moved ∙ at (suc k)) (omega arith) in
      texts-append (section_lines plan head.version actor named own) (sections_from plan head.version (actor + 1) actors runs)
      ∙ (λ i. section_logged actor named own there i ++ later i)
      ∙ ap (λ (n : ℕ). logged (section_log actor own) ++ logged (sections_log n runs)) next
      ∙ sym (logged-append (section_log actor own) (sections_log (suc actor) runs))

pub lines_logged : (plan : Plan) (run : Run) → length run.actors ≡ length plan.actors → texts_of (lines_of plan run) ≡ head_text (head_of_run run) ∷ map (line_text plan (head_of_run run)) (sections_log 0 run.actors)
lines_logged plan run same =
    ap (λ (ts : List (List ℕ)). head_line run ∷ ts) (sections_logged plan (head_of_run run) 0 plan.actors run.actors (λ k. let e : 0 + k ≡ k = omega arith in ap (slice_get plan.actors) e) same)

pub are_lines : (plan : Plan) (run : Run) → IsTyped plan → RunFits plan run → AllByRecursion IsLine (texts_of (lines_of plan run))
are_lines plan run own fits =
    let head = head_of_run run in
    let headed = head_fits plan run fits in
    let first : IsLine (head_text head) = record { body = head_body head; is = head_is head; none = head_lacks head (numbers_of_head plan head headed) } in
    let each = sections_fit plan head 0 run.actors (omega (arith, fits.actors)) fits.each in
    subst (AllByRecursion IsLine) (sym (lines_logged plan run fits.actors))
    (first, each_map (LineFits plan head) IsLine (line_text plan head) (λ l fit. record { body = body plan head l; is = body_is plan head l; none = body_lacks plan own head l (heads_of plan head headed) fit }) (sections_log 0 run.actors) each)

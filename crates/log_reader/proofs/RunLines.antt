-- The lines of a run.
use Rattle.std.proofs.Common.{◌≡◌, ◌∙◌, ℕ, suc, ◌+◌, List, [], ◌∷◌, ◌++◌, length, map, Option, None, Some, refl, sym, ap, append-nil, arith}
use Rattle.std.specs.Prelude.{slice_get, codes}
use Rattle.std.specs.List.{flat_map}
use Rattle.std.proofs.lemmas.List.Concat.{flat_map-append}
use Rattle.join_base.specs.declared.message.Source.{Source}
use Rattle.script_types.specs.declared.plan.Plan.{Plan}
use Rattle.script_types.specs.declared.plan.ActorPlan.{ActorPlan}
use Rattle.fair_semantics.specs.declared.run.Effect.{Effect}
use Rattle.fair_semantics.specs.declared.run.Entry.{Entry}
use Rattle.fair_semantics.specs.declared.run.Firing.{Firing}
use Rattle.fair_semantics.specs.declared.run.ActorRun.{ActorRun}
use Rattle.fair_semantics.specs.declared.run.Run.{Run}
use Rattle.arrival_log.specs.LogText.{actor_lines, effect_line, entry_lines, firing_lines, late_line, line, log_text, sections}
use Rattle.script_types.specs.Names.{actor_name, name_of_actor}
use Rattle.log_lines.specs.declared.line.Arrival.{Arrival}
use Rattle.log_lines.specs.declared.line.Head.{Head}
use Rattle.log_lines.specs.declared.line.LogLine.{LogLine}
use Rattle.log_lines.specs.declared.line.LogLine.TheVariants.{Heading, Arrives, Fires, Does, IsLate, Ends}
use Rattle.log_lines.specs.Forms.{head_text, line_text}

abbrev pub arrival_of : Entry → Arrival
arrival_of e = record { number = e.number; stamp = e.stamp; source = e.source; message = e.message }

abbrev pub effect_log : Effect → LogLine
effect_log effect = Does effect

abbrev pub firing_log : Option Firing → List LogLine
firing_log None = []
firing_log (Some firing) = Fires firing.rule firing.taken ∷ map effect_log firing.effects

abbrev pub entry_log : Entry → List LogLine
entry_log e = Arrives (arrival_of e) ∷ firing_log e.firing

abbrev pub late_log : (Source × ℕ) → LogLine
late_log late = IsLate (late.0) (late.1)

abbrev pub end_log : ActorRun → LogLine
end_log run = Ends run.ending run.left run.partials

abbrev pub section_log : ℕ → ActorRun → List LogLine
section_log actor run = Heading actor ∷ (flat_map entry_log run.entries ++ (map late_log run.late ++ end_log run ∷ []))

-- the sections of actors from a number on
abbrev pub sections_log : ℕ → List ActorRun → List LogLine
sections_log actor [] = []
sections_log actor (run ∷ runs) = section_log actor run ++ sections_log (suc actor) runs

abbrev pub head_of_run : Run → Head
head_of_run run = record { version = run.version; limits = run.limits; feeds = run.feeds }

module _ (plan : Plan) (head : Head) where
  abbrev pub texts : List LogLine → List ℕ
  texts lines = flat_map (line_text plan head) lines

  texts-append : (xs ys : List LogLine) → texts (xs ++ ys) ≡ texts xs ++ texts ys
  texts-append xs ys = flat_map-append (line_text plan head) xs ys

  effects_text : (effects : List Effect) → texts (map effect_log effects) ≡ flat_map (effect_line plan) effects
  effects_text [] = refl
  effects_text (e ∷ es) = ap (λ (l : List ℕ). effect_line plan e ++ l) (effects_text es)

  firing_text : (firing : Option Firing) → texts (firing_log firing) ≡ firing_lines plan firing
  firing_text None = refl
  firing_text (Some firing) = ap (λ (l : List ℕ). line_text plan head (Fires firing.rule firing.taken) ++ l) (effects_text firing.effects)

  entry_text : (e : Entry) → texts (entry_log e) ≡ entry_lines plan head.version e
  entry_text e = ap (λ (l : List ℕ). line_text plan head (Arrives (arrival_of e)) ++ l) (firing_text e.firing)

  entries_text : (es : List Entry) → texts (flat_map entry_log es) ≡ flat_map (entry_lines plan head.version) es
  entries_text [] = refl
  entries_text (e ∷ es) =
      texts-append (entry_log e) (flat_map entry_log es)
      ∙ ap (λ (l : List ℕ). l ++ texts (flat_map entry_log es)) (entry_text e)
      ∙ ap (λ (l : List ℕ). entry_lines plan head.version e ++ l) (entries_text es)

  lates_text : (lates : List (Source × ℕ)) → texts (map late_log lates) ≡ flat_map (late_line plan) lates
  lates_text [] = refl
  lates_text (l ∷ ls) = ap (λ (t : List ℕ). late_line plan l ++ t) (lates_text ls)

  section_text : (number : ℕ) (actor : ActorPlan) (run : ActorRun) → name_of_actor plan number ≡ actor.name → texts (section_log number run) ≡ actor_lines plan head.version actor run
  section_text number actor run named =
      ap (λ (name : List ℕ). line (codes "actor" ∷ name ∷ []) ++ texts (flat_map entry_log run.entries ++ (map late_log run.late ++ end_log run ∷ []))) named
      ∙ ap (λ (t : List ℕ). line (codes "actor" ∷ actor.name ∷ []) ++ t)
      (texts-append (flat_map entry_log run.entries) (map late_log run.late ++ end_log run ∷ [])
      ∙ ap (λ (t : List ℕ). t ++ texts (map late_log run.late ++ end_log run ∷ [])) (entries_text run.entries)
      ∙ ap (λ (t : List ℕ). flat_map (entry_lines plan head.version) run.entries ++ t)
      (texts-append (map late_log run.late) (end_log run ∷ [])
      ∙ ap (λ (t : List ℕ). t ++ texts (end_log run ∷ [])) (lates_text run.late)
      ∙ ap (λ (t : List ℕ). flat_map (late_line plan) run.late ++ t) (append-nil (line_text plan head (end_log run)))))

  -- the actors are those of the plan from a number on
  pub record AreFrom (number : ℕ) (actors : List ActorPlan) : Type 0 where
    pub at : (k : ℕ) → slice_get plan.actors (number + k) ≡ slice_get actors k

  from_next : (number : ℕ) (actor : ActorPlan) (actors : List ActorPlan) → AreFrom number (actor ∷ actors) → AreFrom (suc number) actors
  from_next number actor actors from = record { at = λ k. (let next : suc number + k ≡ number + suc k = omega arith in ap (slice_get plan.actors) next ∙ from.at (suc k)) }

  from_name : (number : ℕ) (actor : ActorPlan) (actors : List ActorPlan) → AreFrom number (actor ∷ actors) → name_of_actor plan number ≡ actor.name
  from_name number actor actors from = let here : number ≡ number + 0 = omega arith in ap (λ (n : ℕ). actor_name (slice_get plan.actors n)) here ∙ ap actor_name (from.at 0)

  pub sections_text : (number : ℕ) (actors : List ActorPlan) (runs : List ActorRun) → AreFrom number actors → length runs ≡ length actors → texts (sections_log number runs) ≡ sections plan head.version actors runs
  sections_text number [] [] from same = refl
  sections_text number [] (run ∷ runs) from same = absurd (omega arith)
  sections_text number (actor ∷ actors) [] from same = absurd (omega arith)
  sections_text number (actor ∷ actors) (run ∷ runs) from same =
      texts-append (section_log number run) (sections_log (suc number) runs)
      ∙ ap (λ (t : List ℕ). t ++ texts (sections_log (suc number) runs)) (section_text number actor run (from_name number actor actors from))
      ∙ ap (λ (t : List ℕ). actor_lines plan head.version actor run ++ t) (sections_text (suc number) actors runs (from_next number actor actors from) (omega arith))

all_from : (plan : Plan) (head : Head) → AreFrom plan head 0 plan.actors
all_from plan head = record { at = λ k. (let here : 0 + k ≡ k = omega arith in ap (slice_get plan.actors) here) }

-- the log of a run is the text of its lines
pub log_is : (plan : Plan) (run : Run) → length run.actors ≡ length plan.actors → log_text plan run ≡ head_text (head_of_run run) ++ texts plan (head_of_run run) (sections_log 0 run.actors)
log_is plan run same = ap (λ (t : List ℕ). head_text (head_of_run run) ++ t) (sym (sections_text plan (head_of_run run) 0 plan.actors run.actors (all_from plan (head_of_run run)) same))

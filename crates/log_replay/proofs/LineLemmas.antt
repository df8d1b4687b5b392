-- The lines of a run, one behind the other, are its log text.
use Rattle.std.proofs.Common.{◌≡◌, ◌∙◌, ℕ, ◌+◌, List, [], ◌∷◌, ◌++◌, map, Option, None, Some, append_assoc, refl, ap, sym}
use Rattle.std.specs.Prelude.{codes}
use Rattle.std.specs.List.{flat_map}
use Rattle.std.proofs.lemmas.List.{append-nil}
use Rattle.join_base.specs.declared.message.Source.{Source}
use Rattle.script_types.specs.declared.plan.Plan.{Plan}
use Rattle.script_types.specs.declared.plan.ActorPlan.{ActorPlan}
use Rattle.fair_semantics.specs.declared.run.Effect.{Effect}
use Rattle.fair_semantics.specs.declared.run.Entry.{Entry}
use Rattle.fair_semantics.specs.declared.run.Firing.{Firing}
use Rattle.fair_semantics.specs.declared.run.ActorRun.{ActorRun}
use Rattle.arrival_log.specs.LogText.{actor_lines, arrival_line, effect_line, end_line, fire_line, firing_lines, head_line, late_line, line, log_text, sections}
use Rattle.arrival_log.specs.LogText as text
use Rattle.log_replay.specs.Fault.{Line, ends, entries_lines, lines_of_entry, firing_texts, other_line, section_lines, sections_from}
use Rattle.log_replay.specs.Law.{LinesAreText}

abbrev shown : List Line → List ℕ
shown lines = flat_map (λ (l : Line). l.text) lines

shown-append : (xs ys : List Line) → shown (xs ++ ys) ≡ shown xs ++ shown ys
shown-append [] ys = refl
shown-append (x ∷ xs) ys = ap (λ (t : List ℕ). x.text ++ t) (shown-append xs ys) ∙ sym (append_assoc x.text (shown xs) (shown ys))

effects_shown : (plan : Plan) (effects : List Effect) → shown (map other_line (map (effect_line plan) effects)) ≡ flat_map (effect_line plan) effects
effects_shown plan [] = refl
effects_shown plan (e ∷ effects) = ap (λ (t : List ℕ). effect_line plan e ++ t) (effects_shown plan effects)

firing_shown : (plan : Plan) (o : Option Firing) → shown (map other_line (firing_texts plan o)) ≡ firing_lines plan o
firing_shown plan None = refl
firing_shown plan (Some f) = ap (λ (t : List ℕ). fire_line f ++ t) (effects_shown plan f.effects)

late_shown : (plan : Plan) (late : List (Source × ℕ)) → shown (map (λ l. other_line (late_line plan l)) late) ≡ flat_map (late_line plan) late
late_shown plan [] = refl
late_shown plan (l ∷ late) = ap (λ (t : List ℕ). late_line plan l ++ t) (late_shown plan late)

entries_shown : (plan : Plan) (version actor : ℕ) (before entries : List Entry) → shown (entries_lines plan version actor before entries) ≡ flat_map (text.entry_lines plan version) entries
entries_shown plan version actor before [] = refl
entries_shown plan version actor before (e ∷ entries) =
    shown-append (lines_of_entry plan version actor before e) (entries_lines plan version actor (before ++ e ∷ []) entries)
    ∙ (λ i. (arrival_line plan version e ++ firing_shown plan e.firing i) ++ entries_shown plan version actor (before ++ e ∷ []) entries i)

section_shown : (plan : Plan) (version actor : ℕ) (named : ActorPlan) (own : ActorRun) → shown (section_lines plan version actor named own) ≡ actor_lines plan version named own
section_shown plan version actor named own =
    let last : List Line = record { mark = ends actor; text = end_line own } ∷ [] in
    let late : List Line = map (λ l. other_line (late_line plan l)) own.late in
    let end : shown last ≡ end_line own = append-nil (end_line own) in
    ap (λ (t : List ℕ). line (codes "actor" ∷ named.name ∷ []) ++ t)
    (shown-append (entries_lines plan version actor [] own.entries) (late ++ last)
    ∙ (λ i. entries_shown plan version actor [] own.entries i ++ (shown-append late last ∙ (λ j. late_shown plan own.late j ++ end j)) i))

sections_shown : (plan : Plan) (version actor : ℕ) (actors : List ActorPlan) (runs : List ActorRun) → shown (sections_from plan version actor actors runs) ≡ sections plan version actors runs
sections_shown plan version actor [] runs = refl
sections_shown plan version actor (named ∷ actors) [] = refl
sections_shown plan version actor (named ∷ actors) (own ∷ runs) =
    shown-append (section_lines plan version actor named own) (sections_from plan version (actor + 1) actors runs)
    ∙ (λ i. section_shown plan version actor named own i ++ sections_shown plan version (actor + 1) actors runs i)

pub lines_are_text : LinesAreText
lines_are_text plan run = ap (λ (t : List ℕ). head_line run ++ t) (sections_shown plan run.version 0 plan.actors run.actors)

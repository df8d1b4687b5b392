-- From lines that are right to the sections of the actors, and to one text.
use Rattle.std.proofs.Common.{◌≡◌, ◌∙◌, ℕ, zero, suc, ◌+◌, List, [], ◌∷◌, ◌++◌, length, map, Some, append_assoc, slice_get, refl, ap, sym, subst, arith}
use Rattle.std.specs.Prelude.{IfSome}
use Rattle.std.proofs.lemmas.List.{append-nil}
use Rattle.std.specs.List.{AllByRecursion, flat_map}
use Rattle.script_types.specs.declared.plan.Plan.{Plan}
use Rattle.script_types.specs.declared.plan.ActorPlan.{ActorPlan}
use Rattle.fair_semantics.specs.declared.run.Entry.{Entry}
use Rattle.fair_semantics.specs.declared.run.ActorRun.{ActorRun}
use Rattle.fair_semantics.specs.declared.run.Run.{Run}
use Rattle.arrival_log.specs.LogText.{end_line, late_line}
use Rattle.fair_semantics.proofs.ListLemmas.{each_left, each_right}
use Rattle.log_replay.specs.Expected.{expected_run}
use Rattle.log_replay.specs.Fault.{Line, IsAccepted, IsPosted, ends, entries_lines, lines_of_entry, lines_of, other_line, section_lines, sections_from, texts_of}
use Rattle.log_replay.specs.Law.{AcceptedHasOneText, ExpectedIsLinked}
use Rattle.log_replay.proofs.LineLemmas.{lines_are_text}
use Rattle.log_replay.proofs.AcceptedLemmas.{Kept, SectionKeeps}
use Rattle.log_replay.proofs.ConverseLemmas.{linked_shown}

each_if : {X : Type 0} (P : X → Type 0) (xs : List X) → ((k : ℕ) → IfSome (slice_get xs k) P) → AllByRecursion P xs
each_if P [] h = tt
each_if P (x ∷ xs) h = (h 0, each_if P xs (λ k. h (suc k)))

same_at : {X : Type 0} (xs ys : List X) → ((k : ℕ) → slice_get xs k ≡ slice_get ys k) → xs ≡ ys
same_at [] [] h = refl
same_at [] (y ∷ ys) h = let none = h 0 in absurd cc
same_at (x ∷ xs) [] h = let none = h 0 in absurd cc
same_at {X} (x ∷ xs) (y ∷ ys) h =
    let first = h 0 in
    let here : x ≡ y = cc in
    let later : xs ≡ ys = same_at xs ys (λ k. h (suc k)) in
    λ i. here i ∷ later i

module _ (plan : Plan) (run : Run) where
  posted_from : (actor : ℕ) (earlier entries : List Entry) → AllByRecursion (Kept plan run) (entries_lines plan run.version actor earlier entries) → (first more : List Entry) (entry : Entry) → entries ≡ first ++ entry ∷ more → IsPosted plan run actor (earlier ++ first) entry
  posted_from actor earlier [] h [] more entry e = absurd cc
  posted_from actor earlier [] h (x ∷ first) more entry e = absurd cc
  posted_from actor earlier (x ∷ entries) h [] more entry e =
      let same : x ≡ entry = cc in
      let here : IsPosted plan run actor earlier x = h.0 in
      subst (λ (es : List Entry). IsPosted plan run actor es entry) (sym (append-nil earlier)) (subst (IsPosted plan run actor earlier) same here)
  posted_from actor earlier (x ∷ entries) h (y ∷ first) more entry e =
      let same : x ≡ y = cc in
      let later : entries ≡ first ++ entry ∷ more = cc in
      let rest = each_right (Kept plan run) (lines_of_entry plan run.version actor earlier x) (entries_lines plan run.version actor (earlier ++ x ∷ []) entries) h in
      let at = posted_from actor (earlier ++ x ∷ []) entries rest first more entry later in
      subst (λ (es : List Entry). IsPosted plan run actor es entry) (append_assoc earlier (x ∷ []) first ∙ ap (λ (z : Entry). earlier ++ z ∷ first) same) at

  section_from : (actor : ℕ) (named : ActorPlan) (own : ActorRun) → AllByRecursion (Kept plan run) (section_lines plan run.version actor named own) → SectionKeeps plan run actor own
  section_from actor named own h =
      let late : List Line = map (λ l. other_line (late_line plan l)) own.late in
      let last : List Line = record { mark = ends actor; text = end_line own } ∷ [] in
      let entries : List Line = entries_lines plan run.version actor [] own.entries in
      record {
        posted = λ earlier more entry e. posted_from actor [] own.entries (each_left (Kept plan run) entries (late ++ last) h.1) earlier more entry e;
        lacks = (each_right (Kept plan run) late last (each_right (Kept plan run) entries (late ++ last) h.1)).0;
      }

  sections_back : (actor : ℕ) (actors : List ActorPlan) (runs : List ActorRun) → length runs ≡ length actors → AllByRecursion (Kept plan run) (sections_from plan run.version actor actors runs) → (k : ℕ) (own : ActorRun) → slice_get runs k ≡ Some own → SectionKeeps plan run (actor + k) own
  sections_back actor [] [] l h k own e = absurd cc
  sections_back actor [] (x ∷ runs) l h k own e = absurd (omega arith)
  sections_back actor (named ∷ actors) [] l h k own e = absurd (omega arith)
  sections_back actor (named ∷ actors) (x ∷ runs) l h zero own e =
      let same : x ≡ own = cc in
      let here = section_from actor named x (each_left (Kept plan run) (section_lines plan run.version actor named x) (sections_from plan run.version (actor + 1) actors runs) h) in
      let at : actor ≡ actor + 0 = omega arith in
      subst (λ (a : ℕ). SectionKeeps plan run a own) at (subst (SectionKeeps plan run actor) same here)
  sections_back actor (named ∷ actors) (x ∷ runs) l h (suc k) own e =
      let later = sections_back (actor + 1) actors runs (omega arith) (each_right (Kept plan run) (section_lines plan run.version actor named x) (sections_from plan run.version (actor + 1) actors runs) h) k own e in
      let at : actor + 1 + k ≡ actor + suc k = omega arith in
      subst (λ (a : ℕ). SectionKeeps plan run a own) at later

  pub sections_right : length run.actors ≡ length plan.actors → IsAccepted plan run → (actor : ℕ) (own : ActorRun) → slice_get run.actors actor ≡ Some own → SectionKeeps plan run actor own
  sections_right many accepted actor own there =
      let each = each_if (Kept plan run) (lines_of plan run) (λ k. (accepted k).keeps) in
      let at : 0 + actor ≡ actor = omega arith in
      subst (λ (a : ℕ). SectionKeeps plan run a own) at (sections_back 0 plan.actors run.actors many each.1 actor own there)

pub expected_is_linked : ExpectedIsLinked
expected_is_linked plan run typed fit same accepted = linked_shown plan run fit typed.few_actors same (sections_right plan run fit.actors accepted)

pub text_of : (lines : List Line) → flat_map (λ (t : List ℕ). t) (texts_of lines) ≡ flat_map (λ (l : Line). l.text) lines
text_of [] = refl
text_of (l ∷ lines) = ap (λ (t : List ℕ). l.text ++ t) (text_of lines)

pub accepted_has_one_text : AcceptedHasOneText
accepted_has_one_text plan run accepted =
    let other : Run = expected_run plan run in
    let same : texts_of (lines_of plan run) ≡ texts_of (lines_of plan other) = same_at (texts_of (lines_of plan run)) (texts_of (lines_of plan other)) (λ k. (accepted k).same) in
    sym (lines_are_text plan other) ∙ sym (text_of (lines_of plan other)) ∙ ap (flat_map (λ (t : List ℕ). t)) (sym same) ∙ text_of (lines_of plan run) ∙ lines_are_text plan run

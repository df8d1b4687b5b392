-- The first line in fault, from the two that were found.
use Rattle.std.proofs.Common.{◌≡◌, ◌∙◌, ℕ, ◌+◌, ◌-◌, ◌^◌, ◌<◌, ◌≤◌, List, [], ◌∷◌, length, length-append, Option, None, Some, slice_get, refl, sym, ap, subst, arith}
use Rattle.std.specs.Prelude.{IfSome}
use Rattle.std.specs.List.{AllByRecursion}
use Rattle.std.proofs.lemmas.List.{length-map}
use Rattle.script_types.specs.declared.plan.Plan.{Plan}
use Rattle.script_types.specs.declared.plan.ActorPlan.{ActorPlan}
use Rattle.fair_semantics.specs.declared.run.ActorRun.{ActorRun}
use Rattle.fair_semantics.specs.declared.run.Run.{Run}
use Rattle.fair_semantics.specs.Fits.{RunFits}
use Rattle.arrival_log.specs.LogText.{log_text}
use Rattle.script_types.specs.Typed.{IsTyped}
use Rattle.log_replay.specs.Apart.{lines_before}
use Rattle.log_replay.specs.Check.{IsFirstFault, numbered}
use Rattle.log_replay.specs.Expected.{expected_run}
use Rattle.log_replay.specs.Fault.{IsRight, Keeps, Line, lines_of, section_lines, sections_from, texts_of}
use Rattle.log_replay.specs.Kept.{earlier, posts_fault, sections_size}
use Rattle.log_replay.proofs.ApartLemmas.{IsLine, joined, lines_part}
use Rattle.log_replay.proofs.BackLemmas.{text_of}
use Rattle.log_replay.proofs.FirstLemmas.{First, FirstPlace, both_places, first_place, first_within}
use Rattle.log_replay.proofs.LineLemmas.{lines_are_text}
use Rattle.log_replay.proofs.SectionLemmas.{posts_first, section_count}
use Rattle.log_replay.proofs.TextLemmas.{are_lines}

-- each line has a byte at least
lines_short : (texts : List (List ℕ)) → AllByRecursion IsLine texts → length texts ≤ length (joined texts)
lines_short [] h = omega arith
lines_short (t ∷ texts) h = let later = lines_short texts h.1 in omega (arith, later, length-append t (joined texts), length-append h.0.body (10 ∷ []), ap length h.0.is)

sections_count : (plan : Plan) (run : Run) (to : ℕ) (actors : List ActorPlan) (runs : List ActorRun) → length runs ≡ length actors → length (sections_from plan run.version to actors runs) ≡ sections_size runs
sections_count plan run to [] [] same = refl
sections_count plan run to [] (own ∷ runs) same = absurd (omega arith)
sections_count plan run to (named ∷ actors) [] same = absurd (omega arith)
sections_count plan run to (named ∷ actors) (own ∷ runs) same =
    omega (arith, length-append (section_lines plan run.version to named own) (sections_from plan run.version (to + 1) actors runs), section_count plan run to named own, sections_count plan run (to + 1) actors runs (omega (arith, same)))

joined_text : (plan : Plan) (run : Run) → joined (texts_of (lines_of plan run)) ≡ log_text plan run
joined_text plan run = text_of (lines_of plan run) ∙ lines_are_text plan run

module _ (plan : Plan) (run : Run) (own : IsTyped plan) (fits : RunFits plan run) where
  -- a log has no more lines than bytes
  pub lines_few : 1 + sections_size run.actors ≤ length (log_text plan run)
  lines_few =
      let short = lines_short (texts_of (lines_of plan run)) (are_lines plan run own fits) in
      omega (arith, short, ap length (joined_text plan run), length-map (lines_of plan run) (λ (l : Line). l.text), sections_count plan run 0 plan.actors run.actors fits.actors)

  module _ (expected : Run) (is : expected ≡ expected_run plan run) where
    kept_few : (n : ℕ) → posts_fault run expected ≡ Some n → n < 1 + sections_size run.actors
    kept_few n e =
        let within = first_within (λ (l : Line). Keeps plan run l.mark) 0 (lines_of plan run) n (subst (First_of) e (posts_first plan run expected is fits)) in
        omega (arith, within.1, sections_count plan run 0 plan.actors run.actors fits.actors)
      where
        First_of : Option ℕ → Type 0
        First_of o = First (λ (l : Line). Keeps plan run l.mark) 0 (lines_of plan run) o

    -- what was found is small enough to be counted from 1
    pub found_small : (kept parted found : Option ℕ) (most : ℕ) → kept ≡ posts_fault run expected → IfSome parted (λ n. n ≤ most) → found ≡ earlier kept parted → 1 + sections_size run.actors ≤ most → most < 2 ^ 64 - 1 → IfSome found (λ n. n < 2 ^ 64 - 1)
    found_small None None found most k p e l m = subst (λ (o : Option ℕ). IfSome o (λ n. n < 2 ^ 64 - 1)) (sym e) tt
    found_small None (Some b) found most k p e l m = subst (λ (o : Option ℕ). IfSome o (λ n. n < 2 ^ 64 - 1)) (sym e) (omega (arith, p))
    found_small (Some a) None found most k p e l m = let few = kept_few a (sym k) in subst (λ (o : Option ℕ). IfSome o (λ n. n < 2 ^ 64 - 1)) (sym e) (omega (arith, few))
    found_small (Some a) (Some b) found most k p e l m = let few = kept_few a (sym k) in subst (λ (o : Option ℕ). IfSome o (λ n. n < 2 ^ 64 - 1)) (sym e) (omega (arith, few))

    -- and it is the first line in fault
    pub found_first : RunFits plan expected → (bytes text : List ℕ) → bytes ≡ log_text plan run → text ≡ log_text plan expected → (kept parted found : Option ℕ) → kept ≡ posts_fault run expected → parted ≡ lines_before 0 bytes text → found ≡ earlier kept parted
        → IsFirstFault plan run (numbered found)
    found_first other bytes text bytes_are text_is kept parted found k p e =
        let posts = first_place (λ (l : Line). Keeps plan run l.mark) 0 (lines_of plan run) (posts_fault run expected) (posts_first plan run expected is fits) in
        let lines = lines_part 0 (texts_of (lines_of plan run)) (texts_of (lines_of plan expected)) (are_lines plan run own fits) (are_lines plan expected own other) in
        let at = p ∙ (λ i. lines_before 0 ((bytes_are ∙ sym (joined_text plan run)) i) ((text_is ∙ sym (joined_text plan expected)) i)) in
        let both = both_places Posts Same 0 (posts_fault run expected) (lines_before 0 (joined (texts_of (lines_of plan run))) (joined (texts_of (lines_of plan expected)))) posts lines in
        by found (subst (FirstPlace Both 0) (sym (e ∙ (λ i. earlier (k i) (at i)))) both)
      where
        Posts : ℕ → Type 0
        Posts k = IfSome (slice_get (lines_of plan run) k) (λ (l : Line). Keeps plan run l.mark)

        Same : ℕ → Type 0
        Same k = slice_get (texts_of (lines_of plan run)) k ≡ slice_get (texts_of (lines_of plan expected)) k

        Both : ℕ → Type 0
        Both k = Posts k × Same k

        right : (k : ℕ) → Both k → IsRight plan run k
        right k h = record { keeps = h.0; same = h.1 ∙ ap (λ (r : Run). slice_get (texts_of (lines_of plan r)) k) is }

        by : (o : Option ℕ) → FirstPlace Both 0 o → IsFirstFault plan run (numbered o)
        by None h = λ k. right k (h k)
        by (Some n) h = record {
          place = h.0;
          counted = omega (arith, h.1);
          before = λ k l. right k (h.2 k l);
          wrong = λ r. h.3 (r.keeps, r.same ∙ sym (ap (λ (x : Run). slice_get (texts_of (lines_of plan x)) (h.0)) is));
        }

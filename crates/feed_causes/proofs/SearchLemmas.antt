-- A search for what led to a firing, from its start to its end.
use Rattle.std.proofs.Common.{◌≡◌, ◌∙◌, ◌⊎◌, inl, inr, ℕ, zero, suc, ◌+◌, ◌<◌, Bool, true, false, List, [], ◌∷◌, ◌++◌, length, replicate, Option, None, Some, slice_get, refl, sym, ap, subst, arith}
use Rattle.std.proofs.lemmas.List.{length-replicate, length_push}
use Rattle.std.proofs.lemmas.Option.{slice_get_within}
use Rattle.pattern_core.specs.Members.{IsIn}
use Rattle.pattern_core.proofs.MembersLemmas.{IsIn-append_cases, IsIn-append_left, IsIn-append_right}
use Rattle.feed_causes.specs.Causes.{Arrived, LedTo, origin_at, origin_by, posted, taken_at, took}
use Rattle.feed_causes.specs.Search.{AreMarks, IsStep, Looks, all_awaited, all_marked, led_by, origin_in, origins_from}
use Rattle.feed_causes.proofs.MarkLemmas.{Marks, marks_all, open_count}
use Rattle.feed_causes.proofs.OriginLemmas.{origin_is}

-- all that is marked led to the firing at a place; what led there directly is marked, and so is what led to a marked
-- arrival that does not wait
pub record IsSearched (all : List Arrived) (place : ℕ) (marks : List Bool) (waiting : List ℕ) : Type 0 where
  pub count : length marks ≡ length all
  pub led : (cause : ℕ) → slice_get marks cause ≡ Some true → LedTo all place cause
  pub waits : (cause : ℕ) → IsIn cause waiting → LedTo all place cause
  pub first : (cause : ℕ) → IsIn cause (taken_at all place) → cause < length all → slice_get marks cause ≡ Some true
  pub closed : (later : ℕ) → slice_get marks later ≡ Some true
      → IsIn later waiting ⊎ ((cause : ℕ) → IsIn cause (led_by all (origin_at all later)) → cause < length all → slice_get marks cause ≡ Some true)

-- ---- the start

no_mark : (n place : ℕ) → slice_get (replicate n false) place ≡ Some true → ⊥
no_mark zero place is = absurd cc
no_mark (suc n) zero is = absurd cc
no_mark (suc n) (suc place) is = no_mark n place is

starts : (all : List Arrived) (place : ℕ) (marks : List Bool) (waiting : List ℕ) → Marks (replicate (length all) false) [] (taken_at all place) marks waiting → IsSearched all place marks waiting
starts all place marks waiting is = record {
  count = is.count ∙ length-replicate (length all) false;
  led = λ cause has. elim (is.one_of cause has) [ inl had ↦ absurd (no_mark (length all) cause had) | inr new ↦ took cause new.0 ];
  waits = λ cause at. elim (is.among cause at) [ inl old ↦ absurd old | inr new ↦ took cause new ];
  first = λ cause at less. is.has cause at (subst (λ (n : ℕ). cause < n) (sym (length-replicate (length all) false)) less);
  closed = λ later has. elim (is.one_of later has) [ inl had ↦ absurd (no_mark (length all) later had) | inr new ↦ inl new.1 ];
}

pub search_starts : (all : List Arrived) (place : ℕ) (marks after : List Bool) (waiting left : List ℕ) → marks ≡ replicate (length all) false → waiting ≡ [] → after ≡ all_marked marks (taken_at all place) → left ≡ all_awaited marks (taken_at all place) waiting
    → IsSearched all place after left
search_starts all place marks after waiting left none empty marked_is left_is =
    starts all place after left
    (subst (λ (ms : List Bool). Marks ms [] (taken_at all place) after left) none
    (subst (λ (ws : List ℕ). Marks marks ws (taken_at all place) after left) empty
    (subst (λ (ms : List Bool). Marks marks waiting (taken_at all place) ms left) (sym marked_is)
    (subst (λ (ws : List ℕ). Marks marks waiting (taken_at all place) (all_marked marks (taken_at all place)) ws) (sym left_is)
    (marks_all marks waiting (taken_at all place))))))

-- ---- a step

led_more : (all : List Arrived) (place later cause : ℕ) → LedTo all place later → IsIn cause (led_by all (origin_at all later)) → LedTo all place cause
led_more all place later cause led at = by (origin_at all later) refl at
  where
    by : (origin : Option ℕ) → origin_at all later ≡ origin → IsIn cause (led_by all origin) → LedTo all place cause
    by None is none = absurd none
    by (Some origin) is taken = posted later origin cause led is taken

module _ (all : List Arrived) (place : ℕ) (marks : List Bool) (rest : List ℕ) (last : ℕ) (after : List Bool) (left : List ℕ)
    (before : IsSearched all place marks (rest ++ last ∷ [])) (is : Marks marks rest (led_by all (origin_at all last)) after left) where
  last_led : LedTo all place last
  last_led = before.waits last (IsIn-append_right last rest (last ∷ []) (inl refl))

  last_closed : (later : ℕ) → last ≡ later → (cause : ℕ) → IsIn cause (led_by all (origin_at all later)) → cause < length all → slice_get after cause ≡ Some true
  last_closed later same cause at less =
      is.has cause (subst (λ (l : ℕ). IsIn cause (led_by all (origin_at all l))) (sym same) at) (subst (λ (n : ℕ). cause < n) (sym before.count) less)

  was_waiting : (later : ℕ) → IsIn later rest ⊎ IsIn later (last ∷ [])
      → IsIn later left ⊎ ((cause : ℕ) → IsIn cause (led_by all (origin_at all later)) → cause < length all → slice_get after cause ≡ Some true)
  was_waiting later (inl still) = inl (is.waits later still)
  was_waiting later (inr (inl same)) = inr (last_closed later same)
  was_waiting later (inr (inr none)) = absurd none

  was_closed : (later : ℕ) → IsIn later (rest ++ last ∷ []) ⊎ ((cause : ℕ) → IsIn cause (led_by all (origin_at all later)) → cause < length all → slice_get marks cause ≡ Some true)
      → IsIn later left ⊎ ((cause : ℕ) → IsIn cause (led_by all (origin_at all later)) → cause < length all → slice_get after cause ≡ Some true)
  was_closed later (inl at) = was_waiting later (IsIn-append_cases later rest (last ∷ []) at)
  was_closed later (inr closed) = inr (λ cause at less. is.keeps cause (closed cause at less))

  goes_on : IsSearched all place after left
  goes_on = record {
    count = is.count ∙ before.count;
    led = λ cause has. elim (is.one_of cause has) [ inl had ↦ before.led cause had | inr new ↦ led_more all place last cause last_led new.0 ];
    waits = λ cause at. elim (is.among cause at) [ inl old ↦ before.waits cause (IsIn-append_left cause rest (last ∷ []) old) | inr new ↦ led_more all place last cause last_led new ];
    first = λ cause at less. is.keeps cause (before.first cause at less);
    closed = λ later has. elim (is.one_of later has) [ inl had ↦ was_closed later (before.closed later had) | inr new ↦ inl new.1 ];
  }

step_marks : (all : List Arrived) (marks : List Bool) (waiting : List ℕ) (after : List Bool) (left : List ℕ) (step : IsStep all marks waiting after left) → Marks marks step.rest (led_by all (origin_at all step.last)) after left
step_marks all marks waiting after left step =
    subst (λ (ms : List Bool). Marks marks step.rest (led_by all (origin_at all step.last)) ms left) (sym step.marked_is)
    (subst (λ (ws : List ℕ). Marks marks step.rest (led_by all (origin_at all step.last)) (all_marked marks (led_by all (origin_at all step.last))) ws) (sym step.left_is)
    (marks_all marks step.rest (led_by all (origin_at all step.last))))

looks_on : (all : List Arrived) (marks : List Bool) (waiting : List ℕ) (after : List Bool) (left : List ℕ) (more : Bool) → more ≡ true → Looks all marks waiting after left more → IsStep all marks waiting after left
looks_on all marks waiting after left true is step = step
looks_on all marks waiting after left false is none = absurd cc

-- the search goes on
pub search_on : (all : List Arrived) (place : ℕ) (marks : List Bool) (waiting : List ℕ) (after : List Bool) (left : List ℕ) (more : Bool) → more ≡ true → Looks all marks waiting after left more → IsSearched all place marks waiting → IsSearched all place after left
search_on all place marks waiting after left more is looks before =
    let step = looks_on all marks waiting after left more is looks in
    goes_on all place marks step.rest step.last after left (subst (λ (ws : List ℕ). IsSearched all place marks ws) step.was before) (step_marks all marks waiting after left step)

-- and has less to do
pub search_less : (all : List Arrived) (marks : List Bool) (waiting : List ℕ) (after : List Bool) (left : List ℕ) (more : Bool) → more ≡ true → Looks all marks waiting after left more → open_count after + length left < open_count marks + length waiting
search_less all marks waiting after left more is looks =
    let step = looks_on all marks waiting after left more is looks in
    let size : open_count after + length left ≡ open_count marks + length step.rest = (step_marks all marks waiting after left step).size in
    let many : length waiting ≡ length (step.rest ++ step.last ∷ []) = ap length step.was in
    let push : length (step.rest ++ step.last ∷ []) ≡ length step.rest + 1 = length_push step.rest step.last in
    omega (arith, size, many, push)

-- an arrival that waited was looked at
pub step_made : (all : List Arrived) (origins : List (Option ℕ)) (marks after : List Bool) (waiting rest left : List ℕ) (last : ℕ) (origin : Option ℕ) → origins ≡ origins_from all 0 all → waiting ≡ rest ++ last ∷ []
    → origin ≡ origin_in (slice_get origins last) → after ≡ all_marked marks (led_by all origin) → left ≡ all_awaited marks (led_by all origin) rest → IsStep all marks waiting after left
step_made all origins marks after waiting rest left last origin are was is marked_is left_is =
    let same : origin ≡ origin_at all last = is ∙ origin_is all origins last are in
    record {
      rest = rest;
      last = last;
      was = was;
      marked_is = marked_is ∙ ap (λ (o : Option ℕ). all_marked marks (led_by all o)) same;
      left_is = left_is ∙ ap (λ (o : Option ℕ). all_awaited marks (led_by all o) rest) same;
    }

-- ---- the end

origin_within : (all : List Arrived) (place origin : ℕ) → origin_at all place ≡ Some origin → place < length all
origin_within all place origin is = by (slice_get all place) refl is
  where
    by : (arrival : Option Arrived) → slice_get all place ≡ arrival → origin_by all place arrival ≡ Some origin → place < length all
    by None at none = absurd cc
    by (Some arrival) at some = slice_get_within all place arrival at

-- where none waits, all that led there is marked
whole : (all : List Arrived) (place : ℕ) (marks : List Bool) → IsSearched all place marks [] → (cause : ℕ) → LedTo all place cause → cause < length all → slice_get marks cause ≡ Some true
whole all place marks is cause (took c at) less = is.first c at less
whole all place marks is cause (posted later origin c led of taken) less =
    elim (is.closed later (whole all place marks is later led (origin_within all later origin of))) [
      | inl none ↦ absurd none
      | inr closed ↦ closed c (subst (λ (o : Option ℕ). IsIn c (led_by all o)) (sym of) taken) less
    ]

looks_ended : (all : List Arrived) (marks : List Bool) (waiting : List ℕ) (after : List Bool) (left : List ℕ) (more : Bool) → more ≡ false → Looks all marks waiting after left more → (waiting ≡ []) × (after ≡ marks)
looks_ended all marks waiting after left false is none = (none.0, none.1)
looks_ended all marks waiting after left true is step = absurd cc

pub search_ended : (all : List Arrived) (place : ℕ) (marks : List Bool) (waiting : List ℕ) (after : List Bool) (left : List ℕ) (more : Bool) → more ≡ false → Looks all marks waiting after left more → IsSearched all place marks waiting → AreMarks all place after
search_ended all place marks waiting after left more is looks before =
    let ended = looks_ended all marks waiting after left more is looks in
    let empty : IsSearched all place marks [] = subst (λ (ws : List ℕ). IsSearched all place marks ws) ended.0 before in
    let are : AreMarks all place marks = record { count = before.count; led = before.led; each = λ cause less led. whole all place marks empty cause led less } in
    subst (λ (ms : List Bool). AreMarks all place ms) (sym ended.1) are

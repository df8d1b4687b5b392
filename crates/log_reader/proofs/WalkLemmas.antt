-- A log line by line: what is read so far, and what its end or a refusal says.
use Rattle.std.proofs.Common.{◌≡◌, ◌∙◌, ℕ, zero, suc, ◌-◌, ◌<◌, ◌≤◌, ◌==◌, Bool, true, List, [], ◌∷◌, ◌++◌, length, map, Option, None, Some, slice_get, refl, sym, ap, subst, append_assoc, arith}
use Rattle.std.specs.Prelude.{if◌then◌else◌}
use Rattle.std.specs.List.{AllByRecursion, onto_first, slice_split}
use Rattle.std.proofs.lemmas.Bool.{le-ltb}
use Rattle.std.proofs.lemmas.List.Splits.{length-slice_split, slice_split-cons_no}
use Rattle.std.proofs.lemmas.Option.{same_Some}
use Rattle.script_types.specs.declared.plan.Plan.{Plan}
use Rattle.fair_semantics.specs.declared.run.Run.{Run}
use Rattle.fair_semantics.specs.Fits.{RunFits}
use Rattle.log_lines.specs.declared.line.Head.{Head}
use Rattle.log_lines.specs.declared.line.LogLine.{LogLine}
use Rattle.log_lines.specs.Cut.{cut, lacks}
use Rattle.script_types.specs.Typed.{IsTyped}
use Rattle.log_lines.specs.Lines.{line_of}
use Rattle.log_lines.specs.Forms.{HeadFits, LineFits, line_text}
use Rattle.log_lines.proofs.CutLemmas.{cut_none, cut_takes, first_lacks, rest_lacks}
use Rattle.log_lines.proofs.HeadLemmas.{head_body}
use Rattle.log_lines.proofs.FormLemmas.{body, body_is, line_again}
use Rattle.log_lines.proofs.LackLemmas.{body_lacks, head_lacks}
use Rattle.log_lines.proofs.ExactLemmas.{head_is, heads_of, numbers_of_head}
use Rattle.log_reader.specs.declared.draft.Open.TheVariants.{Heading}
use Rattle.log_reader.specs.Log.{IsLogOf}
use Rattle.log_reader.specs.Places.{Lead, MayStand, Place, all_but_last, heading, finish, section, start, whole_lines, within}
use Rattle.log_reader.proofs.RunLines.{head_of_run, log_is, sections_log, texts}
use Rattle.log_reader.proofs.ShownLemmas.{draft_at}
use Rattle.log_reader.proofs.AgainLemmas.{run_again, sections_fit}
use Rattle.log_reader.proofs.PlaceLemmas.{steps_lead}

-- ---- whole lines

abbrev pub line_parts : List ℕ → List (List ℕ)
line_parts bytes = slice_split (λ (b : ℕ). b == 10) bytes

-- what stands behind the last LF
abbrev pub last_of : List (List ℕ) → List ℕ
last_of [] = []
last_of (x ∷ []) = x
last_of (x ∷ y ∷ xs) = last_of (y ∷ xs)

abbrev pub tail_of : List ℕ → List ℕ
tail_of bytes = last_of (line_parts bytes)

parts_first : (text more : List ℕ) → lacks 10 text ≡ true → line_parts (text ++ 10 ∷ more) ≡ text ∷ line_parts more
parts_first [] more none = refl
parts_first (x ∷ xs) more none =
    slice_split-cons_no (λ (b : ℕ). b == 10) x (xs ++ 10 ∷ more) (first_lacks (x == 10) (lacks 10 xs) none)
    ∙ ap (onto_first x) (parts_first xs more (rest_lacks (x == 10) (lacks 10 xs) none))

parts_last : (text : List ℕ) → lacks 10 text ≡ true → line_parts text ≡ text ∷ []
parts_last [] none = refl
parts_last (x ∷ xs) none =
    slice_split-cons_no (λ (b : ℕ). b == 10) x xs (first_lacks (x == 10) (lacks 10 xs) none)
    ∙ ap (onto_first x) (parts_last xs (rest_lacks (x == 10) (lacks 10 xs) none))

parts_some : (bytes : List ℕ) → 1 ≤ length (line_parts bytes)
parts_some bytes = omega (arith, length-slice_split (λ (b : ℕ). b == 10) bytes)

lines_more : (text : List ℕ) (parts : List (List ℕ)) → 1 ≤ length parts → all_but_last (text ∷ parts) ≡ text ∷ all_but_last parts
lines_more text [] some = absurd (omega arith)
lines_more text (x ∷ xs) some = refl

last_more : (text : List ℕ) (parts : List (List ℕ)) → 1 ≤ length parts → last_of (text ∷ parts) ≡ last_of parts
last_more text [] some = absurd (omega arith)
last_more text (x ∷ xs) some = refl

pub lines_first : (text more : List ℕ) → lacks 10 text ≡ true → whole_lines (text ++ 10 ∷ more) ≡ text ∷ whole_lines more
lines_first text more none = ap all_but_last (parts_first text more none) ∙ lines_more text (line_parts more) (parts_some more)

pub tail_first : (text more : List ℕ) → lacks 10 text ≡ true → tail_of (text ++ 10 ∷ more) ≡ tail_of more
tail_first text more none = ap last_of (parts_first text more none) ∙ last_more text (line_parts more) (parts_some more)

pub lines_cut : (rest text more : List ℕ) → cut 10 rest ≡ Some (text, more) → whole_lines rest ≡ text ∷ whole_lines more
lines_cut rest text more is = let taken = cut_takes 10 rest (text, more) is in ap whole_lines taken.split ∙ lines_first text more taken.none

pub tail_cut : (rest text more : List ℕ) → cut 10 rest ≡ Some (text, more) → tail_of rest ≡ tail_of more
tail_cut rest text more is = let taken = cut_takes 10 rest (text, more) is in ap tail_of taken.split ∙ tail_first text more taken.none

pub lines_none : (rest : List ℕ) → cut 10 rest ≡ None → whole_lines rest ≡ []
lines_none rest is = ap all_but_last (parts_last rest (cut_none 10 rest is))

pub tail_none : (rest : List ℕ) → cut 10 rest ≡ None → tail_of rest ≡ rest
tail_none rest is = ap last_of (parts_last rest (cut_none 10 rest is))

-- ---- the lines of a log

module _ (plan : Plan) (typed : IsTyped plan) (head : Head) (fits : HeadFits plan head) where
  line_first : (l : LogLine) (more : List ℕ) → LineFits plan head l → line_text plan head l ++ more ≡ body plan head l ++ 10 ∷ more
  line_first l more fit = ap (λ (t : List ℕ). t ++ more) (sym (body_is plan head l)) ∙ append_assoc (body plan head l) (10 ∷ []) more

  lines_texts : (ls : List LogLine) → AllByRecursion (LineFits plan head) ls → whole_lines (texts plan head ls) ≡ map (body plan head) ls
  lines_texts [] all = refl
  lines_texts (l ∷ ls) all =
      ap whole_lines (line_first l (texts plan head ls) all.0)
      ∙ lines_first (body plan head l) (texts plan head ls) (body_lacks plan typed head l (heads_of plan head fits) all.0)
      ∙ ap (λ (t : List (List ℕ)). body plan head l ∷ t) (lines_texts ls all.1)

  tail_texts : (ls : List LogLine) → AllByRecursion (LineFits plan head) ls → tail_of (texts plan head ls) ≡ []
  tail_texts [] all = refl
  tail_texts (l ∷ ls) all =
      ap tail_of (line_first l (texts plan head ls) all.0)
      ∙ tail_first (body plan head l) (texts plan head ls) (body_lacks plan typed head l (heads_of plan head fits) all.0)
      ∙ tail_texts ls all.1

  pub bodies_differ : (xs ys : List LogLine) → AllByRecursion (LineFits plan head) xs → AllByRecursion (LineFits plan head) ys → map (body plan head) xs ≡ map (body plan head) ys → xs ≡ ys
  bodies_differ [] [] one other is = refl
  bodies_differ [] (y ∷ ys) one other is = absurd cc
  bodies_differ (x ∷ xs) [] one other is = absurd cc
  bodies_differ (x ∷ xs) (y ∷ ys) one other is =
      let first : body plan head x ≡ body plan head y = cc in
      let rest : map (body plan head) xs ≡ map (body plan head) ys = cc in
      let same : x ≡ y = same_Some x y (sym (line_again plan typed head (heads_of plan head fits) x one.0) ∙ ap (line_of plan head) first ∙ line_again plan typed head (heads_of plan head fits) y other.0) in
      ap (λ (z : LogLine). z ∷ xs) same ∙ ap (λ (zs : List LogLine). y ∷ zs) (bodies_differ xs ys one.1 other.1 rest)

pub head_fits : (plan : Plan) (run : Run) → RunFits plan run → HeadFits plan (head_of_run run)
head_fits plan run fits = record { version = fits.version; replies = fits.replies; arrivals = fits.arrivals; partials = fits.partials; feeds = fits.feeds }

finished : (plan : Plan) (head : Head) (actor : ℕ) → actor ≡ length plan.actors → section plan head actor ≡ finish
finished plan head actor is = ap (λ (b : Bool). if b then within head actor heading else finish) (le-ltb actor (length plan.actors) (omega arith))

-- what a log is, line by line
pub record IsWalk (plan : Plan) (bytes : List ℕ) (run : Run) : Type 0 where
  pub fit : AllByRecursion (LineFits plan (head_of_run run)) (sections_log 0 run.actors)
  pub lines : whole_lines bytes ≡ head_body (head_of_run run) ∷ map (body plan (head_of_run run)) (sections_log 0 run.actors)
  pub tail : tail_of bytes ≡ []
  pub lead : Lead plan start (whole_lines bytes) finish

pub log_walks : (plan : Plan) (bytes : List ℕ) (run : Run) → IsTyped plan → IsLogOf plan bytes run → IsWalk plan bytes run
log_walks plan bytes run typed log =
    let head = head_of_run run in
    let fits = head_fits plan run log.fits in
    let few = log.fits.actors in
    let lines = sections_log 0 run.actors in
    let fit = sections_fit plan head 0 run.actors (omega arith) log.fits.each in
    let first_lacks_end = head_lacks head (numbers_of_head plan head fits) in
    let split : bytes ≡ head_body head ++ 10 ∷ texts plan head lines =
    log.text ∙ log_is plan run log.fits.actors ∙ append_assoc (head_body head) (10 ∷ []) (texts plan head lines) in
    let all : whole_lines bytes ≡ head_body head ∷ map (body plan head) lines =
    ap whole_lines split ∙ lines_first (head_body head) (texts plan head lines) first_lacks_end ∙ ap (λ (t : List (List ℕ)). head_body head ∷ t) (lines_texts plan typed head fits lines fit) in
    let first : MayStand plan start (head_body head) (section plan head 0) = record { head = head; is = record { fits = fits; is = head_is head }; leads = refl } in
    let led = steps_lead plan lines (draft_at head [] [] [] Heading) (draft_at head run.actors [] [] Heading) head refl fit (run_again plan run log.fits) in
    let done : section plan head (length run.actors) ≡ finish = finished plan head (length run.actors) few in
    let whole : Lead plan start (head_body head ∷ map (body plan head) lines) finish = (section plan head 0, (first, subst (λ (p : Place). Lead plan (section plan head 0) (map (body plan head) lines) p) done led)) in
    record {
      fit = fit;
      lines = all;
      tail = ap tail_of split ∙ tail_first (head_body head) (texts plan head lines) first_lacks_end ∙ tail_texts plan typed head fits lines fit;
      lead = subst (λ (t : List (List ℕ)). Lead plan start t finish) (sym all) whole;
    }

-- ---- the line at a place

-- behind a cut the lines are those behind the first
pub line_behind : (rest text more : List ℕ) (left : ℕ) (line : Option (List ℕ)) → cut 10 rest ≡ Some (text, more) → 0 < left → slice_get (whole_lines rest) left ≡ line
    → slice_get (whole_lines more) (left - 1) ≡ line
line_behind rest text more zero line is some at = absurd (omega (arith, some))
line_behind rest text more (suc left) line is some at =
    let one : suc left - 1 ≡ left = omega arith in
    ap (slice_get (whole_lines more)) one ∙ sym (ap (λ (ls : List (List ℕ)). slice_get ls (suc left)) (lines_cut rest text more is)) ∙ at

-- where nothing is cut there is no line
pub no_line : (rest : List ℕ) (left : ℕ) (line : Option (List ℕ)) → cut 10 rest ≡ None → slice_get (whole_lines rest) left ≡ line → line ≡ None
no_line rest left line is at = sym at ∙ ap (λ (ls : List (List ℕ)). slice_get ls left) (lines_none rest is)

-- the line in front of a cut is the first
pub line_here : (rest text more : List ℕ) (left : ℕ) (line : Option (List ℕ)) → cut 10 rest ≡ Some (text, more) → left ≤ 0 → slice_get (whole_lines rest) left ≡ line → line ≡ Some text
line_here rest text more zero line is none at = sym at ∙ ap (λ (ls : List (List ℕ)). slice_get ls 0) (lines_cut rest text more is)
line_here rest text more (suc left) line is none at = absurd (omega (arith, none))

-- What is read so far, and what its end or a refusal says.
use Rattle.std.proofs.Common.{◌≡◌, ◌∙◌, ℕ, suc, ◌+◌, ◌≤◌, ◌==◌, nat_lt, Bool, true, false, List, [], ◌∷◌, ◌++◌, length, map, None, Some, refl, sym, ap, subst, append_assoc, append-nil, length-append, arith}
use Rattle.std.specs.Prelude.{not, ◌&&◌, if◌then◌else◌, Err}
use Rattle.std.specs.List.{AllByRecursion}
use Rattle.std.proofs.lemmas.Bool.{and_parts, ltb-false, not-true, eqb-true}
use Rattle.std.proofs.lemmas.Option.{same_Some}
use Rattle.std.proofs.lemmas.List.Concat.{flat_map-append}
use Rattle.script_types.specs.declared.plan.Plan.{Plan}
use Rattle.fair_semantics.specs.declared.run.ActorRun.{ActorRun}
use Rattle.fair_semantics.specs.declared.run.Run.{Run}
use Rattle.log_lines.specs.declared.line.Head.{Head}
use Rattle.log_lines.specs.declared.line.LogLine.{LogLine}
use Rattle.log_lines.specs.Cut.{cut}
use Rattle.script_types.specs.Typed.{IsTyped}
use Rattle.log_lines.specs.Lines.{head_of}
use Rattle.log_lines.specs.Forms.{HeadFits, IsHead, IsLine, LineFits, head_text, line_text}
use Rattle.log_lines.proofs.CutLemmas.{cut_takes}
use Rattle.log_lines.proofs.NumberLemmas.{eq_true}
use Rattle.log_lines.proofs.HeadLemmas.{head_again, head_body}
use Rattle.log_lines.proofs.FormLemmas.{body}
use Rattle.log_lines.proofs.ExactLemmas.{numbers_of_head, texts_are_one_line}
use Rattle.log_lines.proofs.FieldLemmas.{no_rest}
use Rattle.log_reader.specs.declared.draft.Draft.{Draft}
use Rattle.log_reader.specs.declared.draft.Open.{Open}
use Rattle.log_reader.specs.declared.draft.Open.TheVariants.{Heading, Entries, Arrived, Fired, Lates}
use Rattle.log_reader.specs.declared.fault.LogFault.{LogFault}
use Rattle.log_reader.specs.declared.fault.LogFault.TheVariants.{Bad, NoMemory}
use Rattle.log_reader.specs.Advance.{Adds, AddsNothing, Advances, is_done, run_of}
use Rattle.log_reader.specs.Draft.{is_open, opening, step}
use Rattle.log_reader.specs.Log.{Answers, FaultsAreOneLine, IsLogOf, IsNoLog, LogsAreOneRun}
use Rattle.log_reader.specs.Places.{IsFaultLine, Lead, MayNotStand, MayStand, Place, finish, heading, section, start, whole_lines, within}
use Rattle.log_reader.proofs.RunLines.{head_of_run, log_is, sections_log, texts}
use Rattle.log_reader.proofs.ShownLemmas.{draft_at, shown, step_shows}
use Rattle.log_reader.proofs.SoundLemmas.{Sound, opening_sound, step_sound}
use Rattle.log_reader.proofs.StepLemmas.{place_at, place_of}
use Rattle.log_reader.proofs.AgainLemmas.{run_again, steps}
use Rattle.log_reader.proofs.PlaceLemmas.{PlaceFits, lead_split, may_fit, no_step, one_next, step_head, step_leads}
use Rattle.log_reader.proofs.WalkLemmas.{bodies_differ, head_fits, lines_cut, lines_none, log_walks, tail_cut, tail_none, tail_of}

-- another line that the text is adds nothing either
pub no_other : (plan : Plan) (draft : Draft) (text : List ℕ) (one : LogLine) → IsTyped plan → HeadFits plan draft.head → IsLine plan draft.head text one → step draft one ≡ None → AddsNothing plan draft text
no_other plan draft text one typed fits is none given line = ap (step draft) (texts_are_one_line plan draft.head text given one typed fits line is) ∙ none

-- texts that lead on, and one more
lead_more : (plan : Plan) (xs : List (List ℕ)) (text : List ℕ) (from mid to : Place) → Lead plan from xs mid → MayStand plan mid text to → Lead plan from (xs ++ text ∷ []) to
lead_more plan [] text from mid to lead may = (to, (subst (λ (p : Place). MayStand plan p text to) (sym lead) may, refl))
lead_more plan (x ∷ xs) text from mid to lead may = (lead.0, (lead.1.0, lead_more plan xs text (lead.0) mid to (lead.1.1) may))

-- what was read of the bytes, up to what is left
pub record ReadsLines (plan : Plan) (bytes rest : List ℕ) (number : ℕ) (draft : Draft) : Type 0 where
  pub lines_read : List (List ℕ)
  pub lines : whole_lines bytes ≡ lines_read ++ whole_lines rest
  pub tail : tail_of bytes ≡ tail_of rest
  pub counted : number ≡ length lines_read
  pub lead : Lead plan start lines_read (place_of plan draft)
  pub sound : Sound plan draft
  pub text : bytes ≡ (head_text draft.head ++ texts plan draft.head (shown draft)) ++ rest
  pub room : number + length rest ≤ length bytes

cut_size : (rest text more : List ℕ) → cut 10 rest ≡ Some (text, more) → 1 + length more ≤ length rest
cut_size rest text more is =
    let taken = cut_takes 10 rest (text, more) is in
    omega (arith, ap length taken.split, length-append text (10 ∷ more))

pub reads_first : (plan : Plan) (bytes text rest : List ℕ) (head : Head) → cut 10 bytes ≡ Some (text, rest) → IsHead plan text head → ReadsLines plan bytes rest 1 (opening head)
reads_first plan bytes text rest head is first =
    let taken = cut_takes 10 bytes (text, rest) is in
    record {
      lines_read = text ∷ [];
      lines = lines_cut bytes text rest is;
      tail = tail_cut bytes text rest is;
      counted = refl;
      lead = (section plan head 0, (record { head = head; is = first; leads = refl }, refl));
      sound = opening_sound plan head first.fits;
      text = taken.split ∙ sym (append_assoc text (10 ∷ []) rest) ∙ ap (λ (t : List ℕ). t ++ rest) (first.is ∙ sym (append-nil (head_text head)));
      room = cut_size bytes text rest is;
    }

pub reads_more : (plan : Plan) (bytes rest : List ℕ) (number : ℕ) (draft next : Draft) (text more : List ℕ) → ReadsLines plan bytes rest number draft → cut 10 rest ≡ Some (text, more) → Adds plan draft text next → ReadsLines plan bytes more (number + 1) next
reads_more plan bytes rest number draft next text more reads is adds =
    let taken = cut_takes 10 rest (text, more) is in
    let head = step_head draft adds.given next adds.leads in
    let shows = step_shows draft.head draft.actors draft.entries draft.late draft.reached adds.given next reads.sound.clean adds.leads in
    let counted = reads.counted in
    let room = reads.room in
    let size = cut_size rest text more is in
    let front : List ℕ = head_text draft.head ++ texts plan draft.head (shown draft) in
    let line : List ℕ = line_text plan draft.head adds.given in
    let grown : texts plan draft.head (shown next) ≡ texts plan draft.head (shown draft) ++ line =
    ap (texts plan draft.head) shows ∙ flat_map-append (line_text plan draft.head) (shown draft) (adds.given ∷ []) ∙ ap (λ (t : List ℕ). texts plan draft.head (shown draft) ++ t) (append-nil line) in
    record {
      lines_read = reads.lines_read ++ text ∷ [];
      lines = reads.lines ∙ ap (λ (t : List (List ℕ)). reads.lines_read ++ t) (lines_cut rest text more is) ∙ sym (append_assoc reads.lines_read (text ∷ []) (whole_lines more));
      tail = reads.tail ∙ tail_cut rest text more is;
      counted = omega (arith, length-append reads.lines_read (text ∷ []), counted);
      lead = lead_more plan reads.lines_read text start (place_of plan draft) (place_of plan next) reads.lead (step_leads plan draft text adds.given next adds.is adds.leads);
      sound = step_sound plan draft.head draft.actors draft.entries draft.late draft.reached adds.given next reads.sound adds.is.fits adds.leads;
      text = reads.text
          ∙ ap (λ (t : List ℕ). front ++ t) (taken.split ∙ sym (append_assoc text (10 ∷ []) more) ∙ ap (λ (t : List ℕ). t ++ more) adds.is.is)
          ∙ sym (append_assoc front line more)
          ∙ ap (λ (t : List ℕ). t ++ more) (append_assoc (head_text draft.head) (texts plan draft.head (shown draft)) line ∙ ap (λ (t : List ℕ). head_text draft.head ++ t) (sym grown))
          ∙ ap (λ (h : Head). (head_text h ++ texts plan h (shown next)) ++ more) (sym head);
      room = omega arith;
    }

-- ---- refusals

abbrev pub IsRefused : Plan → List ℕ → ℕ → Type 0
IsRefused plan bytes number = IsNoLog plan bytes × IsFaultLine plan bytes number

-- the lines of a log lead on to the finish from what was read
rest_leads : (plan : Plan) (bytes rest : List ℕ) (number : ℕ) (draft : Draft) (run : Run) → IsTyped plan → ReadsLines plan bytes rest number draft → IsLogOf plan bytes run → Lead plan (place_of plan draft) (whole_lines rest) finish
rest_leads plan bytes rest number draft run typed reads log =
    let walk = log_walks plan bytes run typed log in
    lead_split plan typed reads.lines_read (whole_lines rest) start finish (place_of plan draft) tt (subst (λ (t : List (List ℕ)). Lead plan start t finish) reads.lines walk.lead) reads.lead

pub refused_line : (plan : Plan) (bytes rest : List ℕ) (number : ℕ) (draft : Draft) (text more : List ℕ) → IsTyped plan → ReadsLines plan bytes rest number draft → cut 10 rest ≡ Some (text, more) → AddsNothing plan draft text → IsRefused plan bytes (number + 1)
refused_line plan bytes rest number draft text more typed reads is none =
    let lines = lines_cut rest text more is in
    let counted = reads.counted in (
      λ run log. (let leads = subst (λ (t : List (List ℕ)). Lead plan (place_of plan draft) t finish) lines (rest_leads plan bytes rest number draft run typed reads log) in
          no_step plan draft text (leads.0) none (leads.1.0)),
      record {
        before = reads.lines_read;
        others = text ∷ whole_lines more;
        lines = reads.lines ∙ ap (λ (t : List (List ℕ)). reads.lines_read ++ t) lines;
        counted = ap (λ (n : ℕ). n + 1) counted;
        place = place_of plan draft;
        lead = reads.lead;
        refused = λ next may. no_step plan draft text next none may;
      },
    )

-- only behind the last section nothing may follow
at_finish : (plan : Plan) (head : Head) (actor : ℕ) (b : Bool) → nat_lt actor (length plan.actors) ≡ b → (if b then within head actor heading else finish) ≡ finish → nat_lt actor (length plan.actors) ≡ false
at_finish plan head actor true told is = absurd cc
at_finish plan head actor false told is = told

done_at : (plan : Plan) (head : Head) (actors : ℕ) (reached : Open) → actors ≤ length plan.actors → place_at plan head actors reached ≡ finish → (not (is_open reached) && actors == length plan.actors) ≡ true
done_at plan head actors Heading few is =
    let past = at_finish plan head actors (nat_lt actors (length plan.actors)) refl is in
    let above = ltb-false actors (length plan.actors) past in
    eq_true actors (length plan.actors) (omega arith)
done_at plan head actors Entries few is = absurd cc
done_at plan head actors (Arrived x) few is = absurd cc
done_at plan head actors (Fired x f) few is = absurd cc
done_at plan head actors (Lates last) few is = absurd cc

pub refused_end : (plan : Plan) (bytes rest : List ℕ) (number : ℕ) (draft : Draft) → IsTyped plan → ReadsLines plan bytes rest number draft → cut 10 rest ≡ None → (rest ≡ [] → is_done plan draft ≡ true → ⊥) → IsRefused plan bytes (number + 1)
refused_end plan bytes rest number draft typed reads is unfinished =
    let lines = lines_none rest is in
    let counted = reads.counted in (
      λ run log. (let leads = subst (λ (t : List (List ℕ)). Lead plan (place_of plan draft) t finish) lines (rest_leads plan bytes rest number draft run typed reads log) in
          let walk = log_walks plan bytes run typed log in
          unfinished (sym (tail_none rest is) ∙ sym reads.tail ∙ walk.tail) (done_at plan draft.head (length draft.actors) draft.reached reads.sound.few leads)),
      record {
        before = reads.lines_read;
        others = [];
        lines = reads.lines ∙ ap (λ (t : List (List ℕ)). reads.lines_read ++ t) lines;
        counted = ap (λ (n : ℕ). n + 1) counted;
        place = place_of plan draft;
        lead = reads.lead;
        refused = tt;
      },
    )

pub refused_empty : (plan : Plan) (bytes : List ℕ) → IsTyped plan → cut 10 bytes ≡ None → IsRefused plan bytes 1
refused_empty plan bytes typed is =
    let lines = lines_none bytes is in (
      λ run log. (let walk = log_walks plan bytes run typed log in let none = sym lines ∙ walk.lines in absurd cc),
      record { before = []; others = []; lines = lines; counted = refl; place = start; lead = refl; refused = tt },
    )

pub refused_first : (plan : Plan) (bytes text rest : List ℕ) → IsTyped plan → cut 10 bytes ≡ Some (text, rest) → ((head : Head) → IsHead plan text head → ⊥) → IsRefused plan bytes 1
refused_first plan bytes text rest typed is none =
    let lines = lines_cut bytes text rest is in (
      λ run log. (let leads = subst (λ (t : List (List ℕ)). Lead plan start t finish) lines ((log_walks plan bytes run typed log).lead) in none (leads.1.0.head) (leads.1.0.is)),
      record { before = []; others = text ∷ whole_lines rest; lines = lines; counted = refl; place = start; lead = refl; refused = λ next may. none may.head may.is },
    )

-- ---- the whole log

not_open : (reached : Open) → is_open reached ≡ false → reached ≡ Heading
not_open Heading is = refl
not_open Entries is = absurd cc
not_open (Arrived x) is = absurd cc
not_open (Fired x f) is = absurd cc
not_open (Lates last) is = absurd cc

pub reads_all : (plan : Plan) (bytes rest : List ℕ) (number : ℕ) (draft : Draft) → ReadsLines plan bytes rest number draft → rest ≡ [] → is_done plan draft ≡ true → IsLogOf plan bytes (run_of draft)
reads_all plan bytes rest number draft reads empty done =
    let parts = and_parts (not (is_open draft.reached)) (length draft.actors == length plan.actors) done in
    let same = eqb-true (length draft.actors) (length plan.actors) parts.1 in
    let at : draft.reached ≡ Heading = not_open draft.reached (not-true (is_open draft.reached) parts.0) in
    let sound = reads.sound in
    let head = draft.head in
    let lines : shown draft ≡ sections_log 0 draft.actors =
    ap (λ (r : Open). shown (draft_at head draft.actors draft.entries draft.late r)) at ∙ append-nil (sections_log 0 draft.actors) in
    record {
      fits = record {
        version = sound.head.version;
        replies = sound.head.replies;
        arrivals = sound.head.arrivals;
        partials = sound.head.partials;
        feeds = sound.head.feeds;
        actors = same;
        each = sound.actors;
      };
      text = reads.text
          ∙ ap (λ (t : List ℕ). (head_text head ++ texts plan head (shown draft)) ++ t) empty
          ∙ append-nil (head_text head ++ texts plan head (shown draft))
          ∙ ap (λ (ls : List LogLine). head_text head ++ texts plan head ls) lines
          ∙ sym (log_is plan (run_of draft) same);
    }

pub reads_whole : (plan : Plan) (bytes rest : List ℕ) (number : ℕ) (draft : Draft) → ReadsLines plan bytes rest number draft → (length rest == 0 && is_done plan draft) ≡ true → IsLogOf plan bytes (run_of draft)
reads_whole plan bytes rest number draft reads whole =
    let parts = and_parts (length rest == 0) (is_done plan draft) whole in
    reads_all plan bytes rest number draft reads (no_rest rest parts.0) parts.1

not_whole : (rest : List ℕ) (done : Bool) → (length rest == 0 && done) ≡ false → rest ≡ [] → done ≡ true → ⊥
not_whole rest done is empty holds =
    let both : (length rest == 0 && done) ≡ true = ap (λ (l : List ℕ). length l == 0 && done) empty ∙ holds in
    absurd cc

pub not_read : (plan : Plan) (bytes rest : List ℕ) (number : ℕ) (draft : Draft) → IsTyped plan → ReadsLines plan bytes rest number draft → cut 10 rest ≡ None → (length rest == 0 && is_done plan draft) ≡ false → IsRefused plan bytes (number + 1)
not_read plan bytes rest number draft typed reads is whole = refused_end plan bytes rest number draft typed reads is (not_whole rest (is_done plan draft) whole)

pub failed : (plan : Plan) (bytes rest : List ℕ) (number : ℕ) (draft changed : Draft) (text more : List ℕ) (fault : LogFault) → IsTyped plan → ReadsLines plan bytes rest number draft → cut 10 rest ≡ Some (text, more)
    → Advances plan draft text (number + 1) changed (Err fault) → Answers plan bytes (Err fault)
failed plan bytes rest number draft changed text more (Bad line) typed reads is told = subst (λ (n : ℕ). IsRefused plan bytes n) (sym told.0) (refused_line plan bytes rest number draft text more typed reads is told.1)
failed plan bytes rest number draft changed text more NoMemory typed reads is told = tt

-- ---- laws

head_same : {X : Type 0} (x y : X) (xs ys : List X) → x ∷ xs ≡ y ∷ ys → x ≡ y
head_same x y xs ys is = cc

tail_same : {X : Type 0} (x y : X) (xs ys : List X) → x ∷ xs ≡ y ∷ ys → xs ≡ ys
tail_same x y xs ys is = cc

abbrev pub run_with : Head → List ActorRun → Run
run_with head actors = record { version = head.version; limits = head.limits; feeds = head.feeds; actors = actors }

pub logs_are_one_run : LogsAreOneRun
logs_are_one_run plan bytes one other typed is also =
    let a : Head = head_of_run one in
    let b : Head = head_of_run other in
    let xs : List LogLine = sections_log 0 one.actors in
    let ys : List LogLine = sections_log 0 other.actors in
    let first = log_walks plan bytes one typed is in
    let second = log_walks plan bytes other typed also in
    let fits = head_fits plan one is.fits in
    let lines : head_body a ∷ map (body plan a) xs ≡ head_body b ∷ map (body plan b) ys = sym first.lines ∙ second.lines in
    let heads : head_body a ≡ head_body b = head_same (head_body a) (head_body b) (map (body plan a) xs) (map (body plan b) ys) lines in
    let same : a ≡ b = same_Some a b (sym (head_again a (numbers_of_head plan a fits)) ∙ ap head_of heads ∙ head_again b (numbers_of_head plan b (head_fits plan other also.fits))) in
    let bodies : map (body plan a) xs ≡ map (body plan a) ys =
    tail_same (head_body a) (head_body b) (map (body plan a) xs) (map (body plan b) ys) lines ∙ ap (λ (h : Head). map (body plan h) ys) (sym same) in
    let P : Head → Type 0 = λ h. AllByRecursion (LineFits plan h) ys in
    let both : xs ≡ ys = bodies_differ plan typed a fits xs ys first.fit (subst P (sym same) second.fit) bodies in
    let drafts : draft_at a one.actors [] [] Heading ≡ draft_at b other.actors [] [] Heading =
    same_Some (draft_at a one.actors [] [] Heading) (draft_at b other.actors [] [] Heading)
    (sym (run_again plan one is.fits) ∙ ap (steps (draft_at a [] [] [] Heading)) both ∙ ap (λ (h : Head). steps (draft_at h [] [] [] Heading) ys) same ∙ run_again plan other also.fits) in
    ap (λ (h : Head). run_with h one.actors) same ∙ ap (λ (d : Draft). run_with b d.actors) drafts

module _ (plan : Plan) (typed : IsTyped plan) where
  -- where texts lead on up to one that may not stand, and so do others that begin the same, they are as many
  one_fault : (xs ys rest more : List (List ℕ)) (from to end : Place) → PlaceFits plan from → xs ++ rest ≡ ys ++ more → Lead plan from xs to → Lead plan from ys end → MayNotStand plan to rest → MayNotStand plan end more → length xs ≡ length ys
  one_fault [] [] rest more from to end fits same one other refused also = refl
  one_fault [] (y ∷ ys) rest more from to end fits same one other refused also =
      let none = subst (λ (t : List (List ℕ)). MayNotStand plan to t) same refused in
      absurd (none (other.0) (subst (λ (p : Place). MayStand plan p y (other.0)) one (other.1.0)))
  one_fault (x ∷ xs) [] rest more from to end fits same one other refused also =
      let none = subst (λ (t : List (List ℕ)). MayNotStand plan end t) (sym same) also in
      absurd (none (one.0) (subst (λ (p : Place). MayStand plan p x (one.0)) other (one.1.0)))
  one_fault (x ∷ xs) (y ∷ ys) rest more from to end fits same one other refused also =
      let first : x ≡ y = head_same x y (xs ++ rest) (ys ++ more) same in
      let next : one.0 ≡ other.0 = one_next plan typed from y (one.0) (other.0) fits (subst (λ (t : List ℕ). MayStand plan from t (one.0)) first (one.1.0)) (other.1.0) in
      ap suc (one_fault xs ys rest more (one.0) to end (may_fit plan typed from x (one.0) fits (one.1.0)) (tail_same x y (xs ++ rest) (ys ++ more) same) (one.1.1) (subst (λ (p : Place). Lead plan p ys end) (sym next) (other.1.1)) refused also)

pub faults_are_one_line : FaultsAreOneLine
faults_are_one_line plan bytes one other typed is also =
    let same = one_fault plan typed is.before also.before is.others also.others start is.place also.place tt (sym is.lines ∙ also.lines) is.lead also.lead is.refused also.refused in
    is.counted ∙ ap (λ (n : ℕ). n + 1) same ∙ sym also.counted

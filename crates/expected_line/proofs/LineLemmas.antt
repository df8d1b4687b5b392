-- The whole lines of a log are the lines of its run.
use Rattle.std.proofs.Common.{◌≡◌, ◌∙◌, inl, inr, ℕ, zero, suc, ◌-◌, ◌<◌, ◌≤◌, List, [], ◌∷◌, ◌++◌, Option, None, Some, option_map, slice_get, append_assoc, refl, sym, ap, subst, arith}
use Rattle.std.specs.Borrow.{Bor}
use Rattle.std.specs.List.{AllByRecursion}
use Rattle.script_types.specs.declared.plan.Plan.{Plan}
use Rattle.script_types.specs.Typed.{IsTyped}
use Rattle.fair_semantics.specs.declared.run.Run.{Run}
use Rattle.fair_semantics.specs.Fits.{RunFits}
use Rattle.arrival_log.specs.LogText.{log_text}
use Rattle.log_lines.specs.Cut.{cut}
use Rattle.log_lines.specs.Gives.{GivesRest}
use Rattle.log_lines.proofs.CutLemmas.{cut-nil}
use Rattle.log_reader.specs.Places.{whole_lines}
use Rattle.log_reader.proofs.WalkLemmas.{lines_cut, lines_first, lines_none}
use Rattle.log_replay.specs.Expected.{expected_run}
use Rattle.log_replay.specs.Fault.{lines_of, texts_of}
use Rattle.log_replay.proofs.ApartLemmas.{IsLine, joined}
use Rattle.log_replay.proofs.BackLemmas.{text_of}
use Rattle.log_replay.proofs.LineLemmas.{lines_are_text}
use Rattle.log_replay.proofs.TextLemmas.{are_lines}
use Rattle.expected_line.specs.Line.{IsExpectedLine, IsLineThere, IsTextOf, ended}

-- ---- the lines of a run

lines_are : (texts : List (List ℕ)) → AllByRecursion IsLine texts → (place : ℕ) → option_map ended (slice_get (whole_lines (joined texts)) place) ≡ slice_get texts place
lines_are [] all place = ap (λ (ls : List (List ℕ)). option_map ended (slice_get ls place)) (lines_none [] (cut-nil 10))
lines_are (text ∷ texts) all place = by place (lines_are texts all.1)
  where
    front : text ++ joined texts ≡ all.0.body ++ 10 ∷ joined texts
    front = ap (λ (t : List ℕ). t ++ joined texts) (sym all.0.is) ∙ append_assoc all.0.body (10 ∷ []) (joined texts)

    split : whole_lines (text ++ joined texts) ≡ all.0.body ∷ whole_lines (joined texts)
    split = ap whole_lines front ∙ lines_first all.0.body (joined texts) all.0.none

    by : (k : ℕ) → ((j : ℕ) → option_map ended (slice_get (whole_lines (joined texts)) j) ≡ slice_get texts j) → option_map ended (slice_get (whole_lines (text ++ joined texts)) k) ≡ slice_get (text ∷ texts) k
    by zero later = ap (λ (ls : List (List ℕ)). option_map ended (slice_get ls 0)) split ∙ ap (λ (t : List ℕ). Some t) all.0.is
    by (suc k) later = ap (λ (ls : List (List ℕ)). option_map ended (slice_get ls (suc k))) split ∙ later k

-- a whole line of a log text is a line of its run
run_line : (plan : Plan) (run : Run) → IsTyped plan → RunFits plan run → (place : ℕ) → option_map ended (slice_get (whole_lines (log_text plan run)) place) ≡ slice_get (texts_of (lines_of plan run)) place
run_line plan run typed fits place =
    ap (λ (t : List ℕ). option_map ended (slice_get (whole_lines t) place)) (sym (text_of (lines_of plan run) ∙ lines_are_text plan run))
    ∙ lines_are (texts_of (lines_of plan run)) (are_lines plan run typed fits) place

-- ---- what was found

-- the copy of a line of the text
pub found_line : (plan : Plan) (bytes text : List ℕ) (place : ℕ) (line : Option (Bor (List ℕ))) (copy : Option (List ℕ)) → IsTyped plan → IsTextOf plan bytes text
    → GivesRest line (slice_get (whole_lines text) place) → GivesRest line copy → IsExpectedLine plan bytes place copy
found_line plan bytes text place line copy typed of gives copied = inl record {
  run = of.run;
  log = of.log;
  line = ap (option_map ended) (same line gives copied) ∙ ap (λ (t : List ℕ). option_map ended (slice_get (whole_lines t) place)) of.is ∙ run_line plan (expected_run plan of.run) typed of.fits place;
}
  where
    same : (l : Option (Bor (List ℕ))) → GivesRest l (slice_get (whole_lines text) place) → GivesRest l copy → copy ≡ slice_get (whole_lines text) place
    same None g k = k ∙ sym g
    same (Some one) g k = k ∙ sym g

-- The lines that a draft shows grow by the line that is read.
use Rattle.std.proofs.Common.{◌≡◌, ◌∙◌, ℕ, suc, ◌+◌, ◌==◌, nat_lt, List, [], ◌∷◌, ◌++◌, length, map, Option, None, Some, refl, sym, ap, subst, append_assoc, append-nil, arith}
use Rattle.std.specs.List.{flat_map}
use Rattle.std.proofs.lemmas.List.{map-append}
use Rattle.std.proofs.lemmas.List.Concat.{flat_map-append}
use Rattle.std.proofs.lemmas.Option.{same_Some}
use Rattle.std.proofs.lemmas.Bool.{eqb-true}
use Rattle.join_base.specs.declared.message.Source.{Source}
use Rattle.fair_semantics.specs.declared.run.Effect.{Effect}
use Rattle.fair_semantics.specs.declared.run.Ending.{Ending}
use Rattle.fair_semantics.specs.declared.run.Firing.{Firing}
use Rattle.fair_semantics.specs.declared.run.ActorRun.{ActorRun}
use Rattle.fair_semantics.specs.declared.run.Entry.{Entry}
use Rattle.fair_semantics.specs.Fits.{source_place}
use Rattle.log_lines.specs.declared.line.Arrival.{Arrival}
use Rattle.log_lines.specs.declared.line.Head.{Head}
use Rattle.log_lines.specs.declared.line.LogLine.{LogLine}
use Rattle.log_lines.specs.declared.line.LogLine.TheVariants as line
use Rattle.log_lines.specs.Forms.{entry_with, fired}
use Rattle.log_lines.proofs.OptionLemmas.{where_is}
use Rattle.log_reader.specs.declared.draft.Draft.{Draft}
use Rattle.log_reader.specs.declared.draft.Open.{Open}
use Rattle.log_reader.specs.declared.draft.Open.TheVariants.{Heading, Entries, Arrived, Fired, Lates}
use Rattle.log_reader.specs.Draft.{held, open_entry, step, with_effect}
use Rattle.log_reader.proofs.RunLines.{effect_log, entry_log, late_log, section_log, sections_log}

abbrev pub open_log : ℕ → List LogLine → Open → List LogLine
open_log actor inner Heading = []
open_log actor inner _ = line.Heading actor ∷ inner

abbrev pub inner_log : List Entry → List (Source × ℕ) → List LogLine
inner_log es lts = flat_map entry_log es ++ map late_log lts

-- the lines that were read
abbrev pub shown : Draft → List LogLine
shown draft = sections_log 0 draft.actors ++ open_log (length draft.actors) (inner_log (held draft) draft.late) draft.reached

-- what a section that is open does not have yet
abbrev pub Clean : Open → List Entry → List (Source × ℕ) → Type 0
Clean Heading es lts = (es ≡ []) × (lts ≡ [])
Clean Entries es lts = (es ≡ []) × (lts ≡ [])
Clean (Arrived arrival) es lts = lts ≡ []
Clean (Fired arrival firing) es lts = lts ≡ []
Clean (Lates last) es lts = Unit {0}

grow : (front inner more : List LogLine) (h l : LogLine) → more ≡ inner ++ l ∷ [] → front ++ h ∷ more ≡ (front ++ h ∷ inner) ++ l ∷ []
grow front inner more h l is = ap (λ (t : List LogLine). front ++ h ∷ t) is ∙ sym (append_assoc front (h ∷ inner) (l ∷ []))

flat_push : (es : List Entry) (e : Entry) → flat_map entry_log (es ++ e ∷ []) ≡ flat_map entry_log es ++ entry_log e
flat_push es e = flat_map-append entry_log es (e ∷ []) ∙ ap (λ (t : List LogLine). flat_map entry_log es ++ t) (append-nil (entry_log e))

no_lates : (es : List Entry) (lts : List (Source × ℕ)) → lts ≡ [] → inner_log es lts ≡ flat_map entry_log es
no_lates es lts none = ap (λ (l : List (Source × ℕ)). inner_log es l) none ∙ append-nil (flat_map entry_log es)

-- a new arrival
arrive_inner : (es : List Entry) (lts : List (Source × ℕ)) (arrival : Arrival) → lts ≡ [] → inner_log (es ++ entry_with arrival None ∷ []) lts ≡ inner_log es lts ++ line.Arrives arrival ∷ []
arrive_inner es lts arrival none =
    no_lates (es ++ entry_with arrival None ∷ []) lts none ∙ flat_push es (entry_with arrival None)
    ∙ ap (λ (t : List LogLine). t ++ line.Arrives arrival ∷ []) (sym (no_lates es lts none))

-- a line more of the entry that is open
entry_inner : (es : List Entry) (lts : List (Source × ℕ)) (e more : Entry) (l : LogLine) → lts ≡ [] → entry_log more ≡ entry_log e ++ l ∷ [] → inner_log (es ++ more ∷ []) lts ≡ inner_log (es ++ e ∷ []) lts ++ l ∷ []
entry_inner es lts e more l none is =
    no_lates (es ++ more ∷ []) lts none ∙ flat_push es more
    ∙ ap (λ (t : List LogLine). flat_map entry_log es ++ t) is
    ∙ sym (append_assoc (flat_map entry_log es) (entry_log e) (l ∷ []))
    ∙ ap (λ (t : List LogLine). t ++ l ∷ []) (sym (no_lates (es ++ e ∷ []) lts none ∙ flat_push es e))

act_log : (arrival : Arrival) (firing : Firing) (effect : Effect) → entry_log (entry_with arrival (Some (with_effect firing effect))) ≡ entry_log (entry_with arrival (Some firing)) ++ line.Does effect ∷ []
act_log arrival firing effect = ap (λ (t : List LogLine). line.Arrives arrival ∷ line.Fires firing.rule firing.taken ∷ t) (map-append effect_log firing.effects (effect ∷ []))

late_inner : (es : List Entry) (lts : List (Source × ℕ)) (source : Source) (count : ℕ) → inner_log (es ++ []) (lts ++ (source, count) ∷ []) ≡ inner_log es lts ++ line.IsLate source count ∷ []
late_inner es lts source count =
    ap (λ (l : List Entry). inner_log l (lts ++ (source, count) ∷ [])) (append-nil es)
    ∙ ap (λ (t : List LogLine). flat_map entry_log es ++ t) (map-append late_log lts ((source, count) ∷ []))
    ∙ sym (append_assoc (flat_map entry_log es) (map late_log lts) (line.IsLate source count ∷ []))

pub sections_push : (number : ℕ) (runs : List ActorRun) (run : ActorRun) → sections_log number (runs ++ run ∷ []) ≡ sections_log number runs ++ section_log (number + length runs) run
sections_push number [] run = let here : number ≡ number + 0 = omega arith in append-nil (section_log number run) ∙ ap (λ (n : ℕ). section_log n run) here
sections_push number (r ∷ rs) run =
    let next : suc number + length rs ≡ number + suc (length rs) = omega arith in
    ap (λ (t : List LogLine). section_log number r ++ t) (sections_push (suc number) rs run ∙ ap (λ (n : ℕ). sections_log (suc number) rs ++ section_log n run) next)
    ∙ sym (append_assoc (section_log number r) (sections_log (suc number) rs) (section_log (number + suc (length rs)) run))

module _ (head : Head) (actors : List ActorRun) (es : List Entry) (lts : List (Source × ℕ)) where
  abbrev pub draft_at : Open → Draft
  draft_at reached = record { head = head; actors = actors; entries = es; late = lts; reached = reached }

  abbrev pub front : List LogLine
  front = sections_log 0 actors

  -- the line was added
  abbrev pub Adds : Open → LogLine → Draft → Type 0
  Adds reached l draft = shown draft ≡ shown (draft_at reached) ++ l ∷ []

  -- from the draft that a step gives to the one that it gave
  gave : (reached : Open) (l : LogLine) (made draft : Draft) → Path (Option Draft) (Some made) (Some draft) → Adds reached l made → Adds reached l draft
  gave reached l made draft is adds = subst (Adds reached l) (same_Some made draft is) adds

  begins_shows : (number : ℕ) (draft : Draft) → Clean Heading es lts → step (draft_at Heading) (line.Heading number) ≡ Some draft → Adds Heading (line.Heading number) draft
  begins_shows number draft clean is =
      let by = where_is (number == length actors) (Some (draft_at Entries)) draft is in
      let here = eqb-true number (length actors) by.test in
      gave Heading (line.Heading number) (draft_at Entries) draft by.is
      (ap (λ (t : List LogLine). front ++ line.Heading (length actors) ∷ t) (ap (λ (l : List Entry). inner_log (l ++ []) lts) clean.0 ∙ ap (λ (l : List (Source × ℕ)). map late_log l) clean.1)
      ∙ ap (λ (n : ℕ). front ++ line.Heading n ∷ []) (sym here)
      ∙ ap (λ (t : List LogLine). t ++ line.Heading number ∷ []) (sym (append-nil front)))

  abbrev pub arrived_draft : Open → Arrival → Draft
  arrived_draft reached arrival = record { head = head; actors = actors; entries = es ++ open_entry reached; late = lts; reached = Arrived arrival }

  abbrev pub late_draft : Open → Source → ℕ → Draft
  late_draft reached source count = record { head = head; actors = actors; entries = es ++ open_entry reached; late = lts ++ (source, count) ∷ []; reached = Lates source }

  abbrev pub ended_run : Open → Ending → List ℕ → ℕ → ActorRun
  ended_run reached ending left partials = record { entries = es ++ open_entry reached; late = lts; ending = ending; left = left; partials = partials }

  ends_shows : (reached : Open) (ending : Ending) (left : List ℕ) (partials : ℕ)
      → sections_log 0 (actors ++ ended_run reached ending left partials ∷ []) ++ [] ≡ (front ++ line.Heading (length actors) ∷ inner_log (es ++ open_entry reached) lts) ++ line.Ends ending left partials ∷ []
  ends_shows reached ending left partials =
      let run = ended_run reached ending left partials in
      let here : 0 + length actors ≡ length actors = omega arith in
      append-nil (sections_log 0 (actors ++ run ∷ []))
      ∙ sections_push 0 actors run
      ∙ ap (λ (n : ℕ). front ++ section_log n run) here
      ∙ grow front (inner_log (es ++ open_entry reached) lts) (flat_map entry_log (es ++ open_entry reached) ++ (map late_log lts ++ line.Ends ending left partials ∷ [])) (line.Heading (length actors)) (line.Ends ending left partials)
      (sym (append_assoc (flat_map entry_log (es ++ open_entry reached)) (map late_log lts) (line.Ends ending left partials ∷ [])))

  pub step_shows : (reached : Open) (l : LogLine) (draft : Draft) → Clean reached es lts → step (draft_at reached) l ≡ Some draft → Adds reached l draft
  step_shows Heading (line.Heading number) draft clean is = begins_shows number draft clean is
  step_shows Heading (line.Arrives arrival) draft clean is = absurd cc
  step_shows Heading (line.Fires rule taken) draft clean is = absurd cc
  step_shows Heading (line.Does effect) draft clean is = absurd cc
  step_shows Heading (line.IsLate source count) draft clean is = absurd cc
  step_shows Heading (line.Ends ending left partials) draft clean is = absurd cc
  step_shows Entries (line.Heading number) draft clean is = absurd cc
  step_shows Entries (line.Arrives arrival) draft clean is =
      gave Entries (line.Arrives arrival) (arrived_draft Entries arrival) draft is (grow front _ _ (line.Heading (length actors)) (line.Arrives arrival) (arrive_inner (es ++ open_entry Entries) lts arrival clean.1))
  step_shows Entries (line.Fires rule taken) draft clean is = absurd cc
  step_shows Entries (line.Does effect) draft clean is = absurd cc
  step_shows Entries (line.IsLate source count) draft clean is =
      gave Entries (line.IsLate source count) (late_draft Entries source count) draft is (grow front _ _ (line.Heading (length actors)) (line.IsLate source count) (late_inner (es ++ open_entry Entries) lts source count))
  step_shows Entries (line.Ends ending left partials) draft clean is = gave Entries (line.Ends ending left partials) _ draft is (ends_shows Entries ending left partials)
  step_shows (Arrived x) (line.Heading number) draft clean is = absurd cc
  step_shows (Arrived x) (line.Arrives arrival) draft clean is =
      gave (Arrived x) (line.Arrives arrival) (arrived_draft (Arrived x) arrival) draft is (grow front _ _ (line.Heading (length actors)) (line.Arrives arrival) (arrive_inner (es ++ open_entry (Arrived x)) lts arrival clean))
  step_shows (Arrived x) (line.Fires rule taken) draft clean is =
      gave (Arrived x) (line.Fires rule taken) (draft_at (Fired x (fired rule taken))) draft is
      (grow front _ _ (line.Heading (length actors)) (line.Fires rule taken) (entry_inner es lts (entry_with x None) (entry_with x (Some (fired rule taken))) (line.Fires rule taken) clean refl))
  step_shows (Arrived x) (line.Does effect) draft clean is = absurd cc
  step_shows (Arrived x) (line.IsLate source count) draft clean is =
      gave (Arrived x) (line.IsLate source count) (late_draft (Arrived x) source count) draft is (grow front _ _ (line.Heading (length actors)) (line.IsLate source count) (late_inner (es ++ open_entry (Arrived x)) lts source count))
  step_shows (Arrived x) (line.Ends ending left partials) draft clean is = gave (Arrived x) (line.Ends ending left partials) _ draft is (ends_shows (Arrived x) ending left partials)
  step_shows (Fired x f) (line.Heading number) draft clean is = absurd cc
  step_shows (Fired x f) (line.Arrives arrival) draft clean is =
      gave (Fired x f) (line.Arrives arrival) (arrived_draft (Fired x f) arrival) draft is (grow front _ _ (line.Heading (length actors)) (line.Arrives arrival) (arrive_inner (es ++ open_entry (Fired x f)) lts arrival clean))
  step_shows (Fired x f) (line.Fires rule taken) draft clean is = absurd cc
  step_shows (Fired x f) (line.Does effect) draft clean is =
      gave (Fired x f) (line.Does effect) (draft_at (Fired x (with_effect f effect))) draft is
      (grow front _ _ (line.Heading (length actors)) (line.Does effect) (entry_inner es lts (entry_with x (Some f)) (entry_with x (Some (with_effect f effect))) (line.Does effect) clean (act_log x f effect)))
  step_shows (Fired x f) (line.IsLate source count) draft clean is =
      gave (Fired x f) (line.IsLate source count) (late_draft (Fired x f) source count) draft is (grow front _ _ (line.Heading (length actors)) (line.IsLate source count) (late_inner (es ++ open_entry (Fired x f)) lts source count))
  step_shows (Fired x f) (line.Ends ending left partials) draft clean is = gave (Fired x f) (line.Ends ending left partials) _ draft is (ends_shows (Fired x f) ending left partials)
  step_shows (Lates last) (line.Heading number) draft clean is = absurd cc
  step_shows (Lates last) (line.Arrives arrival) draft clean is = absurd cc
  step_shows (Lates last) (line.Fires rule taken) draft clean is = absurd cc
  step_shows (Lates last) (line.Does effect) draft clean is = absurd cc
  step_shows (Lates last) (line.IsLate source count) draft clean is =
      let by = where_is (nat_lt (source_place head.feeds last) (source_place head.feeds source)) (Some (late_draft (Lates last) source count)) draft is in
      gave (Lates last) (line.IsLate source count) (late_draft (Lates last) source count) draft by.is (grow front _ _ (line.Heading (length actors)) (line.IsLate source count) (late_inner (es ++ open_entry (Lates last)) lts source count))
  step_shows (Lates last) (line.Ends ending left partials) draft clean is = gave (Lates last) (line.Ends ending left partials) _ draft is (ends_shows (Lates last) ending left partials)

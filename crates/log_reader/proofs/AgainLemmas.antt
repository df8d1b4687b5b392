-- The lines of a run are read back to that run.
use Rattle.std.proofs.Common.{◌≡◌, ◌∙◌, ℕ, suc, ◌+◌, ◌<◌, ◌≤◌, Bool, true, List, [], ◌∷◌, ◌++◌, length, map, get_or, Option, None, Some, refl, sym, ap, subst, append_assoc, append-nil, length-append, arith, rules}
use Rattle.std.specs.List.{AllByRecursion, flat_map}
use Rattle.std.specs.List.Sorted.{IsStrictlyIncreasing}
use Rattle.std.specs.Prelude.{IfSome, if◌then◌else◌}
use Rattle.std.proofs.lemmas.Bool.{lt-ltb}
use Rattle.std.proofs.lemmas.Option.{same_Some}
use Rattle.join_base.specs.declared.message.Source.{Source}
use Rattle.script_types.specs.declared.plan.Plan.{Plan}
use Rattle.fair_semantics.specs.declared.run.Effect.{Effect}
use Rattle.fair_semantics.specs.declared.run.Firing.{Firing}
use Rattle.fair_semantics.specs.declared.run.ActorRun.{ActorRun}
use Rattle.fair_semantics.specs.declared.run.Entry.{Entry}
use Rattle.fair_semantics.specs.declared.run.Run.{Run}
use Rattle.fair_semantics.specs.Fits.{ActorRunFits, EffectFits, EntryFits, FiringFits, LateFits, RunFits, source_place}
use Rattle.fair_semantics.proofs.ListLemmas.{each_append}
use Rattle.log_lines.specs.declared.line.Arrival.{Arrival}
use Rattle.log_lines.specs.declared.line.Head.{Head}
use Rattle.log_lines.specs.declared.line.LogLine.{LogLine}
use Rattle.log_lines.specs.declared.line.LogLine.TheVariants as line
use Rattle.log_lines.specs.Gives.{◌>>=◌, where_true}
use Rattle.log_lines.specs.Forms.{LineFits, fired}
use Rattle.log_lines.proofs.NumberLemmas.{eq_true}
use Rattle.log_reader.specs.declared.draft.Draft.{Draft}
use Rattle.log_reader.specs.declared.draft.Open.{Open}
use Rattle.log_reader.specs.declared.draft.Open.TheVariants.{Heading, Entries, Arrived, Fired, Lates}
use Rattle.log_reader.specs.Draft.{follows, is_open, open_entry, step, takes_entries}
use Rattle.log_reader.proofs.RunLines.{arrival_of, effect_log, end_log, entry_log, firing_log, head_of_run, late_log, section_log, sections_log}
use Rattle.log_reader.proofs.ShownLemmas.{draft_at}
use Rattle.log_reader.proofs.SoundLemmas.{places}

-- one line after the other
abbrev pub steps : Draft → List LogLine → Option Draft
steps draft [] = Some draft
steps draft (l ∷ ls) = step draft l >>= λ next. steps next ls

pub steps_append : (xs ys : List LogLine) (a b c : Draft) → steps a xs ≡ Some b → steps b ys ≡ Some c → steps a (xs ++ ys) ≡ Some c
steps_append xs ys a b c first second = by xs a first
  where
    behind_step : (ls : List LogLine) (found : Option Draft) → ((d : Draft) → steps d ls ≡ Some b → steps d (ls ++ ys) ≡ Some c) → (found >>= λ next. steps next ls) ≡ Some b → (found >>= λ next. steps next (ls ++ ys)) ≡ Some c
    behind_step ls None further is = absurd cc
    behind_step ls (Some d) further is = further d is

    by : (xs : List LogLine) (a : Draft) → steps a xs ≡ Some b → steps a (xs ++ ys) ≡ Some c
    by [] a is = let P : Draft → Type 0 = λ d. steps d ys ≡ Some c in subst P (sym (same_Some a b is)) second
    by (l ∷ ls) a is = behind_step ls (step a l) (by ls) is

module _ (head : Head) (actors : List ActorRun) where
  -- ---- entries

  abbrev pub with_effects : Firing → List Effect → Firing
  with_effects firing effects = record { rule = firing.rule; taken = firing.taken; effects = firing.effects ++ effects }

  effects_steps : (es : List Entry) (x : Arrival) (f : Firing) (effects : List Effect) → steps (draft_at head actors es [] (Fired x f)) (map effect_log effects) ≡ Some (draft_at head actors es [] (Fired x (with_effects f effects)))
  effects_steps es x f [] = ap (λ (l : List Effect). Some (draft_at head actors es [] (Fired x (record { rule = f.rule; taken = f.taken; effects = l })))) (sym (append-nil f.effects))
  effects_steps es x f (e ∷ effects) =
      effects_steps es x (with_effects f (e ∷ [])) effects
      ∙ ap (λ (l : List Effect). Some (draft_at head actors es [] (Fired x (record { rule = f.rule; taken = f.taken; effects = l })))) (append_assoc f.effects (e ∷ []) effects)

  abbrev pub open_by : Arrival → Option Firing → Open
  open_by x None = Arrived x
  open_by x (Some f) = Fired x f

  firing_steps : (es : List Entry) (x : Arrival) (firing : Option Firing) → steps (draft_at head actors es [] (Arrived x)) (firing_log firing) ≡ Some (draft_at head actors es [] (open_by x firing))
  firing_steps es x None = refl
  firing_steps es x (Some f) = effects_steps es x (fired f.rule f.taken) f.effects

  arrival_step : (es : List Entry) (reached : Open) (x : Arrival) → takes_entries reached ≡ true → step (draft_at head actors es [] reached) (line.Arrives x) ≡ Some (draft_at head actors (es ++ open_entry reached) [] (Arrived x))
  arrival_step es reached x takes = ap (λ (b : Bool). where_true b (Some (draft_at head actors (es ++ open_entry reached) [] (Arrived x)))) takes

  entry_steps : (es : List Entry) (reached : Open) (e : Entry) → takes_entries reached ≡ true
      → steps (draft_at head actors es [] reached) (entry_log e) ≡ Some (draft_at head actors (es ++ open_entry reached) [] (open_by (arrival_of e) e.firing))
  entry_steps es reached e takes =
      ap (λ (o : Option Draft). o >>= λ next. steps next (firing_log e.firing)) (arrival_step es reached (arrival_of e) takes)
      ∙ firing_steps (es ++ open_entry reached) (arrival_of e) e.firing

  open_takes : (x : Arrival) (firing : Option Firing) → takes_entries (open_by x firing) ≡ true
  open_takes x None = refl
  open_takes x (Some f) = refl

  open_is : (e : Entry) (firing : Option Firing) → open_entry (open_by (arrival_of e) firing) ≡ record { number = e.number; source = e.source; message = e.message; stamp = e.stamp; firing = firing } ∷ []
  open_is e None = refl
  open_is e (Some f) = refl

  -- the entries are held behind those that were
  pub record Rests (from : Draft) (lines : List LogLine) (all : List Entry) : Type 0 where
    pub es : List Entry
    pub reached : Open
    pub takes : takes_entries reached ≡ true
    pub led : steps from lines ≡ Some (draft_at head actors es [] reached)
    pub holds : es ++ open_entry reached ≡ all

  entries_steps : (entries es : List Entry) (reached : Open) → takes_entries reached ≡ true → Rests (draft_at head actors es [] reached) (flat_map entry_log entries) ((es ++ open_entry reached) ++ entries)
  entries_steps [] es reached takes = record { es = es; reached = reached; takes = takes; led = refl; holds = sym (append-nil (es ++ open_entry reached)) }
  entries_steps (e ∷ entries) es reached takes =
      let so_far : List Entry = es ++ open_entry reached in
      let next = open_by (arrival_of e) e.firing in
      let further = entries_steps entries so_far next (open_takes (arrival_of e) e.firing) in
      record {
        es = further.es;
        reached = further.reached;
        takes = further.takes;
        led = steps_append (entry_log e) (flat_map entry_log entries) (draft_at head actors es [] reached) (draft_at head actors so_far [] next) (draft_at head actors further.es [] further.reached) (entry_steps es reached e takes) further.led;
        holds = further.holds ∙ ap (λ (l : List Entry). (so_far ++ l) ++ entries) (open_is e e.firing) ∙ append_assoc so_far (e ∷ []) entries;
      }

  -- ---- late lines

  abbrev pub place : Source × ℕ → ℕ
  place late = source_place head.feeds (late.0)

  -- each stands behind the one before
  abbrev pub Rise : ℕ → List (Source × ℕ) → Type 0
  Rise last [] = Unit {0}
  Rise last (l ∷ ls) = (last < place l) × Rise (place l) ls

  pub record Lags (from : Draft) (lines : List LogLine) (es : List Entry) (lts : List (Source × ℕ)) : Type 0 where
    pub kept : List Entry
    pub reached : Open
    pub opened : is_open reached ≡ true
    pub led : steps from lines ≡ Some (draft_at head actors kept lts reached)
    pub holds : kept ++ open_entry reached ≡ es

  late_step : (es : List Entry) (lts : List (Source × ℕ)) (reached : Open) (late : Source × ℕ) → is_open reached ≡ true → follows head.feeds reached (late.0) ≡ true
      → step (draft_at head actors es lts reached) (late_log late) ≡ Some (draft_at head actors (es ++ open_entry reached) (lts ++ late ∷ []) (Lates (late.0)))
  late_step es lts reached late opened follow =
      let made : Draft = draft_at head actors (es ++ open_entry reached) (lts ++ late ∷ []) (Lates (late.0)) in
      ap (λ (b : Bool). if b then where_true (follows head.feeds reached (late.0)) (Some made) else None) opened
      ∙ ap (λ (b : Bool). where_true b (Some made)) follow

  lates_from : (ls : List (Source × ℕ)) (es : List Entry) (lts : List (Source × ℕ)) (last : Source) → Rise (source_place head.feeds last) ls → Lags (draft_at head actors es lts (Lates last)) (map late_log ls) es (lts ++ ls)
  lates_from [] es lts last rise = record { kept = es; reached = Lates last; opened = refl; led = ap (λ (l : List (Source × ℕ)). Some (draft_at head actors es l (Lates last))) (sym (append-nil lts)); holds = append-nil es }
  lates_from (l ∷ ls) es lts last rise =
      let further = lates_from ls (es ++ []) (lts ++ l ∷ []) (l.0) rise.1 in
      let one = late_step es lts (Lates last) l refl (lt-ltb (source_place head.feeds last) (place l) rise.0) in
      record {
        kept = further.kept;
        reached = further.reached;
        opened = further.opened;
        led = ap (λ (o : Option Draft). o >>= λ next. steps next (map late_log ls)) one ∙ further.led ∙ ap (λ (t : List (Source × ℕ)). Some (draft_at head actors further.kept t further.reached)) (append_assoc lts (l ∷ []) ls);
        holds = further.holds ∙ append-nil es;
      }

  takes_open : (reached : Open) → takes_entries reached ≡ true → is_open reached ≡ true
  takes_open Heading t = absurd cc
  takes_open Entries t = refl
  takes_open (Arrived x) t = refl
  takes_open (Fired x f) t = refl
  takes_open (Lates last) t = absurd cc

  takes_follow : (reached : Open) (source : Source) → takes_entries reached ≡ true → follows head.feeds reached source ≡ true
  takes_follow Heading source t = absurd cc
  takes_follow Entries source t = refl
  takes_follow (Arrived x) source t = refl
  takes_follow (Fired x f) source t = refl
  takes_follow (Lates last) source t = absurd cc

  Rises : List (Source × ℕ) → Type 0
  Rises [] = Unit {0}
  Rises (l ∷ ls) = Rise (place l) ls

  lates_steps : (ls : List (Source × ℕ)) (es : List Entry) (reached : Open) → takes_entries reached ≡ true → Rises ls → Lags (draft_at head actors es [] reached) (map late_log ls) (es ++ open_entry reached) ls
  unfolding Rises
  lates_steps [] es reached takes rise = record { kept = es; reached = reached; opened = takes_open reached takes; led = refl; holds = refl }
  lates_steps (l ∷ ls) es reached takes rise =
      let further = lates_from ls (es ++ open_entry reached) (l ∷ []) (l.0) rise in
      let one = late_step es [] reached l (takes_open reached takes) (takes_follow reached (l.0) takes) in
      record {
        kept = further.kept;
        reached = further.reached;
        opened = further.opened;
        led = ap (λ (o : Option Draft). o >>= λ next. steps next (map late_log ls)) one ∙ further.led;
        holds = further.holds;
      }

  rise_from : (l : Source × ℕ) (ls : List (Source × ℕ)) → IsStrictlyIncreasing (places head.feeds (l ∷ ls)) → Rise (place l) ls
  rise_from l [] order = tt
  rise_from l (m ∷ ls) order = (
    order 0 (omega arith),
    rise_from m ls (λ k within. (let next : suc k + 1 ≡ suc (k + 1) = omega arith in
        let less = order (suc k) (omega arith) in
        subst (λ (n : ℕ). get_or (places head.feeds (l ∷ m ∷ ls)) (suc k) 0 < get_or (places head.feeds (l ∷ m ∷ ls)) n 0) next less)),
  )

  rises_from : (ls : List (Source × ℕ)) → IsStrictlyIncreasing (places head.feeds ls) → Rises ls
  unfolding Rises
  rises_from [] order = tt
  rises_from (l ∷ ls) order = rise_from l ls order

  -- ---- a section

  begin_step : step (draft_at head actors [] [] Heading) (line.Heading (length actors)) ≡ Some (draft_at head actors [] [] Entries)
  begin_step = ap (λ (b : Bool). where_true b (Some (draft_at head actors [] [] Entries))) (eq_true (length actors) (length actors) refl)

  abbrev pub done_with : ActorRun → Draft
  done_with run = draft_at head (actors ++ run ∷ []) [] [] Heading

  end_step : (run : ActorRun) (es : List Entry) (reached : Open) → is_open reached ≡ true → es ++ open_entry reached ≡ run.entries → step (draft_at head actors es run.late reached) (end_log run) ≡ Some (done_with run)
  end_step run es reached opened holds =
      ap (λ (b : Bool). where_true b (Some (done_with (record { entries = es ++ open_entry reached; late = run.late; ending = run.ending; left = run.left; partials = run.partials })))) opened
      ∙ ap (λ (l : List Entry). Some (done_with (record { entries = l; late = run.late; ending = run.ending; left = run.left; partials = run.partials }))) holds

  pub section_steps : (run : ActorRun) → IsStrictlyIncreasing (places head.feeds run.late) → steps (draft_at head actors [] [] Heading) (section_log (length actors) run) ≡ Some (done_with run)
  section_steps run order =
      let entries = entries_steps run.entries [] Entries refl in
      let lates = lates_steps run.late entries.es entries.reached entries.takes (rises_from run.late order) in
      let all = lates.holds ∙ entries.holds in
      ap (λ (o : Option Draft). o >>= λ next. steps next (flat_map entry_log run.entries ++ (map late_log run.late ++ end_log run ∷ []))) begin_step
      ∙ steps_append (flat_map entry_log run.entries) (map late_log run.late ++ end_log run ∷ []) (draft_at head actors [] [] Entries) (draft_at head actors entries.es [] entries.reached) (done_with run) entries.led
      (steps_append (map late_log run.late) (end_log run ∷ []) (draft_at head actors entries.es [] entries.reached) (draft_at head actors lates.kept run.late lates.reached) (done_with run) lates.led
      (ap (λ (o : Option Draft). o >>= λ next. Some next) (end_step run lates.kept lates.reached lates.opened all)))

-- the lines of all sections
pub sections_steps : (head : Head) (runs actors : List ActorRun) → AllByRecursion (λ (run : ActorRun). IsStrictlyIncreasing (places head.feeds run.late)) runs
    → steps (draft_at head actors [] [] Heading) (sections_log (length actors) runs) ≡ Some (draft_at head (actors ++ runs) [] [] Heading)
sections_steps head [] actors order = ap (λ (l : List ActorRun). Some (draft_at head l [] [] Heading)) (sym (append-nil actors))
sections_steps head (run ∷ runs) actors order =
    let size : length (actors ++ run ∷ []) ≡ suc (length actors) = omega (arith, length-append actors (run ∷ [])) in
    let further = sections_steps head runs (actors ++ run ∷ []) order.1 in
    steps_append (section_log (length actors) run) (sections_log (suc (length actors)) runs) (draft_at head actors [] [] Heading) (draft_at head (actors ++ run ∷ []) [] [] Heading) (draft_at head (actors ++ run ∷ runs) [] [] Heading)
    (section_steps head actors run order.0)
    (ap (λ (n : ℕ). steps (draft_at head (actors ++ run ∷ []) [] [] Heading) (sections_log n runs)) (sym size) ∙ further ∙ ap (λ (l : List ActorRun). Some (draft_at head l [] [] Heading)) (append_assoc actors (run ∷ []) runs))

runs_in_order : (plan : Plan) (version feeds : ℕ) (runs : List ActorRun) → AllByRecursion (ActorRunFits plan version feeds) runs → AllByRecursion (λ (run : ActorRun). IsStrictlyIncreasing (places feeds run.late)) runs
runs_in_order plan version feeds [] fits = tt
runs_in_order plan version feeds (run ∷ runs) fits = (fits.0.in_order, runs_in_order plan version feeds runs fits.1)

pub run_again : (plan : Plan) (run : Run) → RunFits plan run → steps (draft_at (head_of_run run) [] [] [] Heading) (sections_log 0 run.actors) ≡ Some (draft_at (head_of_run run) run.actors [] [] Heading)
run_again plan run fits = sections_steps (head_of_run run) run.actors [] (runs_in_order plan run.version run.feeds run.actors fits.each)

-- ---- the lines of a run fit

module _ (plan : Plan) (head : Head) where
  abbrev pub Fit : List LogLine → Type 0
  Fit lines = AllByRecursion (LineFits plan head) lines

  effects_fit : (effects : List Effect) → AllByRecursion (EffectFits plan head.version) effects → Fit (map effect_log effects)
  effects_fit [] fits = tt
  effects_fit (e ∷ es) fits = (fits.0, effects_fit es fits.1)

  firing_fit : (firing : Option Firing) → IfSome firing (FiringFits plan head.version) → Fit (firing_log firing)
  firing_fit None fits = tt
  firing_fit (Some f) fits = (record { rule = fits.rule; some = fits.some; few = fits.few; numbers = fits.numbers; effects = tt }, effects_fit f.effects fits.effects)

  entries_fit : (es : List Entry) → AllByRecursion (EntryFits plan head.version head.feeds) es → Fit (flat_map entry_log es)
  entries_fit [] fits = tt
  entries_fit (e ∷ es) fits =
      each_append (LineFits plan head) (entry_log e) (flat_map entry_log es)
      (record { number = fits.0.number; source = fits.0.source; message = fits.0.message; stamp = fits.0.stamp; firing = tt }, firing_fit e.firing fits.0.firing)
      (entries_fit es fits.1)

  lates_fit : (ls : List (Source × ℕ)) → AllByRecursion (LateFits plan head.feeds) ls → Fit (map late_log ls)
  lates_fit [] fits = tt
  lates_fit (l ∷ ls) fits = (fits.0, lates_fit ls fits.1)

  pub sections_fit : (number : ℕ) (runs : List ActorRun) → number + length runs ≤ length plan.actors → AllByRecursion (ActorRunFits plan head.version head.feeds) runs → Fit (sections_log number runs)
  sections_fit number [] within fits = tt
  sections_fit number (run ∷ runs) within fits =
      each_append (LineFits plan head) (section_log number run) (sections_log (suc number) runs) (
        omega arith,
        each_append (LineFits plan head) (flat_map entry_log run.entries) (map late_log run.late ++ end_log run ∷ []) (entries_fit run.entries fits.0.entries)
            (each_append (LineFits plan head) (map late_log run.late) (end_log run ∷ []) (lates_fit run.late fits.0.late)
            (record { entries = tt; late = tt; in_order = search rules; left = fits.0.left; partials = fits.0.partials }, tt)),
      )
      (sections_fit (suc number) runs (omega arith) fits.1)

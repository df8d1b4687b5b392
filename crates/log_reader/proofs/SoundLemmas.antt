-- What is read fits the plan, line by line.
use Rattle.std.proofs.Common.{◌≡◌, ◌∙◌, ℕ, ◌+◌, ◌-◌, ◌<◌, ◌≤◌, ◌==◌, nat_lt, true, List, [], ◌∷◌, ◌++◌, length, map, get_or, Option, None, Some, refl, sym, ap, subst, length-append, ⊎_elim, arith}
use Rattle.std.specs.List.{AllByRecursion}
use Rattle.std.specs.List.Sorted.{IsStrictlyIncreasing}
use Rattle.std.proofs.lemmas.Bool.{cases_lt, ltb-true, eqb-true}
use Rattle.std.proofs.lemmas.List.{get_or_append_left, map-append}
use Rattle.std.proofs.Math.Seq.{get_or-append_seam}
use Rattle.std.proofs.lemmas.Option.{same_Some}
use Rattle.join_base.specs.declared.message.Source.{Source}
use Rattle.script_types.specs.declared.plan.Plan.{Plan}
use Rattle.fair_semantics.specs.declared.run.Effect.{Effect}
use Rattle.fair_semantics.specs.declared.run.Ending.{Ending}
use Rattle.fair_semantics.specs.declared.run.Firing.{Firing}
use Rattle.fair_semantics.specs.declared.run.ActorRun.{ActorRun}
use Rattle.fair_semantics.specs.declared.run.Entry.{Entry}
use Rattle.fair_semantics.specs.Fits.{ActorRunFits, EffectFits, EntryFits, FiringFits, LateFits, source_place}
use Rattle.fair_semantics.proofs.ListLemmas.{each_append}
use Rattle.log_lines.specs.declared.line.Arrival.{Arrival}
use Rattle.log_lines.specs.declared.line.Head.{Head}
use Rattle.log_lines.specs.declared.line.LogLine.{LogLine}
use Rattle.log_lines.specs.declared.line.LogLine.TheVariants as line
use Rattle.log_lines.specs.Forms.{HeadFits, LineFits, ended, entry_with, fired}
use Rattle.log_lines.proofs.OptionLemmas.{where_is}
use Rattle.log_reader.specs.declared.draft.Draft.{Draft}
use Rattle.log_reader.specs.declared.draft.Open.{Open}
use Rattle.log_reader.specs.declared.draft.Open.TheVariants.{Heading, Entries, Arrived, Fired, Lates}
use Rattle.log_reader.specs.Draft.{follows, held, is_open, open_entry, step, with_effect}
use Rattle.log_reader.proofs.ShownLemmas.{Clean, arrived_draft, draft_at, ended_run, late_draft}
use Rattle.join_base.proofs.EachLemmas.{each_left, each_right}

-- ---- late lines in order

abbrev pub places : ℕ → List (Source × ℕ) → List ℕ
places feeds lts = map (λ (l : Source × ℕ). source_place feeds (l.0)) lts

-- the last of the numbers, behind which a greater one keeps them in order
pub record EndsAt (ns : List ℕ) (last : ℕ) : Type 0 where
  pub order : IsStrictlyIncreasing ns
  pub some : 1 ≤ length ns
  pub at : get_or ns (length ns - 1) 0 ≡ last

one_at : (n : ℕ) → EndsAt (n ∷ []) n
one_at n = record { order = λ k within. absurd (omega arith); some = omega arith; at = refl }

push_at : (ns : List ℕ) (last n : ℕ) → EndsAt ns last → last < n → EndsAt (ns ++ n ∷ []) n
push_at ns last n e above =
    let size = length-append ns (n ∷ []) in
    let some = e.some in
    let before : length (ns ++ n ∷ []) - 1 ≡ length ns = omega arith in
    let is_last : get_or (ns ++ n ∷ []) (length ns) 0 ≡ n = get_or-append_seam ns n [] 0 in
    record {
      order = λ k within.
          ⊎_elim
          (λ (inside : k + 1 < length ns).
          let one = get_or_append_left ns (n ∷ []) 0 k (omega arith) in
          let other = get_or_append_left ns (n ∷ []) 0 (k + 1) inside in
          let less = e.order k inside in
          omega (arith, one, other, less))
          (λ (past : length ns ≤ k + 1).
          let here : k ≡ length ns - 1 = omega arith in
          let next : k + 1 ≡ length ns = omega arith in
          let one : get_or (ns ++ n ∷ []) k 0 ≡ last = get_or_append_left ns (n ∷ []) 0 k (omega arith) ∙ ap (λ (i : ℕ). get_or ns i 0) here ∙ e.at in
          let other : get_or (ns ++ n ∷ []) (k + 1) 0 ≡ n = ap (λ (i : ℕ). get_or (ns ++ n ∷ []) i 0) next ∙ is_last in
          omega (arith, one, other, above))
          (cases_lt (k + 1) (length ns));
      some = omega arith;
      at = ap (λ (i : ℕ). get_or (ns ++ n ∷ []) i 0) before ∙ is_last;
    }

-- the late lines so far are in order, up to the last one
abbrev pub Ordered : ℕ → Open → List (Source × ℕ) → Type 0
Ordered feeds (Lates last) lts = EndsAt (places feeds lts) (source_place feeds last)
Ordered feeds _ lts = Unit {0}

places_push : (feeds : ℕ) (lts : List (Source × ℕ)) (source : Source) (count : ℕ) → places feeds (lts ++ (source, count) ∷ []) ≡ places feeds lts ++ source_place feeds source ∷ []
places_push feeds lts source count = map-append (λ (l : Source × ℕ). source_place feeds (l.0)) lts ((source, count) ∷ [])

first_late : (feeds : ℕ) (lts : List (Source × ℕ)) (source : Source) (count : ℕ) → lts ≡ [] → EndsAt (places feeds (lts ++ (source, count) ∷ [])) (source_place feeds source)
first_late feeds lts source count none =
    let P : List (Source × ℕ) → Type 0 = λ l. EndsAt (places feeds (l ++ (source, count) ∷ [])) (source_place feeds source) in
    subst P (sym none) (one_at (source_place feeds source))

late_order : (feeds : ℕ) (reached : Open) (es : List Entry) (lts : List (Source × ℕ)) (source : Source) (count : ℕ) → Clean reached es lts → Ordered feeds reached lts → is_open reached ≡ true → follows feeds reached source ≡ true
    → EndsAt (places feeds (lts ++ (source, count) ∷ [])) (source_place feeds source)
late_order feeds Heading es lts source count clean order opened follow = absurd cc
late_order feeds Entries es lts source count clean order opened follow = first_late feeds lts source count clean.1
late_order feeds (Arrived x) es lts source count clean order opened follow = first_late feeds lts source count clean
late_order feeds (Fired x f) es lts source count clean order opened follow = first_late feeds lts source count clean
late_order feeds (Lates last) es lts source count clean order opened follow =
    let above = ltb-true (source_place feeds last) (source_place feeds source) follow in
    subst (λ (ns : List ℕ). EndsAt ns (source_place feeds source)) (sym (places_push feeds lts source count)) (push_at (places feeds lts) (source_place feeds last) (source_place feeds source) order above)

-- the order of the late lines at the end of a section
end_order : (feeds : ℕ) (reached : Open) (es : List Entry) (lts : List (Source × ℕ)) → Clean reached es lts → Ordered feeds reached lts → is_open reached ≡ true → IsStrictlyIncreasing (places feeds lts)
end_order feeds Heading es lts clean order opened = absurd cc
end_order feeds Entries es lts clean order opened = in_no_order lts clean.1
  where
    in_no_order : (l : List (Source × ℕ)) → l ≡ [] → IsStrictlyIncreasing (places feeds l)
    in_no_order l none = subst (λ (l : List (Source × ℕ)). IsStrictlyIncreasing (places feeds l)) (sym none) (λ k within. absurd (omega arith))
end_order feeds (Arrived x) es lts clean order opened = subst (λ (l : List (Source × ℕ)). IsStrictlyIncreasing (places feeds l)) (sym clean) (λ k within. absurd (omega arith))
end_order feeds (Fired x f) es lts clean order opened = subst (λ (l : List (Source × ℕ)). IsStrictlyIncreasing (places feeds l)) (sym clean) (λ k within. absurd (omega arith))
end_order feeds (Lates last) es lts clean order opened = order.order

-- ---- what is read fits

pub record Sound (plan : Plan) (draft : Draft) : Type 0 where
  pub head : HeadFits plan draft.head
  pub actors : AllByRecursion (ActorRunFits plan draft.head.version draft.head.feeds) draft.actors
  pub few : length draft.actors ≤ length plan.actors
  pub begun : is_open draft.reached ≡ true → length draft.actors < length plan.actors
  pub clean : Clean draft.reached draft.entries draft.late
  pub entries : AllByRecursion (EntryFits plan draft.head.version draft.head.feeds) (held draft)
  pub late : AllByRecursion (LateFits plan draft.head.feeds) draft.late
  pub order : Ordered draft.head.feeds draft.reached draft.late

module _ (plan : Plan) (head : Head) (actors : List ActorRun) (es : List Entry) (lts : List (Source × ℕ)) where
  abbrev pub at : Open → Draft
  at reached = draft_at head actors es lts reached

  abbrev pub Fitting : List Entry → Type 0
  Fitting l = AllByRecursion (EntryFits plan head.version head.feeds) l

  gave : (made draft : Draft) → Path (Option Draft) (Some made) (Some draft) → Sound plan made → Sound plan draft
  gave made draft is sound = subst (Sound plan) (same_Some made draft is) sound

  begins_sound : (number : ℕ) (draft : Draft) → Sound plan (at Heading) → number < length plan.actors → step (at Heading) (line.Heading number) ≡ Some draft → Sound plan draft
  begins_sound number draft sound fits is =
      let by = where_is (number == length actors) (Some (at Entries)) draft is in
      let here = eqb-true number (length actors) by.test in
      gave (at Entries) draft by.is (record {
        head = sound.head;
        actors = sound.actors;
        few = sound.few;
        begun = λ opened. omega arith;
        clean = sound.clean;
        entries = sound.entries;
        late = sound.late;
        order = tt;
      })

  arrives_sound : (reached : Open) (arrival : Arrival) → Sound plan (at reached) → is_open reached ≡ true → lts ≡ [] → EntryFits plan head.version head.feeds (entry_with arrival None) → Sound plan (arrived_draft head actors es lts reached arrival)
  arrives_sound reached arrival sound opened none fits = record {
    head = sound.head;
    actors = sound.actors;
    few = sound.few;
    begun = λ o. sound.begun opened;
    clean = none;
    entries = each_append (EntryFits plan head.version head.feeds) (es ++ open_entry reached) (entry_with arrival None ∷ []) sound.entries (fits, tt);
    late = sound.late;
    order = tt;
  }

  late_sound : (reached : Open) (source : Source) (count : ℕ) → Sound plan (at reached) → is_open reached ≡ true → follows head.feeds reached source ≡ true → LateFits plan head.feeds (source, count) → Sound plan (late_draft head actors es lts reached source count)
  late_sound reached source count sound opened follow fits = record {
    head = sound.head;
    actors = sound.actors;
    few = sound.few;
    begun = λ o. sound.begun opened;
    clean = tt;
    entries = each_append (EntryFits plan head.version head.feeds) (es ++ open_entry reached) [] sound.entries tt;
    late = each_append (LateFits plan head.feeds) lts ((source, count) ∷ []) sound.late (fits, tt);
    order = late_order head.feeds reached es lts source count sound.clean sound.order opened follow;
  }

  ends_sound : (reached : Open) (ending : Ending) (left : List ℕ) (partials : ℕ) → Sound plan (at reached) → is_open reached ≡ true → ActorRunFits plan head.version head.feeds (ended ending left partials)
      → Sound plan (record { head = head; actors = actors ++ ended_run head actors es lts reached ending left partials ∷ []; entries = []; late = []; reached = Heading })
  ends_sound reached ending left partials sound opened fits =
      let run = ended_run head actors es lts reached ending left partials in
      let more = length-append actors (run ∷ []) in
      let below = sound.begun opened in
      record {
        head = sound.head;
        actors = each_append (ActorRunFits plan head.version head.feeds) actors (run ∷ []) sound.actors (
          record {
            entries = sound.entries;
            late = sound.late;
            in_order = end_order head.feeds reached es lts sound.clean sound.order opened;
            left = fits.left;
            partials = fits.partials;
          },
          tt,
        );
        few = omega arith;
        begun = λ o. absurd cc;
        clean = (refl, refl);
        entries = tt;
        late = tt;
        order = tt;
      }

  fire_sound : (x : Arrival) (rule : ℕ) (taken : List ℕ) → Sound plan (at (Arrived x)) → FiringFits plan head.version (fired rule taken) → Sound plan (at (Fired x (fired rule taken)))
  fire_sound x rule taken sound fits =
      let last = each_right (EntryFits plan head.version head.feeds) es (entry_with x None ∷ []) sound.entries in
      record {
        head = sound.head;
        actors = sound.actors;
        few = sound.few;
        begun = sound.begun;
        clean = sound.clean;
        entries = each_append (EntryFits plan head.version head.feeds) es (entry_with x (Some (fired rule taken)) ∷ []) (each_left (EntryFits plan head.version head.feeds) es (entry_with x None ∷ []) sound.entries)
            (record { number = last.0.number; source = last.0.source; message = last.0.message; stamp = last.0.stamp; firing = fits }, tt);
        late = sound.late;
        order = tt;
      }

  act_sound : (x : Arrival) (f : Firing) (effect : Effect) → Sound plan (at (Fired x f)) → EffectFits plan head.version effect → Sound plan (at (Fired x (with_effect f effect)))
  act_sound x f effect sound fits =
      let last = each_right (EntryFits plan head.version head.feeds) es (entry_with x (Some f) ∷ []) sound.entries in
      let firing : FiringFits plan head.version f = last.0.firing in
      record {
        head = sound.head;
        actors = sound.actors;
        few = sound.few;
        begun = sound.begun;
        clean = sound.clean;
        entries = each_append (EntryFits plan head.version head.feeds) es (entry_with x (Some (with_effect f effect)) ∷ []) (each_left (EntryFits plan head.version head.feeds) es (entry_with x (Some f) ∷ []) sound.entries) (
          record {
            number = last.0.number;
            source = last.0.source;
            message = last.0.message;
            stamp = last.0.stamp;
            firing = record {
              rule = firing.rule;
              some = firing.some;
              few = firing.few;
              numbers = firing.numbers;
              effects = each_append (EffectFits plan head.version) f.effects (effect ∷ []) firing.effects (fits, tt);
            };
          },
          tt,
        );
        late = sound.late;
        order = tt;
      }

  pub step_sound : (reached : Open) (l : LogLine) (draft : Draft) → Sound plan (at reached) → LineFits plan head l → step (at reached) l ≡ Some draft → Sound plan draft
  step_sound Heading (line.Heading number) draft sound fits is = begins_sound number draft sound fits is
  step_sound Entries (line.Arrives arrival) draft sound fits is = gave _ draft is (arrives_sound Entries arrival sound refl (sound.clean.1) fits)
  step_sound (Arrived x) (line.Arrives arrival) draft sound fits is = gave _ draft is (arrives_sound (Arrived x) arrival sound refl sound.clean fits)
  step_sound (Fired x f) (line.Arrives arrival) draft sound fits is = gave _ draft is (arrives_sound (Fired x f) arrival sound refl sound.clean fits)
  step_sound (Arrived x) (line.Fires rule taken) draft sound fits is = gave _ draft is (fire_sound x rule taken sound fits)
  step_sound (Fired x f) (line.Does effect) draft sound fits is = gave _ draft is (act_sound x f effect sound fits)
  step_sound Entries (line.IsLate source count) draft sound fits is = gave _ draft is (late_sound Entries source count sound refl refl fits)
  step_sound (Arrived x) (line.IsLate source count) draft sound fits is = gave _ draft is (late_sound (Arrived x) source count sound refl refl fits)
  step_sound (Fired x f) (line.IsLate source count) draft sound fits is = gave _ draft is (late_sound (Fired x f) source count sound refl refl fits)
  step_sound (Lates last) (line.IsLate source count) draft sound fits is =
      let by = where_is (nat_lt (source_place head.feeds last) (source_place head.feeds source)) (Some (late_draft head actors es lts (Lates last) source count)) draft is in
      gave (late_draft head actors es lts (Lates last) source count) draft by.is (late_sound (Lates last) source count sound refl by.test fits)
  step_sound Entries (line.Ends ending left partials) draft sound fits is = gave _ draft is (ends_sound Entries ending left partials sound refl fits)
  step_sound (Arrived x) (line.Ends ending left partials) draft sound fits is = gave _ draft is (ends_sound (Arrived x) ending left partials sound refl fits)
  step_sound (Fired x f) (line.Ends ending left partials) draft sound fits is = gave _ draft is (ends_sound (Fired x f) ending left partials sound refl fits)
  step_sound (Lates last) (line.Ends ending left partials) draft sound fits is = gave _ draft is (ends_sound (Lates last) ending left partials sound refl fits)
  step_sound Heading (line.Arrives arrival) draft sound fits is = absurd cc
  step_sound Heading (line.Fires rule taken) draft sound fits is = absurd cc
  step_sound Heading (line.Does effect) draft sound fits is = absurd cc
  step_sound Heading (line.IsLate source count) draft sound fits is = absurd cc
  step_sound Heading (line.Ends ending left partials) draft sound fits is = absurd cc
  step_sound Entries (line.Heading number) draft sound fits is = absurd cc
  step_sound Entries (line.Fires rule taken) draft sound fits is = absurd cc
  step_sound Entries (line.Does effect) draft sound fits is = absurd cc
  step_sound (Arrived x) (line.Heading number) draft sound fits is = absurd cc
  step_sound (Arrived x) (line.Does effect) draft sound fits is = absurd cc
  step_sound (Fired x f) (line.Heading number) draft sound fits is = absurd cc
  step_sound (Fired x f) (line.Fires rule taken) draft sound fits is = absurd cc
  step_sound (Lates last) (line.Heading number) draft sound fits is = absurd cc
  step_sound (Lates last) (line.Arrives arrival) draft sound fits is = absurd cc
  step_sound (Lates last) (line.Fires rule taken) draft sound fits is = absurd cc
  step_sound (Lates last) (line.Does effect) draft sound fits is = absurd cc

-- the first line alone
pub opening_sound : (plan : Plan) (head : Head) → HeadFits plan head → Sound plan (draft_at head [] [] [] Heading)
opening_sound plan head fits = record { head = fits; actors = tt; few = omega arith; begun = λ o. absurd cc; clean = (refl, refl); entries = tt; late = tt; order = tt }

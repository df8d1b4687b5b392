-- A run that is handed over: what its actors record, section by section.
use Rattle.std.proofs.Common.{◌≡◌, ◌∙◌, ◌⊎◌, inl, inr, ℕ, suc, ◌+◌, ◌<◌, max, List, [], ◌∷◌, ◌++◌, length, length-append, map, Bool, true, false, Option, Some, append_assoc, append-nil, slice_get, refl, sym, ap, subst, arith}
use Rattle.std.specs.Prelude.{◌&&◌, ◌==◌, nat_lt, if◌then◌else◌}
use Rattle.std.specs.List.{AllByRecursion}
use Rattle.std.proofs.lemmas.Bool.{cases_lt, ltb-true, and_parts, eqb-true}
use Rattle.join_base.specs.Late.{HasCount}
use Rattle.join_base.specs.declared.message.Message.{Message}
use Rattle.join_base.specs.declared.message.Source.{Source}
use Rattle.join_base.specs.declared.message.Source.TheVariants.{Feed, Actor}
use Rattle.pattern_core.specs.Choice.{choice}
use Rattle.script_types.specs.declared.plan.Plan.{Plan}
use Rattle.fair_semantics.specs.declared.run.ActorRun.{ActorRun}
use Rattle.fair_semantics.specs.declared.run.Entry.{Entry}
use Rattle.fair_semantics.specs.declared.run.Firing.{Firing}
use Rattle.fair_semantics.specs.declared.run.Limits.{Limits}
use Rattle.fair_semantics.specs.declared.run.Run.{Run}
use Rattle.fair_semantics.specs.Fair.{after_all, fair, run_of, setting_of}
use Rattle.fair_semantics.specs.Fits.{ActorRunFits, EntryFits, RunFits}
use Rattle.fair_semantics.specs.Linked.{same_source}
use Rattle.fair_semantics.specs.Step.{Arrival, Setting, State, definitions_of, entry_with, fair_step, is_refused, is_running, latest_stamp, messages_with, live_with, opening, running_step, step_by}
use Rattle.fair_semantics.proofs.ChainLemmas.{recorded_by}
use Rattle.fair_semantics.proofs.ListLemmas.{each_from}
use Rattle.actor_turn.specs.Held.{AreLimits, Held, new_actor}
use Rattle.run_fit_law.specs.FitsLaw.{RulesFit}
use Rattle.log_replay.specs.declared.handed.Made.{Made}
use Rattle.log_replay.specs.declared.handed.Remade.{Remade}
use Rattle.log_replay.specs.declared.shared.Replayed.{Replayed}
use Rattle.log_replay.specs.declared.shared.Shared.{Shared}
use Rattle.run_order_law.specs.Sorted.{entries_in}
use Rattle.log_posts.specs.Posts.{stamped_anew}
use Rattle.log_replay.specs.Expected.{bare, read_entries, with_entries}
use Rattle.log_replay.specs.Handed.{AreCounted, IsHanded, IsMade, IsRemade, fired_as, is_recorded, kept_from, kept_of}
use Rattle.log_reader.specs.Log.{IsLogOf}
use Rattle.log_replay.specs.Law.{AllRulesFit}
use Rattle.log_replay.specs.Replays.{IsReplayed}
use Rattle.log_posts.specs.Same.{same_entries, same_entry}
use Rattle.log_posts.specs.Stamps.{with_stamps}
use Rattle.log_replay.specs.Shared.{kept, kept_runs, without_entries}
use Rattle.log_posts.proofs.SameLemmas.{fired_is, fired_itself, message_itself, itself}
use Rattle.log_replay.proofs.ReplayLemmas.{source_counted, texts_all}
use Rattle.std.proofs.lemmas.List.{length-replicate}

-- ---- what a step records

-- the entries behind a step are those before, or these and that of the message
abbrev pub Recorded : Arrival → List Entry → Type 0
Recorded arrival after = (after ≡ arrival.state.entries) ⊎ ((firing : Option Firing) × (after ≡ arrival.state.entries ++ entry_with arrival firing ∷ []))

abbrev pub arrival_at : State → Source → Message → Arrival
arrival_at state source message = record { state = state; source = source; message = message; stamp = 0 }

step_records : (setting : Setting) (state : State) (source : Source) (message : Message) → Recorded (arrival_at state source message) (fair_step setting state source message 0).0.entries
step_records setting state source message = by (is_running state.ending)
  where
    running : (b : Bool) → Recorded (arrival_at state source message) (running_step b setting state source message 0).0.entries
    running true = inl refl
    running false =
        let arrival : Arrival = arrival_at state source message in
        inr (recorded_by setting arrival (choice (messages_with arrival) (live_with arrival) (definitions_of setting.rules)))

    by : (b : Bool) → Recorded (arrival_at state source message) (step_by b setting state source message 0).0.entries
    by false = inl refl
    by true = running (is_refused setting state message 0)

last_fired : (entries : List Entry) (entry : Entry) → slice_get (map (λ (e : Entry). e.firing) (entries ++ entry ∷ [])) (length entries) ≡ Some entry.firing
last_fired [] entry = refl
last_fired (e ∷ entries) entry = last_fired entries entry

-- an arrival that was recorded with its number and firing is as it was read, but for its stamp
pub as_read : (setting : Setting) (state next : State) (entry : Entry) (before : ℕ) (same : Bool) → next ≡ (fair_step setting state entry.source entry.message 0).0 → before ≡ length state.entries → same ≡ is_recorded next.entries before entry.number entry.firing → same ≡ true
    → next.entries ≡ state.entries ++ stamped_anew entry (max (latest_stamp state.entries) 0 + 1) ∷ []
as_read setting state next entry before same is count by_same good =
    let fired : Bool = fired_as (slice_get (map (λ (e : Entry). e.firing) next.entries) before) entry.firing in
    let parts = and_parts (nat_lt before entry.number) (length next.entries == entry.number && fired) (sym by_same ∙ good) in
    let more = and_parts (length next.entries == entry.number) fired parts.1 in
    let above = ltb-true before entry.number parts.0 in
    let long = eqb-true (length next.entries) entry.number more.0 in
    let arrival : Arrival = arrival_at state entry.source entry.message in
    elim (subst (λ (s : State). Recorded arrival s.entries) (sym is) (step_records setting state entry.source entry.message)) [
      | inl none ↦ absurd (omega (arith, ap length none, above, long, count))
      | inr one ↦
          let own : Entry = entry_with arrival (one.0) in
          let size = ap length (one.1) ∙ length-append state.entries (own ∷ []) in
          let number : length state.entries + 1 ≡ entry.number = omega (arith, size, long) in
          let there : slice_get (map (λ (e : Entry). e.firing) next.entries) before ≡ Some (one.0) =
          (λ i. slice_get (map (λ (e : Entry). e.firing) (one.1 i)) (count i)) ∙ last_fired state.entries own in
          let firing : one.0 ≡ entry.firing = fired_is (one.0) entry.firing (ap (λ (o : Option (Option Firing)). fired_as o entry.firing) (sym there) ∙ more.1) in
          one.1 ∙ (λ i. state.entries ++ record { number = number i; source = entry.source; message = entry.message; stamp = max (latest_stamp state.entries) 0 + 1; firing = firing i } ∷ [])
    ]

-- ---- the walk of an actor

stamps_push : (stamps : List ℕ) (entries : List Entry) (stamp : ℕ) (entry : Entry) → length stamps ≡ length entries → with_stamps (stamps ++ stamp ∷ []) (entries ++ entry ∷ []) ≡ with_stamps stamps entries ++ stamped_anew entry stamp ∷ []
stamps_push [] [] stamp entry e = refl
stamps_push [] (x ∷ entries) stamp entry e = absurd (omega (arith, e))
stamps_push (s ∷ stamps) [] stamp entry e = absurd (omega (arith, e))
stamps_push (s ∷ stamps) (x ∷ entries) stamp entry e = ap (λ (es : List Entry). stamped_anew x s ∷ es) (stamps_push stamps entries stamp entry (omega (arith, e)))

-- what is left of it, where what it recorded is what was read
pub record Walks (plan : Plan) (limits : Limits) (feeds index : ℕ) (actor : Held) (stamps : List ℕ) (rest whole : List Entry) : Type 0 where
  pub left : after_all actor.setting actor.state (map bare rest) ≡ fair plan index limits feeds (map bare whole)
  pub setting : actor.setting ≡ setting_of plan index limits
  pub counted : AllByRecursion (λ entry. HasCount actor.state.late entry.source) rest
  pub boxes : length actor.outbox ≡ length plan.actors
  pub back : with_stamps stamps actor.state.entries ++ rest ≡ whole
  pub many : length stamps ≡ length actor.state.entries

pub walks_first : (plan : Plan) (limits : Limits) (feeds index : ℕ) (actor : Held) (stamps : List ℕ) (rest whole : List Entry) → actor ≡ new_actor plan index limits feeds → stamps ≡ [] → rest ≡ whole → AreCounted plan feeds whole
    → Walks plan limits feeds index actor stamps rest whole
walks_first plan limits feeds index actor stamps rest whole is none all counted =
    subst (λ (a : Held). Walks plan limits feeds index a stamps rest whole) (sym is)
    (subst (λ (ss : List ℕ). Walks plan limits feeds index (new_actor plan index limits feeds) ss rest whole) (sym none)
    (subst (λ (es : List Entry). Walks plan limits feeds index (new_actor plan index limits feeds) [] es whole) (sym all)
    (record { left = refl; setting = refl; counted = counted; boxes = length-replicate (length plan.actors) []; back = refl; many = refl })))

pub walks_on : (plan : Plan) (limits : Limits) (feeds index : ℕ) (actor next : Held) (stamps more : List ℕ) (before rest whole : List Entry) (entry : Entry) → Walks plan limits feeds index actor stamps before whole → before ≡ entry ∷ rest
    → next.state ≡ (fair_step actor.setting actor.state entry.source entry.message 0).0 → next.setting ≡ actor.setting → ((other : Source) → HasCount actor.state.late other → HasCount next.state.late other) → length next.outbox ≡ length plan.actors
    → next.state.entries ≡ actor.state.entries ++ stamped_anew entry (max (latest_stamp actor.state.entries) 0 + 1) ∷ [] → more ≡ stamps ++ entry.stamp ∷ [] → Walks plan limits feeds index next more rest whole
walks_on plan limits feeds index actor next stamps more before rest whole entry h here state same keeps boxes recorded push =
    let counted = (subst (AllByRecursion (λ (e : Entry). HasCount actor.state.late e.source)) here h.counted).1 in
    let own : Entry = stamped_anew entry (max (latest_stamp actor.state.entries) 0 + 1) in
    let pushed : with_stamps more next.state.entries ≡ with_stamps stamps actor.state.entries ++ entry ∷ [] =
    (λ i. with_stamps (push i) (recorded i)) ∙ stamps_push stamps actor.state.entries entry.stamp own h.many in
    record {
      left = (λ i. after_all (same i) (state i) (map bare rest)) ∙ ap (λ (es : List Entry). after_all actor.setting actor.state (map bare es)) (sym here) ∙ h.left;
      setting = same ∙ h.setting;
      counted = each_from (λ (e : Entry). HasCount actor.state.late e.source) (λ (e : Entry). HasCount next.state.late e.source) (λ e. keeps e.source) rest counted;
      boxes = boxes;
      back = ap (λ (es : List Entry). es ++ rest) pushed ∙ append_assoc (with_stamps stamps actor.state.entries) (entry ∷ []) rest ∙ ap (λ (es : List Entry). with_stamps stamps actor.state.entries ++ es) (sym here) ∙ h.back;
      many = ap length push ∙ length-append stamps (entry.stamp ∷ []) ∙ ap (λ (n : ℕ). n + 1) h.many ∙ sym (length-append actor.state.entries (own ∷ [])) ∙ sym (ap length recorded);
    }

pub walks_end : (plan : Plan) (limits : Limits) (feeds index : ℕ) (actor : Held) (stamps : List ℕ) (rest whole : List Entry) (made : Made) → Walks plan limits feeds index actor stamps rest whole → rest ≡ [] → made.own ≡ run_of actor.setting.rules actor.state → made.stamps ≡ stamps
    → IsMade plan limits feeds index whole made
walks_end plan limits feeds index actor stamps rest whole made h none own by_stamps =
    let state : actor.state ≡ fair plan index limits feeds (map bare whole) = ap (λ (es : List Entry). after_all actor.setting actor.state (map bare es)) (sym none) ∙ h.left in
    record {
      own = own ∙ (λ i. run_of (h.setting i).rules (state i));
      back = (λ i. with_stamps (by_stamps i) (own i).entries) ∙ sym (append-nil (with_stamps stamps actor.state.entries)) ∙ ap (λ (es : List Entry). with_stamps stamps actor.state.entries ++ es) (sym none) ∙ h.back;
    }

-- ---- entries are the same as with other stamps

source_itself : (source : Source) → same_source source source ≡ true
source_itself (Feed k) = itself k
source_itself (Actor a) = itself a

stamped_itself : (e : Entry) (stamp : ℕ) → same_entry e (stamped_anew e stamp) ≡ true
stamped_itself e stamp = λ i. ((itself e.number i && source_itself e.source i) && message_itself e.message i) && fired_itself e.firing i

stamped_themselves : (stamps : List ℕ) (es : List Entry) → same_entries es (with_stamps stamps es) ≡ true
stamped_themselves [] [] = refl
stamped_themselves [] (e ∷ es) = λ i. stamped_itself e e.stamp i && stamped_themselves [] es i
stamped_themselves (s ∷ stamps) [] = refl
stamped_themselves (s ∷ stamps) (e ∷ es) = λ i. stamped_itself e s i && stamped_themselves stamps es i

-- ---- a section

kept_as_read : (entries : List Entry) (own : ActorRun) (stamps : List ℕ) → with_stamps stamps own.entries ≡ entries → kept entries own ≡ without_entries own
kept_as_read entries own stamps is =
    let same : same_entries own.entries entries ≡ true = ap (same_entries own.entries) (sym is) ∙ stamped_themselves stamps own.entries in
    ap (λ (b : Bool). let s : Shared = if b then record { as_read = true; stamps = []; own = with_entries own [] } else record { as_read = false; stamps = []; own = own } in s) same

pub remade_is : (plan : Plan) (limits : Limits) (feeds index : ℕ) (section : ActorRun) (made : Made) (entries : List Entry) (own : Shared) (remade : Remade) → IsMade plan limits feeds index section.entries made → entries ≡ with_stamps made.stamps made.own.entries → own ≡ without_entries made.own
    → remade ≡ record { read = record { entries = entries; late = section.late; ending = section.ending; left = section.left; partials = section.partials }; own = own } → IsRemade plan limits feeds index section remade
remade_is plan limits feeds index section made entries own remade is by_entries by_own all =
    let back : entries ≡ section.entries = by_entries ∙ is.back in
    let whole : own ≡ kept_of plan limits feeds index section.entries =
    by_own ∙ sym (kept_as_read section.entries made.own made.stamps is.back) ∙ ap (kept section.entries) is.own in
    subst (IsRemade plan limits feeds index section) (sym all)
    (record { read = λ i. record { entries = back i; late = section.late; ending = section.ending; left = section.left; partials = section.partials }; own = whole })

-- ---- the sections one after the other

pub record Hands (plan : Plan) (limits : Limits) (feeds : ℕ) (reads : List ActorRun) (made : List Shared) (rest whole : List ActorRun) : Type 0 where
  pub left : reads ++ rest ≡ whole
  pub own : made ++ kept_from plan limits feeds (length made) rest ≡ kept_from plan limits feeds 0 whole
  pub many : length reads ≡ length made
  pub counted : AllByRecursion (λ (section : ActorRun). AreCounted plan feeds section.entries) rest
  pub texts : (actor : ℕ) → actor < length made → RulesFit plan limits actor

pub hands_first : (plan : Plan) (run : Run) (rest : List ActorRun) → RunFits plan run → rest ≡ run.actors → Hands plan run.limits run.feeds [] [] rest run.actors
hands_first plan run rest fits all =
    let entries : (section : ActorRun) → ActorRunFits plan run.version run.feeds section → AreCounted plan run.feeds section.entries =
    λ section h. each_from (EntryFits plan run.version run.feeds) (λ (e : Entry). HasCount (opening run.feeds (length plan.actors)).late e.source) (λ e f. source_counted plan run.feeds e.source f.source) section.entries h.entries in
    let counted = each_from (ActorRunFits plan run.version run.feeds) (λ (section : ActorRun). AreCounted plan run.feeds section.entries) entries run.actors fits.each in
    subst (λ (es : List ActorRun). Hands plan run.limits run.feeds [] [] es run.actors) (sym all) (record { left = refl; own = refl; many = refl; counted = counted; texts = λ actor l. absurd (omega (arith, l)) })

pub hands_on : (plan : Plan) (limits : Limits) (feeds index : ℕ) (reads more_reads : List ActorRun) (made more : List Shared) (before rest whole : List ActorRun) (section : ActorRun) (remade : Remade) → Hands plan limits feeds reads made before whole → before ≡ section ∷ rest → index ≡ length made
    → IsRemade plan limits feeds index section remade → RulesFit plan limits index → more_reads ≡ reads ++ remade.read ∷ [] → more ≡ made ++ remade.own ∷ [] → Hands plan limits feeds more_reads more rest whole
hands_on plan limits feeds index reads more_reads made more before rest whole section remade h here count is texts push_read push_own =
    let size : length more ≡ length made + 1 = ap length push_own ∙ length-append made (remade.own ∷ []) in
    let own : remade.own ≡ kept_of plan limits feeds (length made) section.entries = is.own ∙ ap (λ (n : ℕ). kept_of plan limits feeds n section.entries) count in
    record {
      left = ap (λ (rs : List ActorRun). rs ++ rest) push_read ∙ append_assoc reads (remade.read ∷ []) rest ∙ ap (λ (r : ActorRun). reads ++ r ∷ rest) is.read ∙ ap (λ (rs : List ActorRun). reads ++ rs) (sym here) ∙ h.left;
      own = (λ i. push_own i ++ kept_from plan limits feeds (size i) rest) ∙ append_assoc made (remade.own ∷ []) (kept_from plan limits feeds (length made + 1) rest)
          ∙ ap (λ (s : Shared). made ++ s ∷ kept_from plan limits feeds (length made + 1) rest) own
          ∙ ap (λ (rs : List ActorRun). made ++ kept_from plan limits feeds (length made) rs) (sym here)
          ∙ h.own;
      many = ap length push_read ∙ length-append reads (remade.read ∷ []) ∙ ap (λ (n : ℕ). n + 1) h.many ∙ sym size;
      counted = (subst (AllByRecursion (λ (s : ActorRun). AreCounted plan feeds s.entries)) here h.counted).1;
      texts = λ actor l.
          elim (cases_lt actor index) [ inl b ↦ h.texts actor (omega (arith, b, count)) | inr g ↦ let e : index ≡ actor = omega (arith, l, size, count, g) in subst (RulesFit plan limits) e texts ];
    }

pub kept_are : (plan : Plan) (run : Run) (from : ℕ) (sections : List ActorRun) → ((j : ℕ) → slice_get run.actors (from + j) ≡ slice_get sections j) → kept_from plan run.limits run.feeds from sections ≡ kept_runs plan run from (length sections)
kept_are plan run from [] at = refl
kept_are plan run from (section ∷ sections) at =
    let none : from ≡ from + 0 = omega arith in
    let here : read_entries run from ≡ section.entries = ap (λ (k : ℕ). read_entries run k) none ∙ ap entries_in (at 0) in
    let first = ap (λ (es : List Entry). kept_of plan run.limits run.feeds from es) (sym here) in
    let later = kept_are plan run (from + 1) sections (λ j. let moved : from + 1 + j ≡ from + suc j = omega arith in ap (slice_get run.actors) moved ∙ at (suc j)) in
    λ i. first i ∷ later i

pub kept_all : (plan : Plan) (run : Run) → RunFits plan run → kept_from plan run.limits run.feeds 0 run.actors ≡ kept_runs plan run 0 (length plan.actors)
kept_all plan run fits = kept_are plan run 0 run.actors (λ j. let e : 0 + j ≡ j = omega arith in ap (slice_get run.actors) e) ∙ ap (kept_runs plan run 0) fits.actors

pub hands_here : (plan : Plan) (run : Run) (reads : List ActorRun) (made : List Shared) (before rest : List ActorRun) (section : ActorRun) → RunFits plan run → Hands plan run.limits run.feeds reads made before run.actors → before ≡ section ∷ rest → length made < length plan.actors
hands_here plan run reads made before rest section fits h here = omega (arith, ap length h.left, length-append reads before, ap length here, h.many, fits.actors)

pub hands_counted : (plan : Plan) (limits : Limits) (feeds : ℕ) (reads : List ActorRun) (made : List Shared) (before rest whole : List ActorRun) (section : ActorRun) → Hands plan limits feeds reads made before whole → before ≡ section ∷ rest → AreCounted plan feeds section.entries
hands_counted plan limits feeds reads made before rest whole section h here = (subst (AllByRecursion (λ (s : ActorRun). AreCounted plan feeds s.entries)) here h.counted).0

pub limits_fit : (plan : Plan) (run : Run) → RunFits plan run → AreLimits run.limits
limits_fit plan run fits = record { arrivals = fits.arrivals; partials = fits.partials }

pub hands_end : (plan : Plan) (run : Run) (reads : List ActorRun) (made : List Shared) (rest : List ActorRun) (replayed : Replayed) → RunFits plan run → Hands plan run.limits run.feeds reads made rest run.actors → rest ≡ []
    → replayed ≡ record { run = record { version = run.version; limits = run.limits; feeds = run.feeds; actors = reads }; made = made } → IsHanded plan run replayed
hands_end plan run reads made rest replayed fits h none is =
    let all : reads ≡ run.actors = sym (append-nil reads) ∙ ap (λ (rs : List ActorRun). reads ++ rs) (sym none) ∙ h.left in
    let own : made ≡ kept_runs plan run 0 (length plan.actors) =
    sym (append-nil made) ∙ ap (λ (rs : List ActorRun). made ++ kept_from plan run.limits run.feeds (length made) rs) (sym none) ∙ h.own ∙ kept_all plan run fits in
    subst (IsHanded plan run) (sym is)
    (record { back = λ i. record { version = run.version; limits = run.limits; feeds = run.feeds; actors = all i }; made = own; texts = texts_all plan run.limits (length made) (omega (arith, ap length all, h.many, fits.actors)) h.texts })

-- a run that was handed over is that of its log again
pub handed_is : (plan : Plan) (bytes : List ℕ) (run : Run) (replayed : Replayed) → IsLogOf plan bytes run → IsHanded plan run replayed → IsReplayed plan bytes replayed
handed_is plan bytes run replayed log is = record {
  log = subst (IsLogOf plan bytes) (sym is.back) log;
  made = is.made ∙ ap (λ (r : Run). kept_runs plan r 0 (length plan.actors)) (sym is.back);
  texts = subst (λ (r : Run). AllRulesFit plan r.limits) (sym is.back) is.texts;
}

-- The walk over the read arrivals of each actor.
use Rattle.std.proofs.Common.{◌≡◌, ◌∙◌, inl, inr, ℕ, zero, suc, ◌+◌, ◌-◌, ◌<◌, ◌≤◌, List, [], ◌∷◌, ◌++◌, length, length-append, map, drop, get_or, Option, Some, append_assoc, slice_get, refl, sym, ap, subst, arith}
use Rattle.std.specs.List.{AllByRecursion}
use Rattle.std.proofs.Math.ListN.{drop_of_length-le}
use Rattle.std.proofs.lemmas.Bool.{cases_lt}
use Rattle.std.proofs.lemmas.List.{drop_more, length-map, length-replicate}
use Rattle.std.proofs.lemmas.Option.{slice_get_past}
use Rattle.join_base.specs.Late.{HasCount}
use Rattle.join_base.specs.declared.message.Source.{Source}
use Rattle.join_base.specs.declared.message.Source.TheVariants.{Feed, Actor}
use Rattle.script_types.specs.declared.plan.Plan.{Plan}
use Rattle.script_types.specs.declared.plan.ActorPlan.{ActorPlan}
use Rattle.script_types.specs.Typed.{IsTyped}
use Rattle.fair_semantics.specs.declared.run.ActorRun.{ActorRun}
use Rattle.fair_semantics.specs.declared.run.Entry.{Entry}
use Rattle.fair_semantics.specs.declared.run.Limits.{Limits}
use Rattle.fair_semantics.specs.declared.run.Outcome.{Outcome}
use Rattle.fair_semantics.specs.declared.run.Run.{Run}
use Rattle.fair_semantics.specs.Fair.{after_all, rules_of, run_of, setting_of}
use Rattle.fair_semantics.specs.Fits.{EntryFits, RuleFits, RunFits, SourceFits}
use Rattle.fair_semantics.specs.Linked.{numbers_from}
use Rattle.fair_semantics.specs.StampLaw.{arrivals_of}
use Rattle.fair_semantics.specs.Step.{State, Stepped, fair_step, opening}
use Rattle.fair_semantics.proofs.ListLemmas.{each_from}
use Rattle.actor_turn.specs.Held.{Held, new_actor}
use Rattle.run_fit_law.specs.FitsLaw.{RulesFit}
use Rattle.run_order_law.specs.Sorted.{entries_in}
use Rattle.log_replay.specs.Expected.{bare, expected_run, read_entries, stepped}
use Rattle.log_replay.specs.Law.{AllRulesFit}
use Rattle.log_replay.specs.declared.settling.Settlement.{Settlement}
use Rattle.log_replay.specs.Kept.{entries_size, sections_size}
use Rattle.log_replay.specs.Settling.{finished_runs, made_run, made_runs, settlements_of}
use Rattle.log_replay.specs.declared.shared.Shared.{Shared}
use Rattle.log_replay.specs.Shared.{finished_all, kept, kept_run, kept_runs, settlements_shown, shown, shown_all, shown_run}
use Rattle.log_replay.proofs.SwapLemmas.{kept_shown, kept_stamps, settled_shown, settled_swapped, swap_all}
use Rattle.std.specs.Prelude.{slice_set}
use Rattle.std.proofs.lemmas.List.{length-set}
use Rattle.join_base.specs.declared.message.Stamped.{Stamped}
use Rattle.actor_turn.specs.Held.{first_of, posts_for, without_first}
use Rattle.log_replay.proofs.MadeLemmas.{read_fit}
use Rattle.log_replay.proofs.SettledLemmas.{replay_is, sources_linked}
use Rattle.log_replay.proofs.ConverseLemmas.{count_numbers}

-- what is left of the walk of an actor
pub record Goes (plan : Plan) (run : Run) (index : ℕ) (actor : Held) (all : List Entry) (place : ℕ) : Type 0 where
  pub left : after_all actor.setting actor.state (map bare (drop place all)) ≡ stepped plan run index
  pub setting : actor.setting ≡ setting_of plan index run.limits
  pub counted : AllByRecursion (λ entry. HasCount actor.state.late entry.source) all

pub source_counted : (plan : Plan) (feeds : ℕ) (source : Source) → SourceFits plan feeds source → HasCount (opening feeds (length plan.actors)).late source
source_counted plan feeds (Feed k) h = (h.0, omega (arith, h.1, length-replicate {A = ℕ} feeds 0))
source_counted plan feeds (Actor a) h = omega (arith, h, length-replicate {A = ℕ} (length plan.actors) 0)

pub goes_first : (plan : Plan) (run : Run) (index : ℕ) (actor : Held) (read : List ActorRun) (all : List Entry) → IsTyped plan → RunFits plan run → actor ≡ new_actor plan index run.limits run.feeds → read ≡ run.actors → all ≡ entries_in (slice_get read index)
    → Goes plan run index actor all 0
goes_first plan run index actor read all typed fit is by_read by_all =
    let all_is : all ≡ read_entries run index = by_all ∙ ap (λ (rs : List ActorRun). entries_in (slice_get rs index)) by_read in
    let fits = (read_fit plan run fit typed index).0 in
    let counted = each_from (EntryFits plan run.version run.feeds) (λ (e : Entry). HasCount (opening run.feeds (length plan.actors)).late e.source) (λ e h. source_counted plan run.feeds e.source h.source) (read_entries run index) fits in
    subst (λ (a : Held). Goes plan run index a all 0) (sym is) (subst (λ (es : List Entry). Goes plan run index (new_actor plan index run.limits run.feeds) es 0) (sym all_is) (record { left = refl; setting = refl; counted = counted }))

pub goes_on : (plan : Plan) (run : Run) (index : ℕ) (actor next : Held) (all : List Entry) (place : ℕ) (e : Entry) (o : Outcome) → Goes plan run index actor all place → place < length all → e ≡ get_or all place e
    → fair_step actor.setting actor.state e.source e.message 0 ≡ (next.state, o) → next.setting ≡ actor.setting → ((other : Source) → HasCount actor.state.late other → HasCount next.state.late other) → Goes plan run index next all (place + 1)
goes_on plan run index actor next all place e o h within is step same keeps =
    let rest : List Entry = drop (place + 1) all in
    let here : drop place all ≡ e ∷ rest = drop_more all place e within ∙ ap (λ (x : Entry). x ∷ rest) (sym is) in
    let state : next.state ≡ (fair_step actor.setting actor.state e.source e.message 0).0 = sym (ap (λ (s : Stepped). s.0) step) in record {
      left = (λ i. after_all (same i) (state i) (map bare rest)) ∙ ap (λ (es : List Entry). after_all actor.setting actor.state (map bare es)) (sym here) ∙ h.left;
      setting = same ∙ h.setting;
      counted = each_from (λ (x : Entry). HasCount actor.state.late x.source) (λ (x : Entry). HasCount next.state.late x.source) (λ x. keeps x.source) all h.counted;
    }

pub goes_shown : (plan : Plan) (run : Run) (index : ℕ) (actor : Held) (all : List Entry) (place : ℕ) → Goes plan run index actor all place → length all ≤ place → run_of actor.setting.rules actor.state ≡ made_run plan run index
goes_shown plan run index actor all place h past =
    let none : drop place all ≡ [] = drop_of_length-le all past in
    let state : actor.state ≡ stepped plan run index = sym (ap (λ (es : List Entry). after_all actor.setting actor.state (map bare es)) none) ∙ h.left in
    λ i. run_of (h.setting i).rules (state i)

pub goes_still : (plan : Plan) (run : Run) (index : ℕ) (actor next : Held) (all : List Entry) (place : ℕ) → Goes plan run index actor all place → next.state ≡ actor.state → next.setting ≡ actor.setting → Goes plan run index next all place
goes_still plan run index actor next all place h state same = record {
  left = (λ i. after_all (same i) (state i) (map bare (drop place all))) ∙ h.left;
  setting = same ∙ h.setting;
  counted = subst (λ (s : State). AllByRecursion (λ (entry : Entry). HasCount s.late entry.source) all) (sym state) h.counted;
}

-- ---- posts that nobody takes

pub less_state : (held : Held) (target : ℕ) (posts : List Stamped) → (without_first held target posts).state ≡ held.state
less_state held target [] = refl
less_state held target (post ∷ posts) = refl

pub less_setting : (held : Held) (target : ℕ) (posts : List Stamped) → (without_first held target posts).setting ≡ held.setting
less_setting held target [] = refl
less_setting held target (post ∷ posts) = refl

pub less_boxes : (held : Held) (target : ℕ) (posts : List Stamped) → length (without_first held target posts).outbox ≡ length held.outbox
less_boxes held target [] = refl
less_boxes held target (post ∷ posts) = length-set held.outbox target posts

set_there : (outbox : List (List Stamped)) (target : ℕ) (posts : List Stamped) → target < length outbox → posts_for (slice_set outbox target posts) target ≡ posts
set_there [] target posts l = absurd (omega arith)
set_there (box ∷ outbox) zero posts l = refl
set_there (box ∷ outbox) (suc target) posts l = set_there outbox target posts (omega (arith, l))

-- where one was taken, fewer wait
pub less_wait : (held : Held) (target : ℕ) (posts : List Stamped) (post : Stamped) → target < length held.outbox → posts ≡ posts_for held.outbox target → Some post ≡ first_of posts → length (posts_for (without_first held target posts).outbox target) < length (posts_for held.outbox target)
less_wait held target [] post l is some = absurd cc
less_wait held target (first ∷ posts) post l is some = omega (arith, ap length (set_there held.outbox target posts l), ap length is)

-- ---- one actor more

pub runs_next : (of : ℕ → Shared) (from n : ℕ) (own : Shared) (done next whole : List Shared) → from < n → own ≡ of from → next ≡ done ++ own ∷ [] → done ++ map of (numbers_from from (n - from)) ≡ whole
    → next ++ map of (numbers_from (from + 1) (n - (from + 1))) ≡ whole
runs_next of from n own done next whole below is more left =
    let rest : List Shared = map of (numbers_from (from + 1) (n - (from + 1))) in
    let count : suc (n - (from + 1)) ≡ n - from = omega arith in
    ap (λ (rs : List Shared). rs ++ rest) more
    ∙ append_assoc done (own ∷ []) rest
    ∙ ap (λ (r : Shared). done ++ r ∷ rest) is
    ∙ ap (λ (k : ℕ). done ++ map of (numbers_from from k)) count
    ∙ left

pub texts_next : (plan : Plan) (limits : Limits) (index : ℕ) → ((actor : ℕ) → actor < index → RulesFit plan limits actor) → RulesFit plan limits index → (actor : ℕ) → actor < index + 1 → RulesFit plan limits actor
texts_next plan limits index before here actor l =
    elim (cases_lt actor index) [ inl b ↦ before actor b | inr g ↦ let e : index ≡ actor = omega arith in subst (RulesFit plan limits) e here ]

pub texts_all : (plan : Plan) (limits : Limits) (index : ℕ) → length plan.actors ≤ index → ((actor : ℕ) → actor < index → RulesFit plan limits actor) → AllRulesFit plan limits
texts_all plan limits index all each actor =
    elim (cases_lt actor index) [ inl b ↦ each actor b | inr g ↦ subst (λ (o : Option ActorPlan). AllByRecursion RuleFits (rules_of o)) (sym (slice_get_past plan.actors actor (omega arith))) tt ]

-- ---- all actors

pub runs_count : {X : Type 0} (of : ℕ → X) (n : ℕ) → length (map of (numbers_from 0 n)) ≡ n
runs_count of n = length-map (numbers_from 0 n) of ∙ count_numbers 0 n

pub settlements_count : (made : List ActorRun) (run : Run) (to : ℕ) (owns : List Shared) (reads : List ActorRun) → length owns ≡ length reads → length (settlements_shown made run to owns reads) ≡ length owns
settlements_count made run to [] reads same = refl
settlements_count made run to (own ∷ owns) [] same = absurd (omega arith)
settlements_count made run to (own ∷ owns) (read ∷ reads) same = ap suc (settlements_count made run (to + 1) owns reads (omega (arith, same)))

pub finished_count : (plan : Plan) (to : ℕ) (owns : List Shared) (settlements : List Settlement) → length settlements ≡ length owns → length (finished_all plan to owns settlements) ≡ length owns
finished_count plan to [] settlements same = refl
finished_count plan to (own ∷ owns) [] same = absurd (omega arith)
finished_count plan to (own ∷ owns) (settlement ∷ settlements) same = ap suc (finished_count plan (to + 1) owns settlements (omega (arith, same)))

-- what is kept is what was made, with the read entries where they are the same
kept_swapped : (plan : Plan) (run : Run) (from : ℕ) (reads : List ActorRun) (n : ℕ) → ((j : ℕ) → slice_get run.actors (from + j) ≡ slice_get reads j) → shown_all reads (kept_runs plan run from n) ≡ swap_all reads (made_runs plan run from n)
kept_swapped plan run from [] n at = refl
kept_swapped plan run from (read ∷ reads) zero at = refl
kept_swapped plan run from (read ∷ reads) (suc n) at =
    let none : from ≡ from + 0 = omega arith in
    let here : read_entries run from ≡ read.entries = ap (λ (k : ℕ). read_entries run k) none ∙ ap entries_in (at 0) in
    let first = ap (λ (es : List Entry). shown read (kept es (made_run plan run from))) here ∙ kept_shown read (made_run plan run from) in
    let later = kept_swapped plan run (from + 1) reads n (λ j. let moved : from + 1 + j ≡ from + suc j = omega arith in ap (slice_get run.actors) moved ∙ at (suc j)) in
    λ i. first i ∷ later i

kept_bare : (plan : Plan) (run : Run) (ns : List ℕ) → AllByRecursion (λ (s : Shared). s.stamps ≡ []) (map (kept_run plan run) ns)
kept_bare plan run [] = tt
kept_bare plan run (n ∷ ns) = (kept_stamps (read_entries run n) (made_run plan run n), kept_bare plan run ns)

-- settled and shown, they are the runs of the fair steps, settled
abbrev pub SettleAsMade : Plan → Run → List Shared → Type 0
SettleAsMade plan run made =
    let owns : List ActorRun = made_runs plan run 0 (length plan.actors) in
    shown_all run.actors (finished_all plan 0 made (settlements_shown (shown_all run.actors made) run 0 made run.actors)) ≡ finished_runs plan 0 owns (settlements_of owns run 0 owns run.actors)

pub kept_settle : (plan : Plan) (run : Run) (made : List Shared) → RunFits plan run → made ≡ kept_runs plan run 0 (length plan.actors) → SettleAsMade plan run made
kept_settle plan run made fit are =
    let n : ℕ = length plan.actors in
    let owns : List ActorRun = made_runs plan run 0 n in
    let many : length owns ≡ length run.actors = runs_count (made_run plan run) n ∙ sym fit.actors in
    let swapped : shown_all run.actors made ≡ swap_all run.actors owns =
    ap (shown_all run.actors) are ∙ kept_swapped plan run 0 run.actors n (λ j. let e : 0 + j ≡ j = omega arith in ap (slice_get run.actors) e) in
    let bare_stamps = subst (AllByRecursion (λ (s : Shared). s.stamps ≡ [])) (sym are) (kept_bare plan run (numbers_from 0 n)) in
    settled_shown plan run (swap_all run.actors owns) made swapped bare_stamps ∙ settled_swapped plan run owns many

-- put together, they are the expected run
pub replayed : (plan : Plan) (run : Run) (made slice : List Shared) (settlements : List Settlement) (runs : List Shared) → IsTyped plan → RunFits plan run → AllRulesFit plan run.limits → SettleAsMade plan run made → slice ≡ made
    → settlements ≡ settlements_shown (shown_all run.actors slice) run 0 slice run.actors → runs ≡ finished_all plan 0 made settlements → shown_run run runs ≡ expected_run plan run
replayed plan run made slice settlements runs typed fit texts settle same by_settlements by_runs =
    let all =
    ap (shown_all run.actors) (by_runs ∙ ap (finished_all plan 0 made) (by_settlements ∙ ap (λ (rs : List Shared). settlements_shown (shown_all run.actors rs) run 0 rs run.actors) same))
    ∙ settle
    ∙ replay_is plan run (made_runs plan run 0 (length plan.actors)) typed fit texts refl (sources_linked plan run fit)
    in λ i. record { version = run.version; limits = run.limits; feeds = run.feeds; actors = all i }

-- ---- arrivals

entries_few : (entries : List Entry) → length entries ≤ entries_size entries
entries_few [] = omega arith
entries_few (e ∷ entries) = let later = entries_few entries in omega (arith, later)

pub arrivals_few : (runs : List ActorRun) → length (arrivals_of runs) ≤ sections_size runs
arrivals_few [] = omega arith
arrivals_few (own ∷ runs) = let later = arrivals_few runs in omega (arith, later, entries_few own.entries, length-append own.entries (arrivals_of runs))

-- The expected run, put together of runs that have their entries.
use Rattle.std.proofs.Common.{◌≡◌, ◌∙◌, ℕ, ◌+◌, List, [], ◌∷◌, length, map, Bool, true, false, refl, sym, ap, subst, arith}
use Rattle.std.specs.Prelude.{if◌then◌else◌}
use Rattle.std.specs.List.{AllByRecursion}
use Rattle.script_types.specs.declared.plan.Plan.{Plan}
use Rattle.script_types.specs.Typed.{IsTyped}
use Rattle.fair_semantics.specs.declared.run.ActorRun.{ActorRun}
use Rattle.fair_semantics.specs.declared.run.Run.{Run}
use Rattle.fair_semantics.specs.Fits.{RunFits}
use Rattle.fair_semantics.specs.Linked.{numbers_from}
use Rattle.log_posts.specs.Stamps.{with_stamps}
use Rattle.log_replay.specs.Expected.{expected_run, with_entries}
use Rattle.log_replay.specs.Law.{AllRulesFit}
use Rattle.log_replay.specs.declared.settling.Settlement.{Settlement}
use Rattle.log_replay.specs.declared.shared.Shared.{Shared}
use Rattle.log_replay.specs.Settling.{definition_count, made_run, made_runs, settled_run}
use Rattle.log_replay.specs.Shared.{finished_all, finished_shared, own_runs, settlements_shown, shown, shown_all, whole_run, whole_runs}
use Rattle.log_replay.proofs.ReplayLemmas.{SettleAsMade, finished_count, replayed, runs_count, settlements_count}
use Rattle.log_replay.proofs.SwapLemmas.{settled_shown}

-- each has its entries
abbrev AreWhole : List Shared → Type 0
AreWhole runs = AllByRecursion (λ (shared : Shared). shared.as_read ≡ false) runs

whole_are : (plan : Plan) (run : Run) (ns : List ℕ) → AreWhole (map (whole_run plan run) ns)
whole_are plan run [] = tt
whole_are plan run (n ∷ ns) = (refl, whole_are plan run ns)

whole_bare : (plan : Plan) (run : Run) (ns : List ℕ) → AllByRecursion (λ (s : Shared). s.stamps ≡ []) (map (whole_run plan run) ns)
whole_bare plan run [] = tt
whole_bare plan run (n ∷ ns) = (refl, whole_bare plan run ns)

-- settled, it still has them
finished_form : (shared : Shared) (settlement : Settlement) (definitions : ℕ) → (finished_shared shared settlement definitions).as_read ≡ shared.as_read
finished_form shared settlement definitions = by shared.as_read
  where
    own : ActorRun
    own = settled_run shared.own settlement.late definitions

    by : (b : Bool) → (if b then (let s : Shared = record { as_read = b; stamps = settlement.stamps; own = own } in s) else record { as_read = b; stamps = []; own = with_entries own (with_stamps settlement.stamps own.entries) }).as_read ≡ b
    by true = refl
    by false = refl

finished_whole : (plan : Plan) (to : ℕ) (runs : List Shared) (settlements : List Settlement) → AreWhole runs → AreWhole (finished_all plan to runs settlements)
finished_whole plan to [] settlements whole = tt
finished_whole plan to (shared ∷ runs) [] whole = tt
finished_whole plan to (shared ∷ runs) (settlement ∷ settlements) whole =
    (finished_form shared settlement (definition_count plan to) ∙ whole.0, finished_whole plan (to + 1) runs settlements whole.1)

-- and what is shown of it is the run itself
whole_shown : (reads : List ActorRun) (runs : List Shared) → length runs ≡ length reads → AreWhole runs → shown_all reads runs ≡ own_runs runs
whole_shown [] [] many whole = refl
whole_shown [] (shared ∷ runs) many whole = absurd (omega arith)
whole_shown (read ∷ reads) [] many whole = absurd (omega arith)
whole_shown (read ∷ reads) (shared ∷ runs) many whole =
    let first : shown read shared ≡ shared.own = ap (λ (b : Bool). if b then with_entries shared.own (with_stamps shared.stamps read.entries) else shared.own) whole.0 in
    λ i. first i ∷ whole_shown reads runs (omega (arith, many)) whole.1 i

whole_own : (plan : Plan) (run : Run) (ns : List ℕ) → own_runs (map (whole_run plan run) ns) ≡ map (made_run plan run) ns
whole_own plan run [] = refl
whole_own plan run (n ∷ ns) = ap (λ (owns : List ActorRun). made_run plan run n ∷ owns) (whole_own plan run ns)

whole_settle : (plan : Plan) (run : Run) (made : List Shared) → RunFits plan run → made ≡ whole_runs plan run 0 (length plan.actors) → SettleAsMade plan run made
whole_settle plan run made fit are =
    let n : ℕ = length plan.actors in
    let ns : List ℕ = numbers_from 0 n in
    let many : length (whole_runs plan run 0 n) ≡ length run.actors = runs_count (whole_run plan run) n ∙ sym fit.actors in
    let same : shown_all run.actors made ≡ made_runs plan run 0 n =
    ap (shown_all run.actors) are ∙ whole_shown run.actors (whole_runs plan run 0 n) many (whole_are plan run ns) ∙ whole_own plan run ns in
    settled_shown plan run (made_runs plan run 0 n) made same (subst (AllByRecursion (λ (s : Shared). s.stamps ≡ [])) (sym are) (whole_bare plan run ns))

-- as many runs as actors
pub whole_many : (plan : Plan) (run : Run) (made : List Shared) → RunFits plan run → made ≡ whole_runs plan run 0 (length plan.actors) → length made ≡ length run.actors
whole_many plan run made fit are = ap length are ∙ runs_count (whole_run plan run) (length plan.actors) ∙ sym fit.actors

pub settled_many : (run : Run) (made slice : List Shared) (settlements : List Settlement) → length made ≡ length run.actors → slice ≡ made → settlements ≡ settlements_shown (shown_all run.actors slice) run 0 slice run.actors → length settlements ≡ length made
settled_many run made slice settlements many same is = ap length is ∙ settlements_count (shown_all run.actors slice) run 0 slice run.actors (ap length same ∙ many) ∙ ap length same

-- put together, they are the expected run
pub replayed_whole : (plan : Plan) (run : Run) (made slice : List Shared) (settlements : List Settlement) (finished : List Shared) (actors : List ActorRun) → IsTyped plan → RunFits plan run → AllRulesFit plan run.limits
    → made ≡ whole_runs plan run 0 (length plan.actors) → slice ≡ made → settlements ≡ settlements_shown (shown_all run.actors slice) run 0 slice run.actors → finished ≡ finished_all plan 0 made settlements → actors ≡ own_runs finished
    → record run { actors = actors } ≡ expected_run plan run
replayed_whole plan run made slice settlements finished actors typed fit texts are same by_settlements by_finished by_actors =
    let many = whole_many plan run made fit are in
    let count : length finished ≡ length run.actors = ap length by_finished ∙ finished_count plan 0 made settlements (settled_many run made slice settlements many same by_settlements) ∙ many in
    let whole : AreWhole finished = subst AreWhole (sym by_finished) (finished_whole plan 0 made settlements (subst AreWhole (sym are) (whole_are plan run (numbers_from 0 (length plan.actors))))) in
    let own : actors ≡ shown_all run.actors finished = by_actors ∙ sym (whole_shown run.actors finished count whole) in
    (λ i. record run { actors = own i }) ∙ replayed plan run made slice settlements finished typed fit texts (whole_settle plan run made fit are) same by_settlements by_finished

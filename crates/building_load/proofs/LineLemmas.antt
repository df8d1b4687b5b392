-- The line of one more actor.
use Rattle.std.proofs.Common.{◌≡◌, ◌∙◌, ℕ, ◌+◌, ◌<◌, List, ◌++◌, Some, append_assoc, ap, arith, drop, get_or, length, slice_get, sym}
use Rattle.std.proofs.lemmas.List.{drop_more}
use Rattle.std.proofs.lemmas.Option.{same_Some, slice_get-get_or}
use Rattle.script_types.specs.declared.plan.ActorPlan.{ActorPlan}
use Rattle.fair_semantics.specs.declared.run.ActorRun.{ActorRun}
use Rattle.building_load.specs.Summary.{actor_line, actor_lines}

lines_more : (actors : List ActorPlan) (runs : List ActorRun) (i : ℕ) (actor : ActorPlan) (run : ActorRun) → i < length actors → i < length runs → actor ≡ get_or actors i actor → run ≡ get_or runs i run
    → actor_lines (drop i actors) (drop i runs) ≡ actor_line actor run ++ actor_lines (drop (i + 1) actors) (drop (i + 1) runs)
lines_more actors runs i actor run known within is run_is =
    (λ j. actor_lines (drop_more actors i actor known j) (drop_more runs i run within j))
    ∙ (λ j. actor_line (sym is j) (sym run_is j) ++ actor_lines (drop (i + 1) actors) (drop (i + 1) runs))

-- a loop's step: the actor's line is appended
pub line_written : (actors : List ActorPlan) (runs : List ActorRun) (i : ℕ) (actor : ActorPlan) (run : ActorRun) (whole so_far now : List ℕ) → length runs ≡ length actors → i < length runs → slice_get actors i ≡ Some actor → run ≡ get_or runs i run
    → so_far ++ actor_lines (drop i actors) (drop i runs) ≡ whole → now ≡ so_far ++ actor_line actor run → now ++ actor_lines (drop (i + 1) actors) (drop (i + 1) runs) ≡ whole
line_written actors runs i actor run whole so_far now same within actor_is run_is so_far_is now_is =
    let known : i < length actors = omega (arith, same) in
    let actor_at : actor ≡ get_or actors i actor = same_Some actor (get_or actors i actor) (sym actor_is ∙ slice_get-get_or actors i actor known) in
    let rest : List ℕ = actor_lines (drop (i + 1) actors) (drop (i + 1) runs) in
    ap (λ (text : List ℕ). text ++ rest) now_is
    ∙ append_assoc so_far (actor_line actor run) rest
    ∙ ap (λ (text : List ℕ). so_far ++ text) (sym (lines_more actors runs i actor run known within actor_at run_is))
    ∙ so_far_is

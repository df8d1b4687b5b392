-- The section of one more actor.
use Rattle.std.proofs.Common.{◌≡◌, ◌∙◌, ℕ, suc, zero, ◌+◌, ◌<◌, List, [], ◌∷◌, ◌++◌, Some, append_assoc, append-nil, arith, ap, get_or, length, slice_get, sym, take}
use Rattle.std.proofs.lemmas.Option.{same_Some, slice_get-get_or}
use Rattle.script_types.specs.declared.plan.Plan.{Plan}
use Rattle.script_types.specs.declared.plan.ActorPlan.{ActorPlan}
use Rattle.fair_semantics.specs.declared.run.ActorRun.{ActorRun}
use Rattle.arrival_log.specs.LogText.{actor_lines, sections}

sections-suc : (plan : Plan) (version : ℕ) (actors : List ActorPlan) (runs : List ActorRun) (i : ℕ) (a : ActorPlan) (r : ActorRun) → i < length actors → i < length runs → sections plan version (take (suc i) actors) (take (suc i) runs) ≡ sections plan version (take i actors) (take i runs) ++ actor_lines plan version (get_or actors i a) (get_or runs i r)
sections-suc plan version [] runs i a r h k = absurd (omega arith)
sections-suc plan version (x ∷ actors) [] i a r h k = absurd (omega arith)
sections-suc plan version (x ∷ actors) (y ∷ runs) zero a r h k = append-nil (actor_lines plan version x y)
sections-suc plan version (x ∷ actors) (y ∷ runs) (suc i) a r h k =
    ap (λ (rest : List ℕ). actor_lines plan version x y ++ rest) (sections-suc plan version actors runs i a r (omega arith) (omega arith))
    ∙ sym (append_assoc (actor_lines plan version x y) (sections plan version (take i actors) (take i runs)) (actor_lines plan version (get_or actors i a) (get_or runs i r)))

pub sections-more : (plan : Plan) (version : ℕ) (actors : List ActorPlan) (runs : List ActorRun) (i : ℕ) (a : ActorPlan) (r : ActorRun) → i < length actors → i < length runs → sections plan version (take (i + 1) actors) (take (i + 1) runs) ≡ sections plan version (take i actors) (take i runs) ++ actor_lines plan version (get_or actors i a) (get_or runs i r)
sections-more plan version actors runs i a r h k =
    let next : i + 1 ≡ suc i = omega arith in
    ap (λ (n : ℕ). sections plan version (take n actors) (take n runs)) next ∙ sections-suc plan version actors runs i a r h k

-- a loop's step: the actor's section is appended
pub section_written : (plan : Plan) (version : ℕ) (runs : List ActorRun) (i : ℕ) (actor : ActorPlan) (run : ActorRun) (start so_far now : List ℕ) → length runs ≡ length plan.actors → i < length runs → slice_get plan.actors i ≡ Some actor → run ≡ get_or runs i run → so_far ≡ start ++ sections plan version (take i plan.actors) (take i runs) → now ≡ so_far ++ actor_lines plan version actor run → now ≡ start ++ sections plan version (take (i + 1) plan.actors) (take (i + 1) runs)
section_written plan version runs i actor run start so_far now same within actor_is run_is so_far_is now_is =
    let known : i < length plan.actors = omega (arith, same) in
    let actor_at : actor ≡ get_or plan.actors i actor = same_Some actor (get_or plan.actors i actor) (sym actor_is ∙ slice_get-get_or plan.actors i actor known) in
    let before : List ℕ = sections plan version (take i plan.actors) (take i runs) in
    now_is
    ∙ ap (λ (text : List ℕ). text ++ actor_lines plan version actor run) so_far_is
    ∙ append_assoc start before (actor_lines plan version actor run)
    ∙ ap (λ (a : ActorPlan). start ++ (before ++ actor_lines plan version a run)) actor_at
    ∙ ap (λ (r : ActorRun). start ++ (before ++ actor_lines plan version (get_or plan.actors i actor) r)) run_is
    ∙ ap (λ (text : List ℕ). start ++ text) (sym (sections-more plan version plan.actors runs i actor run known within))

-- The line of one more actor.
use Rattle.std.proofs.Common.{◌≡◌, ◌∙◌, ℕ, ◌+◌, ◌<◌, List, ◌++◌, Some, append_assoc, ap, arith, drop, get_or, length, slice_get, sym}
use Rattle.std.proofs.lemmas.List.{drop_more}
use Rattle.std.proofs.lemmas.Option.{same_Some, slice_get-get_or}
use Rattle.script_types.specs.declared.plan.ActorPlan.{ActorPlan}
use Rattle.live_board.specs.declared.totals.Totals.{Totals}
use Rattle.watch_run.specs.BoardText.{board_line, board_lines}

lines_more : (actors : List ActorPlan) (rows : List Totals) (i : ℕ) (actor : ActorPlan) (row : Totals) → i < length actors → i < length rows → actor ≡ get_or actors i actor → row ≡ get_or rows i row
    → board_lines (drop i actors) (drop i rows) ≡ board_line actor row ++ board_lines (drop (i + 1) actors) (drop (i + 1) rows)
lines_more actors rows i actor row known within is row_is =
    (λ j. board_lines (drop_more actors i actor known j) (drop_more rows i row within j))
    ∙ (λ j. board_line (sym is j) (sym row_is j) ++ board_lines (drop (i + 1) actors) (drop (i + 1) rows))

-- a loop's step: the actor's line is appended
pub line_written : (actors : List ActorPlan) (rows : List Totals) (i : ℕ) (actor : ActorPlan) (row : Totals) (whole so_far now : List ℕ) → length rows ≡ length actors → i < length rows → slice_get actors i ≡ Some actor → row ≡ get_or rows i row
    → so_far ++ board_lines (drop i actors) (drop i rows) ≡ whole → now ≡ so_far ++ board_line actor row → now ++ board_lines (drop (i + 1) actors) (drop (i + 1) rows) ≡ whole
line_written actors rows i actor row whole so_far now same within actor_is row_is so_far_is now_is =
    let known : i < length actors = omega (arith, same) in
    let actor_at : actor ≡ get_or actors i actor = same_Some actor (get_or actors i actor) (sym actor_is ∙ slice_get-get_or actors i actor known) in
    let rest : List ℕ = board_lines (drop (i + 1) actors) (drop (i + 1) rows) in
    ap (λ (text : List ℕ). text ++ rest) now_is
    ∙ append_assoc so_far (board_line actor row) rest
    ∙ ap (λ (text : List ℕ). so_far ++ text) (sym (lines_more actors rows i actor row known within actor_at row_is))
    ∙ so_far_is

-- within a list the default is no matter
pub same_row : (rows : List Totals) (i : ℕ) (one other : Totals) → i < length rows → get_or rows i one ≡ get_or rows i other
same_row rows i one other within = same_Some (get_or rows i one) (get_or rows i other) (sym (slice_get-get_or rows i one within) ∙ slice_get-get_or rows i other within)

-- What fits a history fits what goes on from it.
use Rattle.std.proofs.Common.{◌∙◌, ℕ, ◌++◌, append_assoc, ap, sym}
use mathlib.Core.List.{IsPrefix}
use Rattle.fair_semantics.specs.Step.{Setting}
use Rattle.actor_cells.specs.History.{History}
use Rattle.answerer.specs.declared.reading.Answerer.{Answerer}
use Rattle.answerer.specs.Beside.{FitsHistory}

pub histories_grow : (answerer : Answerer) (actor : ℕ) (setting : Setting) (before after : History) → IsPrefix before after → FitsHistory answerer actor setting before → FitsHistory answerer actor setting after
histories_grow answerer actor setting before after (more, is) fit later (rest, whole) = fit later (more ++ rest, sym (append_assoc before more rest) ∙ ap (λ (h : History). h ++ rest) is ∙ whole)

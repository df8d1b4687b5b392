use Rattle.std.proofs.Common.{◌≡◌, ℕ, List, [], ◌∷◌, ◌++◌, None, ap, ◌∙◌, arith}
use Rattle.std.specs.Prelude.{Option, replicate}
use Rattle.live_board.specs.declared.note.BoardNote.{BoardNote}
use Rattle.live_board.proofs.FoldLemmas.{replicate-more}
use Rattle.live_board.proofs.beside.no_notes.Goals as goal

pub loop-preserved : goal.loop-preserved
loop-preserved c =
    let none : Option BoardNote = None in
    c.in_ok-push.ensures.items ∙ ap (λ (l : List (Option BoardNote)). l ++ none ∷ []) c.loop.invariant ∙ replicate-more c.loop.counter none

pub returns : goal.returns
returns c =
    let none : Option BoardNote = None in
    let end : c.loop.counter ≡ 32 = omega (arith, c.loop-test.false, c.loop.auto.counter-end) in
    record { none = c.loop.invariant ∙ ap (λ (n : ℕ). replicate n none) end }

use Rattle.std.proofs.Common.{[], ◌≡◌, ◌∙◌, ℕ, suc, ◌+◌, ◌++◌, take, drop, ap, sym, arith}
use Rattle.tree_rows.specs.Routes.{Branch}
use Rattle.tree_rows.proofs.PruneLemmas.{removed_is, differs_keeps}
use Rattle.tree_rows.proofs.prune.remove_number.Goals as goal

pub returns-in-Some-clause-left : goal.returns-in-Some-clause-left
returns-in-Some-clause-left c =
    let row = c.args.row.now in
    let i : ℕ = c.in-Some.place in
    let e = c.in-Some.ensures in
    let more : suc i ≡ i + 1 = omega arith in
    let d : Branch = record { number = 0; routes = [] } in
    c.remove_at.ensures.left ∙ ap (λ (k : ℕ). take i row ++ drop k row) more ∙ sym (removed_is c.args.number row i d c.requires.sound.rise e.0 (e.1 d))

pub returns-in-None-clause-left : goal.returns-in-None-clause-left
returns-in-None-clause-left c = sym (differs_keeps c.args.number c.args.row.now c.in-None.ensures)

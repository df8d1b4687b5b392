use Rattle.std.proofs.Common.{Bool, List, length, ap, sym, ◌∙◌, arith}
use Rattle.std.proofs.lemmas.Result.{IfOk-weaker}
use Rattle.guard_eval.specs.Shape.{atom_condition}
use Rattle.script_plan.specs.Marked.{condition_marked, condition_under}
use Rattle.script_plan.proofs.guard.+with_prefix.Goals as goal

pub returns-in-None : goal.returns-in-None
returns-in-None t c = ap (λ (marks : List Bool). condition_under marks (atom_condition c.args.atom)) (sym c.in-None.ensures)

pub with_prefix-requires : goal.with_prefix-requires
with_prefix-requires t c = omega (arith, ap (λ (marks : List Bool). length marks) c.in-Some.ensures)

pub returns-in_ok-atom-in-Some : goal.returns-in_ok-atom-in-Some
returns-in_ok-atom-in-Some t c =
    IfOk-weaker c.with_mark.result _ _
    (λ whole made. made
    ∙ ap (condition_marked c.in-Some.is_not) c.in_ok-atom-in-Some.ensures
    ∙ ap (λ (marks : List Bool). condition_under marks (atom_condition c.args.atom)) (sym c.in-Some.ensures))
    c.with_mark.ensures

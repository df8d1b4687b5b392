use Rattle.std.proofs.Common.{◌≡◌, Bool, ap, sym, ◌∙◌, rules}
use Rattle.guard_eval.specs.Condition.{Either, Grouped, Never}
use Rattle.guard_eval.specs.Shape.{atom_condition, conjunct_condition}
use Rattle.script_plan.specs.Marked.{condition_marked}
use Rattle.script_plan.proofs.guard.with_mark.Goals as goal

pub returns : goal.returns
returns c =
    let only : conjunct_condition c.push.new.self ≡ Either (atom_condition c.args.atom) Never = search rules in
    c.group_of.ensures ∙ ap Grouped only ∙ ap (λ (b : Bool). condition_marked b (atom_condition c.args.atom)) (sym c.if-is_not.false)

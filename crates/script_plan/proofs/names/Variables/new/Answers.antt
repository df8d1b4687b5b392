use Rattle.std.proofs.Common.{List, sym, subst, arith}
use Rattle.std.specs.List.{AllByRecursion}
use Rattle.script_names.specs.Scope.{Variable}
use Rattle.script_plan.specs.Small.{IsWithin}
use Rattle.script_plan.proofs.SmallLemmas.{within_definition}
use Rattle.script_plan.proofs.names.Variables.new.Goals as goal

pub invariant_of-result : goal.invariant_of-result
invariant_of-result c =
    let Within : List Variable → Type 0 = λ vs. AllByRecursion IsWithin vs in
    subst Within (sym c.in_ok-slots.ensures) (within_definition c.args.script.now.messages.decls.now 0 c.args.rule.now.patterns (omega (arith, c.requires.few)) c.requires.patterns)

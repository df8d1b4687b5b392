use Rattle.std.proofs.Common.{◌≡◌, refl, rules}
use Rattle.std.specs.List.{flat_map}
use Rattle.plan_text.specs.PlanText.{kind_line}
use Rattle.script_check.proofs.PrintedLemmas.{prints_plan}
use Rattle.script_check.proofs.printed.print_script.Goals as goal

pub returns : goal.returns
returns c =
    let front : c.write_kinds.new.text ≡ flat_map kind_line c.in_ok-heads.heads.kinds = search rules in
    prints_plan c.args.bytes.now c.args.outline.now c.in_ok-heads.heads _ c.visit_script.new.visitor c.in_ok-heads.ensures.heads refl front c.in_ok-visit_script.ensures

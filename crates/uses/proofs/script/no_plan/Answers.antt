use Rattle.std.proofs.Common.{subst}
use Rattle.uses.specs.Script.{IsFaultOf}
use Rattle.uses.proofs.ScriptLemmas.{is_told}
use Rattle.uses.proofs.script.no_plan.Goals as goal

pub returns-in-Ok : goal.returns-in-Ok
returns-in-Ok c =
    let is = subst (IsFaultOf c.args.script.now) c.in-Bad.is c.requires in
    is_told c.args.script.now c.in-Bad.place c.in-Bad.cause c.place_of.result c.one_script.ensures.both is c.place_of.ensures.line c.place_of.ensures.column

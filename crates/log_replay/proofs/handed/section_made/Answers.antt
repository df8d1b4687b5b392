use Rattle.std.proofs.Common.{Option, refl, subst}
use Rattle.std.specs.Prelude.{IfSome}
use Rattle.log_replay.specs.declared.handed.Made.{Made}
use Rattle.log_replay.specs.Handed.{IsMade}
use Rattle.log_replay.proofs.HandedLemmas.{remade_is}
use Rattle.log_replay.proofs.handed.section_made.Goals as goal

pub returns-in-Some-clause-remade : goal.returns-in-Some-clause-remade
returns-in-Some-clause-remade g c =
    let made = subst (λ (o : Option Made). IfSome o (IsMade c.args.plan.now c.args.limits c.args.feeds c.args.index c.args.read.entries)) c.in-Some.is c.in_ok-made.ensures.made in
    remade_is c.args.plan.now c.args.limits c.args.feeds c.args.index c.args.read c.in-Some.made c.shared-entries.result.0 c.shared-entries.result.1 _ made c.shared-entries.ensures.entries c.shared-entries.ensures.own refl

use Rattle.std.proofs.Common.{◌∙◌, Option, ap, arith, sym}
use Rattle.std.proofs.lemmas.List.{drop_all}
use Rattle.std.proofs.lemmas.Option.{MatchOption-at_none}
use Rattle.fair_semantics.specs.declared.run.Firing.{Firing}
use Rattle.arrival_log.specs.LogText.{firing_lines}
use Rattle.arrival_log.proofs.whole.put_fired.Goals as goal

pub returns-in-None-clause-written : goal.returns-in-None-clause-written
returns-in-None-clause-written c =
    let none = MatchOption-at_none _ _ c.in-None.is c.get.ensures.same in
    drop_all 512 c.args.room.now (omega arith) ∙ sym (ap (λ (fired : Option Firing). firing_lines c.args.plan.now fired) none)

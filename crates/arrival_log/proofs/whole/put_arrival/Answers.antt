use Rattle.std.proofs.Common.{◌∙◌, ◌++◌, List, ℕ, ap, drop}
use Rattle.arrival_log.specs.Commas.{arrival_front}
use Rattle.arrival_log.specs.LogText.{stamped}
use Rattle.arrival_log.proofs.HeadLemmas.{arrival_before}
use Rattle.arrival_log.proofs.whole.put_arrival.Goals as goal

pub returns-clause-written : goal.returns-clause-written
returns-clause-written c =
    let entry = stamped c.args.entry.now c.args.stamp in
    c.put_front.ensures.written
    ∙ ap (λ (rest : List ℕ). arrival_front c.args.plan.now c.args.version entry ++ rest) c.in_ok-end.ensures.written
    ∙ arrival_before c.args.plan.now c.args.version entry (drop c.args.end c.args.room.now)

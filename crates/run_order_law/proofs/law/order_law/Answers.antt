use Rattle.run_order_law.proofs.LawLemmas.{arrivals_in_order, runs_are_schedules}
use Rattle.run_order_law.proofs.law.order_law.Goals as goal

pub returns : goal.returns
returns c = record { ordered = arrivals_in_order; scheduled = runs_are_schedules }

use Rattle.run_laws.proofs.LawLemmas.{fair_takes_once, linked_takes_once}
use Rattle.run_laws.proofs.law.reply_law.Goals as goal

pub returns : goal.returns
returns c = record { fair = fair_takes_once; linked = linked_takes_once }

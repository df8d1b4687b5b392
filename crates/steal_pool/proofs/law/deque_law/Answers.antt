use Rattle.steal_pool.proofs.LawLemmas.{deque_law}
use Rattle.steal_pool.proofs.law.deque_law.Goals as goal

pub returns : goal.returns
returns c = record { law = deque_law }

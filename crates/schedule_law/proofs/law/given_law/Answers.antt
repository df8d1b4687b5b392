use Rattle.schedule_law.proofs.FairLemmas.{fair_is_linked}
use Rattle.schedule_law.proofs.GivenLemmas.{given_is_linked}
use Rattle.schedule_law.proofs.law.given_law.Goals as goal

pub returns : goal.returns
returns c = record { given = given_is_linked; fair = fair_is_linked }

use Rattle.uses.proofs.PostedLemmas.{sent_later}
use Rattle.uses.proofs.posted.post_one.Goals as goal

pub returns-in_ok-post_behind_turn-in-Err-clause-sent : goal.returns-in_ok-post_behind_turn-in-Err-clause-sent
returns-in_ok-post_behind_turn-in-Err-clause-sent g c =
    let full = c.in-Err.ensures.full in
    sent_later _ _ _ _ _ _ full.0 full.1 c.in_ok-post_behind_turn-in-Err.ensures.sent

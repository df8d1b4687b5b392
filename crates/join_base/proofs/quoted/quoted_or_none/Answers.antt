use Rattle.join_base.proofs.QuotedLemmas.{quoted_is_decided}
use Rattle.join_base.proofs.quoted.quoted_or_none.Goals as goal

pub returns : goal.returns
returns c = quoted_is_decided

use Rattle.join_base.proofs.QuotedLemmas.{quoted_is_prefix_free}
use Rattle.join_base.proofs.quoted.quoted_law.Goals as goal

pub returns : goal.returns
returns c = quoted_is_prefix_free

use Rattle.std.proofs.Common.{◌+◌, length}
use Rattle.feed_causes.proofs.MarkLemmas.{open_count}
use Rattle.feed_causes.proofs.SearchLemmas.{IsSearched}
use Rattle.feed_causes.proofs.search.marks_of.Given as goal

abbrev pub invariant-looking : goal.invariant-looking
invariant-looking l = IsSearched l.all l.fn.place l.marks.items l.waiting

-- each arrival that is looked at waits no more, and what is marked anew had no mark
abbrev pub decreases-looking : goal.decreases-looking
decreases-looking l = open_count l.marks.items + length l.waiting

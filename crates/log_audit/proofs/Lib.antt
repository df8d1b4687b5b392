-- The lemmas by topic:
-- - the rows of a feed as its posts, and those that are left behind an entry: RowLemmas
-- - no line is wrong where what was taken of each feed are its first rows, and the others are late, and conversely
--   (`Fits`): FitsLemmas
-- - the search gives the first line that is wrong: FirstLemmas, LineLemmas
-- - a run that is linked to the feeds that it shows is linked to feeds that it fits: ShownLemmas, FedLemmas
-- - what an audit answers: AuditLemmas
pub mod RowLemmas
pub mod FitsLemmas
pub mod FirstLemmas
pub mod LineLemmas
pub mod ShownLemmas
pub mod FedLemmas
pub mod AuditLemmas

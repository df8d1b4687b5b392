-- The lemmas by topic:
-- - the entries of a chain of fair steps hang neither on late counts nor on what was not recorded: EntriesLemmas
-- - the laws of the entries of a history, and of a run: HistoryLemmas
pub mod EntriesLemmas
pub mod HistoryLemmas

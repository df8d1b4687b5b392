-- The lemmas by topic:
-- - one file: LoadLemmas
-- - feeds in turn: FeedsLemmas
pub mod FeedsLemmas
pub mod LoadLemmas

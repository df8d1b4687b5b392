-- The lemmas by topic:
-- - a plan that is written out is well typed: TypedLemmas
-- - posts by their places fit it: RowLemmas
-- - the lines of actors: LineLemmas
pub mod LineLemmas
pub mod RowLemmas
pub mod TypedLemmas

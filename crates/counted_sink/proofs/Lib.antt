-- The lemmas by topic:
-- - what a sink took, and how many writes that made: WriteLemmas
pub mod WriteLemmas

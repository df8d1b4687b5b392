-- The lemmas by topic:
-- - the number of a name in a list that grows: NameLemmas
-- - what a name stands for in rows one after the other, and in rows of which each name is kept once: RowLemmas
pub mod NameLemmas
pub mod RowLemmas

-- The lemmas by topic:
-- - beginnings of one list: BeginLemmas
-- - the step that adds a record to a history: AddLemmas
-- - steps on a board keep its rule: RuleLemmas
-- - what records come to, with one more, and row by row: FoldLemmas
pub mod BeginLemmas
pub mod AddLemmas
pub mod RuleLemmas
pub mod FoldLemmas

-- The lemmas by topic:
-- - words are read as the items that they are, and the other way round: LawLemmas
-- - what a value that is there tells of its parts (`mapped`, `then_given`), and the ranges of a command's numbers:
--   RangeLemmas
mod Examples
pub mod ItemLemmas
pub mod LawLemmas
pub mod RangeLemmas

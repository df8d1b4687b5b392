-- The lemmas by topic:
-- - items with commas put from the last to the first, and a text that is its quoted form: PutLemmas
-- - lines out of their pieces, and a beginning that stays: HeadLemmas
pub mod CommaLemmas
pub mod Examples
pub mod HeadLemmas
pub mod PutLemmas
pub mod SectionLemmas

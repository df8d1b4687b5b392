-- The lemmas by topic:
-- - quoting, and that no quoted form begins another: QuotedLemmas
-- - a fact of each item of a list (`each_from`, `each_append`, `each_left`, `each_right`, `each_last`, `each_filter`,
--   `each_at`), which the crates above give on under names of their own: EachLemmas
pub mod EachLemmas
pub mod NumbersLemmas
pub mod TextLemmas
pub mod QuotedLemmas
pub mod Examples

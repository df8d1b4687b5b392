-- The lemmas by topic:
-- - settled cells as a system at which nothing waits: SettledLemmas
-- - from wired tags to the two ends of a link, and to what arrived: MetLemmas
pub mod SettledLemmas
pub mod MetLemmas

-- The lemmas by topic:
-- - tests of equality of messages, effects, firings and entries, and what they tell: SameLemmas
-- - the first post of a link, by its entries: PostsLemmas
-- - late counts feed by feed: LatesLemmas
-- - stamps arrival by arrival; lists that lose their first items say what lists and counts of what was taken say
--   (`arrived_behind`): StampsLemmas
pub mod SameLemmas
pub mod PostsLemmas
pub mod LatesLemmas
pub mod StampsLemmas

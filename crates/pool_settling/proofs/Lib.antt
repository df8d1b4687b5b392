-- The lemmas by topic:
-- - an actor that stands by what came, with a message more: StandLemmas
-- - the ends of links in flat lists, and one that is drained: EndLemmas
-- - from cells to those lists and back: FlatLemmas, StartLemmas
-- - a post that is taken from an outbox and arrives at its target, and rounds of them: BringLemmas
-- - what is left of a feed, post by post: FeedLemmas
-- - what a fair step adds to the posts that wait (`step_work`), and to what was given with them (`step_weight`):
--   WorkLemmas
-- - actors that stand by what came, with no post in an outbox, as a system at which nothing waits: SettleLemmas
pub mod StandLemmas
pub mod EndLemmas
pub mod FlatLemmas
pub mod StartLemmas
pub mod WorkLemmas
pub mod BringLemmas
pub mod FeedLemmas
pub mod SettleLemmas

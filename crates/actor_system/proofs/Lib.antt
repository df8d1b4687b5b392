-- The lemmas by topic:
-- - a system after a post was taken, and after it has arrived, is the next of the schedule (`moved_is`): MoveLemmas,
--   SoundLemmas
-- - a post of an actor or a feed that is brought, refused and brought back: BringLemmas, FedLemmas
-- - links one after the other, what is taken, and that nothing waits: LinkLemmas, FinishLemmas
-- - a step at which something waits leaves less work: EndLemmas
pub mod PlaceLemmas
pub mod FeedLemmas
pub mod MoveLemmas
pub mod SoundLemmas
pub mod OpeningLemmas
pub mod BringLemmas
pub mod FedLemmas
pub mod StartLemmas
pub mod LinkLemmas
pub mod FinishLemmas
pub mod EndLemmas

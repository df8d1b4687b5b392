-- The lemmas by topic:
-- - the system after some events, and a step where the post waits (`Waits`, `all_steps`): EventLemmas, ServeLemmas
-- - which entries the first of some messages left: RecordLemmas
-- - each source once among all; the rests in any order; all that an actor was given from a source: SourceLemmas,
--   RestLemmas, GivenLemmas
-- - a list made stamp by stamp, or actor by actor, has each actor's part (`for_run`, `order_for`): OrderLemmas
-- - each arrival, and then each rest, finds its post: WaitLemmas, PhaseLemmas
pub mod ListLemmas
pub mod EventLemmas
pub mod ServeLemmas
pub mod RecordLemmas
pub mod SourceLemmas
pub mod RestLemmas
pub mod GivenLemmas
pub mod OrderLemmas
pub mod ArrivalLemmas
pub mod WaitLemmas
pub mod PhaseLemmas
pub mod LawLemmas
pub mod Examples

-- The lemmas by topic:
-- - helpers that are split off and joined, and lists that shrink at their end: HandLemmas
-- - from what threads gave back to what finishing asks and claims: RunLemmas, FinishLemmas
-- - from what threads gave back to what stands beside a run: BackLemmas
-- - what may be sent to another thread, type by type: CrossLemmas
mod BackLemmas
mod CrossLemmas
mod FinishLemmas
mod HandLemmas
pub mod RunLemmas

-- The lemmas by topic:
-- - what an assignment has at a pattern: SlotLemmas
-- - the first conjunct that is false: GuardLemmas
-- - the variables of a conjunct: PlaceLemmas
-- - that listed assignments suit, and the best of them: WaysLemmas, BestLemmas
-- - that definitions and those that wait suit: SuitLemmas
-- - what is written: TextLemmas
-- - that the reasons are true: SoundLemmas, WholeLemmas, LawLemmas
pub mod SlotLemmas
pub mod GuardLemmas
pub mod PlaceLemmas
pub mod WaysLemmas
pub mod BestLemmas
pub mod SuitLemmas
pub mod TextLemmas
pub mod SoundLemmas
pub mod WholeLemmas
pub mod LawLemmas

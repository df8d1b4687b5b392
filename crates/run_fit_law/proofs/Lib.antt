-- The lemmas by topic:
-- - between two arrivals no match waits, a choice takes the newest number, and a firing leaves no more partial
--   matches than there were: RestLemmas
-- - a fair step with any message keeps that no match waits and that each firing took the newest number (`IsStill`):
--   StillLemmas
-- - a state stays sound over any fair step with a message that fits, and shows a run that fits: SoundLemmas,
--   LawLemmas
pub mod LateFitsLemmas
pub mod RestLemmas
pub mod StillLemmas
pub mod SoundLemmas
pub mod LawLemmas

-- The lemmas by topic:
-- - a key more in the middle of one list and at the end of the other, and links source by source: MakingLemmas,
--   ConnectingLemmas
-- - a link that is new or that changed: its tag, what it sent, its room: TagLemmas, PosterLemmas
pub mod TagLemmas
pub mod MakingLemmas
pub mod ConnectingLemmas
pub mod PosterLemmas

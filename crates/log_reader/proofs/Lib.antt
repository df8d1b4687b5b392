-- The lemmas by topic:
-- - a run against its lines: RunLines
-- - a step of reading against the table of places, the lines so far and the bounds: StepLemmas, ShownLemmas,
--   SoundLemmas, AgainLemmas
-- - a text leads from a place to one place: PlaceLemmas
-- - the whole lines of a log: WalkLemmas
-- - the invariant and the exits of the loop: ReadLemmas
pub mod AgainLemmas
pub mod PlaceLemmas
pub mod ReadLemmas
pub mod RunLines
pub mod ShownLemmas
pub mod SoundLemmas
pub mod StepLemmas
pub mod WalkLemmas

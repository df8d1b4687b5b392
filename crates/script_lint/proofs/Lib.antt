-- The lemmas by topic:
-- - each firing of the fair semantics is the choice among the messages recorded until then (`all_sound`): FiredLemmas
-- - what a bound says of its value, and that the value of a place is in its interval: BoundLemmas
-- - a match has as many numbers as a window sees at least: NarrowLemmas
-- - what implies a guard: ShadowLemmas
-- - the findings actor by actor, and that their text takes names alone: LinterLemmas
pub mod Examples
pub mod AtomLemmas
pub mod ListLemmas
pub mod FiredLemmas
pub mod BoundLemmas
pub mod DeadLemmas
pub mod NarrowLemmas
pub mod SameLemmas
pub mod ShadowLemmas
pub mod LawLemmas
pub mod LinterLemmas

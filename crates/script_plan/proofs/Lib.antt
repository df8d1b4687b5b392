-- The lemmas by topic:
-- - what is small of a whole is small of its parts, and of what a loop reads: SmallLemmas, GuardLemmas, HeldLemmas
-- - the plan of a definition asks of a tree nothing but its outline: OutlineLemmas
-- - what a visitor takes of definitions, actors and a script, as they are read, and that an outline has the names of its
--   script's plan (`heads_are`): VisitedLemmas
-- - what the visitor that collects has behind all actors: PlannedLemmas
mod Examples
pub mod GuardLemmas
pub mod SmallLemmas
pub mod OutlineLemmas
pub mod HeldLemmas
pub mod VisitedLemmas
pub mod PlannedLemmas

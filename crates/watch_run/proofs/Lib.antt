-- The lemmas by topic:
-- - how many arrivals an actor of a run has: BoundLemmas
-- - the line of one more actor: LineLemmas
-- - the rows that monitors show: ReadLemmas
mod BoundLemmas
mod LineLemmas
mod ReadLemmas

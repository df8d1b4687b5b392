-- The lemmas by topic:
-- - from the pairs of a schedule to its events: ReachLemmas
-- - a step more, and what a reached system keeps: StandLemmas
-- - what a chain records and what is behind (`Split`): BehindLemmas
-- - the first of the rests is refused as the first behind is: LeadLemmas
-- - all that a linked actor is asked for: SettledLemmas
-- - what bodies post has values in range, by the law of fitting runs: FitLemmas
-- - sums over lists and numbers: SumLemmas
-- - what a body posts, a step and a schedule against the work that is left (`StepsLeaveLess`, `reached_work`):
--   WorkLemmas, BoundLemmas
-- - a system at which each actor was given some messages, in no order over the actors, is kept by every schedule and
--   linked where nothing waits: StandingLemmas
-- - values in range by the stamps of posts; from the messages given, or from what came from each source, to a
--   standing system: GivenLemmas, FairLemmas
pub mod ReachLemmas
pub mod BehindLemmas
pub mod LeadLemmas
pub mod SettledLemmas
pub mod LawLemmas
pub mod FitLemmas
pub mod StandLemmas
pub mod SumLemmas
pub mod WorkLemmas
pub mod BoundLemmas
pub mod StandingLemmas
pub mod GivenLemmas
pub mod FairLemmas

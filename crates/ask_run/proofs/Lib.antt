-- The lemmas by topic:
-- - lists that shrink and grow at their end: EndLemmas
-- - what fits on a board as arrivals go on, and what joining asks: TellerLemmas
-- - reading the entries of a run, one actor after the other: ReadLemmas
-- - what the joined answerer knows of a run: AskingLemmas
-- - what is known of a run stands in the queues of its answers too: ToldLemmas
pub mod EndLemmas
pub mod TellerLemmas
pub mod ReadLemmas
pub mod AskingLemmas
pub mod ToldLemmas

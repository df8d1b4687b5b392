-- The lemmas by topic:
-- - the state of an actor by what came from each source, in whatever order it came (`stands`), and with one message
--   more (`stands_more`): StateLemmas
-- - the history, whose messages carry the stamps of their posts, with one message more (`history-more`, `history-on`),
--   and without stamps (`bare-arrived`): HistoryLemmas
-- - what the links of a cell carried, where one of them changed: LinkLemmas
-- - tallies: TallyLemmas
-- - what looks, takes and sends keep of a cell (`looked`, `brought`, `sent-kept`): CellLemmas, BringLemmas,
--   SendLemmas, RoundLemmas
-- - links over which posts were sent as far as there is room, one more of them (`sent-more`): SentLemmas
-- - the binary digits of a number, and one of them set or tested: SetLemmas
-- - opening cells are lawful: OpeningLemmas, TargetLemmas, PrepareLemmas
pub mod SetLemmas
pub mod StateLemmas
pub mod HistoryLemmas
pub mod LinkLemmas
pub mod TallyLemmas
pub mod CellLemmas
pub mod SendLemmas
pub mod SentLemmas
pub mod BringLemmas
pub mod RoundLemmas
pub mod PrepareLemmas
pub mod TargetLemmas
pub mod OpeningLemmas

-- The lemmas by topic:
-- - blocks joined end to end, and a place in one of them: ConcatLemmas
-- - blocks of equal length, and where a place of the whole list stands: FullLemmas
-- - a number behind the others: PushLemmas
-- - a number goes out, and one of each block before it moves: ShiftLemmas
-- - a number goes out of the last block: LastLemmas
-- - the first number that is at least so great: FoundLemmas
-- - a list may be sent to another thread (`tiered-send`), and threads may share it: CrossLemmas
pub mod ConcatLemmas
pub mod FullLemmas
pub mod PushLemmas
pub mod ShiftLemmas
pub mod LastLemmas
pub mod FoundLemmas
pub mod CrossLemmas

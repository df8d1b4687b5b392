-- The lemmas by topic:
-- - an arrival is the one at its ask's place, and one reply among effects is the first: OneLemmas
-- - an answer is a reply to the arrival of its ask, by an entry that is not before it: TryLemmas
-- - the other laws: ReplyLemmas
pub mod OneLemmas
pub mod ReplyLemmas
pub mod TryLemmas

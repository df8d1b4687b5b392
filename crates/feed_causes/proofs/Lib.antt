-- The lemmas by topic:
-- - what a firing took, past the last arrival: TakenLemmas
-- - the arrival whose firing made a post, and the origins of all arrivals: OriginLemmas
-- - marks, one behind the other, and what waits: MarkLemmas
-- - a search, from its start to its end: SearchLemmas
-- - the rows among what is marked: RowLemmas
-- - the reactions among the first arrivals: ReactionLemmas
-- - the posts of an actor's entries and who made them, and origins in linked runs: PosterLemmas, LawLemmas
pub mod TakenLemmas
pub mod OriginLemmas
pub mod MarkLemmas
pub mod SearchLemmas
pub mod RowLemmas
pub mod ReactionLemmas
pub mod PosterLemmas
pub mod LawLemmas

-- The lemmas by topic:
-- - membership of assignments: AssignsLemmas
-- - the least of candidates: BestLemmas
-- - the definition that a number names: DefinitionsLemmas
-- - the choice in words: LawLemmas
-- - which assignments are agreeable: AgreeLemmas
-- - from a definition and slots that suit to what evaluation asks for: GuardLemmas, SuitsLemmas
-- - of numbers that rise, those that a window sees are the last; what is seen, by the oldest one: SeenLemmas
pub mod Examples
pub mod MembersLemmas
pub mod SeenLemmas
pub mod ChoiceLemmas
pub mod AssignsLemmas
pub mod AgreeLemmas
pub mod GuardLemmas
pub mod BestLemmas
pub mod LawLemmas
pub mod SuitsLemmas
pub mod DefinitionsLemmas

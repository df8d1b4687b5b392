-- The lemmas by topic:
-- - from a rule of the grammar to the same rule of tokens at other places, combinator by combinator (`moves-both`,
--   `moves-each`, `moves-listed`): MovedLemmas
-- - the same, rule by rule: GrammarLemmas
-- - that names, faults and plan of a tree are those of the tree with each place 0: NamesLemmas, FaultsLemmas,
--   PlanLemmas
pub mod Bare
pub mod MovedLemmas
pub mod GrammarLemmas
pub mod NamesLemmas
pub mod FaultsLemmas
pub mod PlanLemmas
pub mod LawLemmas

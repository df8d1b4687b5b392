-- The lemmas by topic:
-- - what a further message makes of the partial matches, and which matches it completes: GrowthLemmas, EvalLemmas
-- - that each path may be offered a further message: OfferLemmas
-- - the trees of an actor in one step: their best match is the choice, and they hold again: TreesLemmas, ForestLemmas
-- - where no path stands twice, there are as many as partial matches: CountLemmas
-- - keeping and expiring in all trees, and what they ask: KeepLemmas
-- - assignments of more numbers and of fewer: AssignLemmas
-- - a loop that changes each item, and one that takes the least of all: LoopLemmas
-- - tries against pairs of a path and a pattern of the kind: PairLemmas
-- - a partial match up to some arrival: PrefixLemmas
pub mod AssignLemmas
pub mod CountLemmas
pub mod EvalLemmas
pub mod ForestLemmas
pub mod GrowthLemmas
pub mod KeepLemmas
pub mod LoopLemmas
pub mod OfferLemmas
pub mod PairLemmas
pub mod PrefixLemmas
pub mod TreesLemmas

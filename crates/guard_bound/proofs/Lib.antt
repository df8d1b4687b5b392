-- The lemmas by topic:
-- - a comparison of sums solved for one leaf (`shift`, `plus_leaf`, `minus_leaf`): BoundLemmas
-- - equal texts (`same_said`): SameLemmas
pub mod BoundLemmas
pub mod SameLemmas

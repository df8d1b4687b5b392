-- The lemmas by topic:
-- - lists that are filtered twice, and lists that are joined: ListLemmas
-- - the items of a list that a walk comes to (`all_at`, `left_item`, `left_more`), and nodes: WalkLemmas
-- - the rows: RowsLemmas
-- - routes in order: OrderLemmas
-- - what is left, and how many routes went: PruneLemmas, CountLemmas, ExpireLemmas
-- - rows of leaves alone, as lists of numbers (`leaf_at`, `leaf_routes`, `leaves_remove`): LeafLemmas
-- - a row weighs more than its nodes, and a node more than the rows behind it, so that a walk down a tree ends:
--   FallLemmas
pub mod CountLemmas
pub mod ExpireLemmas
pub mod FallLemmas
pub mod LeafLemmas
pub mod ListLemmas
pub mod OrderLemmas
pub mod PruneLemmas
pub mod RowsLemmas
pub mod WalkLemmas

-- The lemmas by topic:
-- - what stands at a place of a list that was changed at one place: ListLemmas
-- - the item of an ask, where it stands, and what changes where it is replaced: RowsLemmas
-- - what a view knows where a note of it is replaced: ViewLemmas
-- - the note of a cell, once the cell was looked at or set: BoardLemmas
-- - a cell for each post, and which asks there are then: CellLemmas
pub mod ListLemmas
pub mod RowsLemmas
pub mod ViewLemmas
pub mod BoardLemmas
pub mod CellLemmas

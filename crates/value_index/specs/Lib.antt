-- The claims: the value of a field, and what an index holds.
pub mod Values
pub mod Entries
pub mod Index
pub mod ValueRange
-- What private functions speak of: the columns of an index, and the order in them.
pub mod Columns
pub mod Order

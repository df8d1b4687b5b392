-- The nodes of a tree as routes, the rows in which they stand, and what is left of them.
pub mod Routes
pub mod Rows
pub mod RowNumbers
pub mod Shapes
pub mod Smaller
pub mod Order
pub mod Pruned

-- The joins and messages of the tests of partial matches.
pub mod Samples
-- The row of the test of tries.
pub mod Tried

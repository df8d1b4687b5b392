-- what `CountingSink` and `write_all` claim
pub mod Counting
pub mod Writing

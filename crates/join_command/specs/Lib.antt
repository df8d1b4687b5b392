-- what `join_main` claims
pub mod Command
pub mod Verdict
pub mod Output
pub mod Answer
pub mod Counting
pub mod Top
pub mod Numbers
-- what the private functions compute
pub mod Loading
pub mod Replying

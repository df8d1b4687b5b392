-- what `look_main` claims
pub mod Request
pub mod Verdict
pub mod Output
pub mod Answer
-- what the private functions compute
pub mod Replying
pub mod Preparing

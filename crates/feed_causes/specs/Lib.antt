-- what is claimed: what led to a firing, which reactions a run has, and a law of origins
pub mod Causes
pub mod Reactions
pub mod Law
-- what private functions compute
pub mod Search

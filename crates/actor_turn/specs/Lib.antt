-- what the claims are made of
pub mod Counts
pub mod Held
pub mod Rest
-- what private functions compute
pub mod Firings
pub mod Indexed
pub mod Inside
pub mod Outbox
pub mod Parts
pub mod Ready
pub mod Sent
pub mod Steady

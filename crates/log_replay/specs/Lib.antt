-- what is claimed: the answers of a check, expected runs, lines in fault, and the laws of these
pub mod Check
pub mod Expected
pub mod Fault
pub mod Feeds
pub mod Law
-- what private functions compute
pub mod Apart
pub mod Handed
pub mod Kept
pub mod Replays
pub mod Settling
pub mod Shared

-- what is claimed: the run that settling gives; actors that stand by what came and went, and draining links
pub mod Work
pub mod Settling
pub mod Standing
pub mod Drained
-- what private functions do
pub mod Flat
pub mod Ends
pub mod Rounds

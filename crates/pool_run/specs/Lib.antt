-- what is claimed of finishing a pool, and of what stands beside it in a run
pub mod Finishing
pub mod Running
-- what private functions do: the parts of threads, and what comes back
pub mod Parts
pub mod Stealing

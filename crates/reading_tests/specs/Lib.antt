-- the plan of the logs
pub mod Samples

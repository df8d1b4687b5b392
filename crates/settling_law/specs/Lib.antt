-- what is claimed of settling
pub mod Settled

-- what is claimed of a plan
pub mod Typed
pub mod Names

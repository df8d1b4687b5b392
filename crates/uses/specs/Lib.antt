-- what the callers claim, one file for each
pub mod OneActor
pub mod OwnLog
pub mod Script

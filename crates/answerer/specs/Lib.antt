-- what is claimed: when an answerer fits the entries of an actor, and which replies were tried
pub mod Fit
pub mod Beside
pub mod Growing
pub mod Answered
pub mod Asks

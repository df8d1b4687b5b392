-- what the actor of a test is sent
pub mod Feeding

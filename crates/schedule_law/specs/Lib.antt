-- what is claimed: systems that a schedule reaches, and the law
pub mod Reached
pub mod WorkLeft
pub mod Given

-- what a match, the choice and the window are
pub mod Matches
pub mod Window
pub mod Key
pub mod Choice
pub mod Law
pub mod Suits
pub mod Assigns
pub mod Members

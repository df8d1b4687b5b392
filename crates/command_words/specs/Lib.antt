-- what is claimed: the command that words are, with its ranges, and what each word says
pub mod Command
pub mod Ranges
pub mod Law
pub mod Item
pub mod Number
pub mod Once
pub mod Table
pub mod Views
-- what private functions compute
pub mod Gives
pub mod Steps

-- what is claimed: the laws
pub mod Spent
pub mod Replies

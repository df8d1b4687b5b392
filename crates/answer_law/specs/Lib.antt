-- what is claimed: the reply that fair steps give over a history, and its laws
pub mod Replies

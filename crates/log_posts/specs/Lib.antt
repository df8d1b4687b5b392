-- what is claimed: which entries are equal, the posts that entries make, and late counts and stamps by these posts
pub mod Same
pub mod Posts
pub mod Lates
pub mod Stamps

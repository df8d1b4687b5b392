-- what is kept of posts, and how it is read
pub mod Kept
pub mod First

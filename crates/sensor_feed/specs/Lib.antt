-- what is claimed: the posts of a feed, or its fault
pub mod Feed
pub mod Reads
pub mod Gives
pub mod Law
-- what private functions keep of a reader of csv
pub mod Reader
-- and of lines that are cut in place
pub mod Line
pub mod Row

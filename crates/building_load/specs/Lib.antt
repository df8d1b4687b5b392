-- what is claimed: the plan of the building, the posts of a feed, and the text of a summary
pub mod Building
pub mod Rows
pub mod Summary

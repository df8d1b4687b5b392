-- what is claimed: which asks a board has, what its views know, and how an ask is answered
pub mod Board
pub mod View
pub mod Rows

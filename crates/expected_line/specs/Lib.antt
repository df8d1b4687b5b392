-- what is claimed: a line of the log of an expected run
pub mod Line

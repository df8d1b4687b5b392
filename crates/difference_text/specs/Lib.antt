-- what is claimed: the text of a difference
pub mod Text

-- what is claimed: the laws
pub mod FitsLaw
pub mod RestLaw

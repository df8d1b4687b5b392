-- what is claimed: the text of the reactions of a run
pub mod ReactionText

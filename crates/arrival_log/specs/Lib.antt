-- what is claimed: the text of a run
pub mod LogText
-- what private functions append
pub mod Commas

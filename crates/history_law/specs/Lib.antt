-- what is claimed: the entries that fair steps make of a history, and their laws
pub mod History

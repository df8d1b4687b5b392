-- the text of reactions that were found
pub mod TextLemmas

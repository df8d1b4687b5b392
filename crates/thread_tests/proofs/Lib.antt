pub mod BoardLemmas
pub mod LoadLemmas

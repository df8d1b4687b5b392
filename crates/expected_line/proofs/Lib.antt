-- the whole lines of a log are the lines of its run
pub mod LineLemmas

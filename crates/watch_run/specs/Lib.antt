-- What the public calls claim: the totals of a run, and the lines of a board. Then a watched run.
pub mod BoardText
pub mod Watching

-- what is claimed: what the joined answerer knows of a run
pub mod Asking
-- an answerer of one board
pub mod Tellers
pub mod Growing
-- what private functions do
pub mod Reading
pub mod Telling

-- what is claimed: the answer of a row of a feed in a run, and the text of all answers
pub mod Answers
pub mod AnswersText
pub mod Numbered
pub mod Grow
-- what private functions make
pub mod Queues

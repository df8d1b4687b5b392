-- What the public calls claim: of the two ends, and of a look at a link and a take from it. Private functions claim nothing else.
pub mod Links
pub mod Looks
-- What an end of a link holds.
pub mod Returned

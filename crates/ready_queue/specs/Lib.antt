-- What the public calls claim: of a pass, of the queue at each moment, of a call at one of its moments, and of puts and
-- takes in a row.
pub mod View
pub mod Rule
pub mod Moments
pub mod Passes
pub mod Law

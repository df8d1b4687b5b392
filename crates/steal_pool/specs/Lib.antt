-- What the public calls claim: of a view, of a rule and its moments, of the rule in use, of a pass, of a take, of
-- passes as they are made, of a worker that steals, and of a family of queues.
pub mod View
pub mod Moments
pub mod Rule
pub mod Passes
pub mod Taking
pub mod Making
pub mod Stealing
pub mod Law

-- what is claimed: a system as its callers see it, its links and its steps
pub mod Serving
-- what the private functions compute
pub mod Feeding
pub mod Opening
pub mod Inside

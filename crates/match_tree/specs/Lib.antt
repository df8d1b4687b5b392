-- The claims: what a tree holds, what an offer adds, and how often it tries.
pub mod Tree
pub mod Tries
-- What private functions compute: what a visit or a prune makes of the routes.
pub mod Growth
pub mod Begins
pub mod Behind
pub mod Kept
pub mod Thinned

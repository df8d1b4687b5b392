-- What the public calls claim: of helpers, of posters, of the parts of a pool, of a turn, of what stands beside it, of an
-- announcement, and of a worker.
pub mod Helpers
pub mod Posters
pub mod Whole
pub mod Turning
pub mod Beside
pub mod Announcing
pub mod Working

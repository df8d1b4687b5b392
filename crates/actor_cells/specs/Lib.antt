-- What the public calls claim: when a cell is lawful, what its history is in a run, what serving does, and what is
-- prepared.
pub mod ActorSets
pub mod History
pub mod Lawful
pub mod Served
pub mod AllLawful
pub mod Prepared
pub mod Tags
-- What private functions do.
pub mod Steps
pub mod Targets

-- what is claimed: the laws of stamps, linked runs, schedules, and the fair steps that they speak of
pub mod StampLaw
pub mod Linked
pub mod Schedule
pub mod Fits
pub mod Fair
pub mod Step
pub mod Body
-- what the crates above ask of the parts of a body
pub mod Ready
-- what the private field of `Fired` holds
pub mod Fired
-- what the private field of `LogVersion` stands for
pub mod Version

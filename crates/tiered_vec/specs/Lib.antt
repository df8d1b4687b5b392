-- What private functions speak of: the numbers in blocks.
pub mod Tiers

-- What a new number makes of a path.
pub mod Offers
pub mod Below
pub mod Offering
-- What the functions compute: conjuncts that are asked, and numbers that are left out.
pub mod PlaceSet
pub mod Ties
pub mod Trial
pub mod Screen
pub mod Look
pub mod Range

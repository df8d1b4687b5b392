-- what is claimed: the equalities of a guard, and the pairs of patterns that a chain of them ties
pub mod Equalities
pub mod Tied
-- what private functions compute
pub mod Names
pub mod Rows

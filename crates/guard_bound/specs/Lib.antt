-- The claims: what a bound and a pair of texts say of a number, and what private functions compute of sums.
pub mod Bound
pub mod Same

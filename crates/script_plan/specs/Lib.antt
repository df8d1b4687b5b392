-- the plan of a tree, and of which trees it is one
pub mod PlanOf
pub mod Small
-- reading a plan from the tokens
pub mod Planned
-- the same, definition by definition, and the names alone
pub mod Visited
-- what private functions compute
pub mod Collected
pub mod Marked

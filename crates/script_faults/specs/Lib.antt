-- the faults of a tree, and the one reported
pub mod Faults
pub mod First
pub mod Finding
-- the faults of lists with a most
pub mod Numbered
-- what private functions compute
pub mod Again
pub mod Open
pub mod Statements
pub mod Steps

-- the plan or the fault of a tree, and of a script
pub mod Types
pub mod Script
-- a script that was looked at, whose plan a visitor takes
pub mod Checked
-- what the visitors of private functions take
pub mod Visitors

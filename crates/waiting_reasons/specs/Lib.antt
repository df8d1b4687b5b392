-- what is claimed: why messages wait, and that the reasons are true
pub mod Text
pub mod Gone
pub mod Ways
pub mod Guards
pub mod Law
-- what private functions ask for
pub mod Inside

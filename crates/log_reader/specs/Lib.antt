-- what is claimed: the run whose log bytes are, and the line at fault
pub mod Log
pub mod Places
-- what private functions compute
pub mod Draft
pub mod Advance

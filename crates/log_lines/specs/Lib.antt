-- what is claimed: which line a text is, and where a text is cut
pub mod Forms
pub mod Cut
pub mod Gives
-- what private functions read
pub mod Numbers
pub mod Quoting
pub mod Messages
pub mod Lines

-- what is claimed: what an audit answers, and which lines of a log are not those of its feeds
pub mod Audit
pub mod Wrong
-- what private functions compute
pub mod Search

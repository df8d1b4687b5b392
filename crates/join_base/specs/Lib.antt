-- what a contract says of a value or of the outside
pub mod Text
pub mod Fields
pub mod Numbers
pub mod Taken
pub mod Late
pub mod Stamps
pub mod Quoted
pub mod Integer
pub mod Outside
pub mod Memory
-- what private functions and lent items compute
pub mod Lending
pub mod Stored
pub mod Unquoted

-- What the public calls claim: what a seat knows, the rule that holds between any two steps, and what each call learns.
pub mod View
pub mod Rule
pub mod Steps
pub mod Seats
pub mod Lending
-- What each kind of atomic step tells, for the bodies of the calls.
pub mod Kinds

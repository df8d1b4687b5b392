-- The claims: what a mailbox holds, and each call as an equation on it.
pub mod Mail
-- What private functions keep: the live numbers, the room for late counts, and the parts of a mailbox.
pub mod Live
pub mod LateRoom
pub mod Inside

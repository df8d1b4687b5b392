-- What the public calls claim: of the ends of links, and of tags that belong together.
pub mod Ends
pub mod Wiring
-- What a poster keeps, and how links are made.
pub mod InOrder
pub mod Making

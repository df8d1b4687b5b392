-- what is claimed: what the trees of an actor hold, each call over them, and the laws
pub mod Trees
pub mod Partials
pub mod Laws

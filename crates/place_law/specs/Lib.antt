-- the law
pub mod Law

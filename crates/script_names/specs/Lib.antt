-- what a name stands for
pub mod Names
pub mod Scope

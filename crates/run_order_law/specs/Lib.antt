-- what is claimed: the order of a run, which has each arrival in its place
pub mod Order
pub mod Sorted

pub mod CellLemmas
pub mod FeedLemmas
pub mod PlanLemmas
pub mod PoolLemmas

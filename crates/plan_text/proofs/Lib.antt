pub mod Examples
pub mod GuardLemmas
pub mod HeadLemmas
pub mod PatternLemmas
pub mod RestLemmas

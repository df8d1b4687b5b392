pub mod ReplyLemmas
pub mod QueueLemmas
pub mod LineLemmas
pub mod NumberedLemmas
pub mod GrowLemmas

-- The lemmas by topic:
-- - from well typed rules and messages that fit to items and operands that are ready: TypedLemmas, ReadyLemmas
-- - late counts by the messages from each source, and what an ended actor keeps (`counted`, `raised_by`):
--   CountedLemmas, SizeLemmas, LateLemmas
-- - chains that record each message (`Taken`): TakenLemmas
-- - what holds of each rest holds of them in their order: RestLemmas
-- - numbers one after the other, and sources made of them: NumberLemmas
-- - what a body of a well typed rule makes fits the plan: FiringLemmas
-- - a chain of fair steps: the stamp of its last entry, and messages behind others (`latest_stamp-more`,
--   `after_all-append`): FairLemmas
-- - no post of a feed carries a stamp: LinkedLemmas
-- - the entries of any chain of fair steps are the first of its messages, with their stamps (`adds`): ChainLemmas
-- - stamps of a linked run: where each comes from, and a list of numbers that has each one's predecessor: StampLemmas
-- - a fact of each item of a list, by membership (`each_in`): ListLemmas
pub mod Examples
pub mod ListLemmas
pub mod TypedLemmas
pub mod ReadyLemmas
pub mod StepLemmas
pub mod KeptLemmas
pub mod FairLemmas
pub mod FitsLemmas
pub mod FiringLemmas
pub mod LinkedLemmas
pub mod ChainLemmas
pub mod StampLemmas
pub mod TakenLemmas
pub mod SizeLemmas
pub mod CountedLemmas
pub mod LateLemmas
pub mod RestLemmas
pub mod NumberLemmas

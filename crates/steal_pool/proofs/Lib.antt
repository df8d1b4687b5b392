-- The lemmas by topic:
-- - that each step keeps the rule of a deque, and what callers show of it: RuleLemmas
-- - what steps ask and tell, whatever the rule: MomentLemmas
-- - passes that are made one after the other: MakingLemmas
-- - how many tickets of actors a pass took: StealLemmas
-- - the law of a family of queues: LawLemmas
mod MomentLemmas
pub mod RuleLemmas
mod MakingLemmas
mod StealLemmas
mod LawLemmas

-- The lemmas by topic:
-- - a request has few feeds: RequestLemmas
-- - from the files to the reply: ReplyLemmas, RunLemmas
-- - words and files have one verdict: VerdictLemmas
-- - from the reply to the answer: TopLemmas
pub mod RequestLemmas
pub mod ReplyLemmas
pub mod RunLemmas
pub mod VerdictLemmas
pub mod TopLemmas

-- The lemmas by topic:
-- - from the files to the reply: LoadLemmas, ReplyLemmas
-- - from the reply to the answer: RunLemmas, TopLemmas
-- - words and files have one verdict: VerdictLemmas
pub mod LoadLemmas
pub mod ReplyLemmas
pub mod RunLemmas
pub mod TopLemmas
pub mod VerdictLemmas

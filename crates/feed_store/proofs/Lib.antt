-- The lemmas by topic:
-- - what is kept of posts, and that the posts are read of it: KeptLemmas
-- - what is done of a list, and what is left of it: LeftLemmas
pub mod KeptLemmas
pub mod LeftLemmas

-- The lemmas by topic:
-- - how often a number stands in a list: TimesLemmas
-- - what a body replies to, and what a choice takes: FiredLemmas
-- - a fair step keeps that each arrival is taken at most once, and no live one was taken (`IsOnce`): OnceLemmas
-- - what refuses a message at an actor that ends as spent: SpentLemmas
-- - the laws: LawLemmas
pub mod Examples
pub mod TimesLemmas
pub mod FiredLemmas
pub mod OnceLemmas
pub mod SpentLemmas
pub mod LawLemmas

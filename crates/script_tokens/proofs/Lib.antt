-- The lemmas by topic:
-- - how long the token in front is, and that a name is all of it: WordLemmas
-- - that a name is a text: NameLemmas
-- - that a text has one list of tokens: ListLemmas
-- - that the list of a text's tokens is that one: CursorLemmas
pub mod CursorLemmas
pub mod ListLemmas
pub mod NameLemmas
pub mod TokenLemmas
pub mod WordLemmas

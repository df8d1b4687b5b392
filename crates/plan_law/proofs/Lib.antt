-- The lemmas by topic:
-- - a blank, a mark, a word, a number or a quoted text in front of any text, as tokens: CutLemmas, TokenLemmas,
--   ValueLemmas
-- - what the tokens of a text may be (a name is a word, a number has 63 bits): LexedLemmas
-- - from a rule of the grammar to a text that has its tokens (`Prints`), put together as the rule is: PhraseLemmas
-- - the name at the number or the place of a name is that name: NamedLemmas
-- - the text of each part of a plan has the part's tokens: TermLemmas, GuardLemmas, DeclarationLemmas, BodyLemmas,
--   ActorLemmas, LawLemmas
pub mod CutLemmas
pub mod WriteLemmas
pub mod LexedLemmas
pub mod TokenLemmas
pub mod PhraseLemmas
pub mod ValueLemmas
pub mod NamedLemmas
pub mod TermLemmas
pub mod GuardLemmas
pub mod DeclarationLemmas
pub mod BodyLemmas
pub mod ActorLemmas
pub mod LawLemmas

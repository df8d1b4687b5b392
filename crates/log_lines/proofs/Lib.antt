-- The lemmas by topic:
-- - where a text is cut, and the words in front of it (`cut_first`, `cut_not`): CutLemmas
-- - numbers and integers without leading zeros, against `decimal`: NumberLemmas, IntLemmas
-- - the quoted text in front of bytes as a function, against the quoted form, also where the text has no escapes:
--   QuotingLemmas
-- - the number of a name, where no two are one: NameLemmas
-- - each line of a log is read back from its text (`.._again`), and what is read has that text (`.._takes`):
--   FieldLemmas, PlanLemmas, HeadLemmas, LineLemmas, FormLemmas; without LF: LackLemmas
pub mod CutLemmas
pub mod ExactLemmas
pub mod FieldLemmas
pub mod FormLemmas
pub mod HeadLemmas
pub mod IntLemmas
pub mod LackLemmas
pub mod LineLemmas
pub mod ListLemmas
pub mod MessageLemmas
pub mod NameLemmas
pub mod NumberLemmas
pub mod OptionLemmas
pub mod PlanLemmas
pub mod QuotingLemmas
pub mod ValueLemmas

-- The lemmas by topic:
-- - the first fault of a list, item by item: FirstLemmas; in any order: OrderLemmas; lists of which the same is reported
--   (`Same`), and lists with a most (`numbered_same`): SameLemmas
-- - each part of a script, from the faults of its parts as they are read: TermLemmas, PrintLemmas, PostLemmas,
--   StatementLemmas, BodyLemmas, GuardLemmas, PatternLemmas, RuleLemmas, FindingLemmas
-- - names that are bound more than once: BindingLemmas; those of fields: FieldLemmas; variables of which the types alone
--   are known: MeaningLemmas
-- - from marks of the patterns that are still open to the replies that are wrong: ReplyLemmas
pub mod FirstLemmas
pub mod OrderLemmas
pub mod SameLemmas
pub mod TermLemmas
pub mod PrintLemmas
pub mod PostLemmas
pub mod StatementLemmas
pub mod ReplyLemmas
pub mod BodyLemmas
pub mod GuardLemmas
pub mod BindingLemmas
pub mod FieldLemmas
pub mod PatternLemmas
pub mod MeaningLemmas
pub mod RuleLemmas
pub mod FindingLemmas

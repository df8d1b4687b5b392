pub mod ValuedLemmas
pub mod RangeLemmas
pub mod EntryLemmas
pub mod ColumnLemmas

pub mod IndexLemmas
pub mod SampleLemmas
pub mod TriedLemmas

-- conjuncts of more than one atom
pub mod EqualityLemmas
-- chains of equalities, and the names of variables that are equal by them
pub mod ChainLemmas
pub mod NameLemmas
-- what two patterns come to, and the rows of pairs
pub mod FoundLemmas
pub mod RowLemmas

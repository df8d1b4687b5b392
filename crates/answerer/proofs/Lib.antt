-- The lemmas by topic:
-- - the ask of each arrival, and how it is found as arrivals are noted: AskLemmas
-- - what answering one reply after the other does: AnsweredLemmas
-- - what joining does: JoinLemmas
-- - a board has each ask that is known: TellLemmas
-- - the history of an actor that is shown: BesideLemmas
-- - when an answerer fits, as it reads, as arrivals go on, and beside another actor: FitLemmas
pub mod AskLemmas
pub mod AnsweredLemmas
pub mod FitLemmas
pub mod BesideLemmas
pub mod JoinLemmas
pub mod TellLemmas

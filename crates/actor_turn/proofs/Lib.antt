-- The lemmas by topic:
-- - what may be asked when a running actor takes a message, and what stands when it was kept (`keeps_done`) or has
--   fired (`fires_done`): ArriveLemmas
-- - a new actor, and one that did not take a message; partial matches counted: RestLemmas
-- - from what an actor keeps inside to what is claimed of its trees (`partial_held`, `none_waits`); of a new actor
--   (`new_partial`), and of one with other posts (`same_partial`): HeldLemmas
-- - the index has each number that is not consumed, from step to step (`kept_has`, `fired_has`): IndexLemmas
-- - what a mailbox records is what the fair step records: PartsLemmas
-- - the history has the message that was taken (`history_more`), and else stays (`history_same`): HistoryLemmas
-- - what is told of one arrival: EntryLemmas
-- - one fair step by the trees: SteadyLemmas
-- - trees with a reserve by those without; steps by the partial matches (`tries_counted`): OfferedLemmas
-- - from well typed rules to guards that may be tested and bodies that can run (`choice_may`): ToldLemmas
-- - posts that are delivered stand behind the others (`fired_posts`), are taken and brought back: PostsLemmas
-- - the posts of a body that can run: few, each for an actor that exists: BodiesLemmas
pub mod ArriveLemmas
pub mod BodiesLemmas
pub mod EntryLemmas
pub mod FitLemmas
pub mod HeldLemmas
pub mod HistoryLemmas
pub mod IndexLemmas
pub mod LetGoLemmas
pub mod OfferedLemmas
pub mod OpeningLemmas
pub mod PartsLemmas
pub mod PostsLemmas
pub mod RestLemmas
pub mod SteadyLemmas
pub mod ToldLemmas

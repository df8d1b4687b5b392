-- The lemmas by topic:
-- - the first item of a list that a fact does not hold of, over parts of the list and over two facts (`First`,
--   `FirstPlace`): FirstLemmas
-- - two texts part in the line in which their lists of lines differ: ApartLemmas, TextLemmas
-- - a text that comes piece by piece parts where the whole does (`behind_both`, `piece_stands`, `parts_where`):
--   ProgressLemmas
-- - read entries stand in for those that are the same but for stamps: posts, late counts, settled runs (`swap`,
--   `settled_shown`): SharedLemmas, SwapLemmas; the lines of such a section: WrittenLemmas
-- - what one step records (`as_read`), entries that are the same but for stamps (`kept_as_read`), a run that is
--   handed over section by section and put together again (`Walks`, `Hands`): HandedLemmas
-- - the posts of a link, of a section and of a run against what its lines keep: KeepsLemmas, SectionLemmas,
--   FoundLemmas
-- - lists that lose their first items say what lists and counts of what was taken say, of a link against its lines
--   (`link_rest`): FaultLemmas
-- - a linked run is its own expected run, and no line of its log is in fault: ExpectedLemmas, AcceptedLemmas; the
--   other way round: ConverseLemmas, MadeLemmas
-- - what a chain of fair steps does but for stamps, and that no stamp under way is near the greatest: BareLemmas,
--   BoundLemmas
-- - behind its arrivals late messages spend an actor that runs, and nothing else changes how it ended
--   (`ends_behind`): EndingLemmas
-- - late counts, stamps and endings behind the fair steps are those of the expected run (`replayed`, over any list
--   that settles as the runs that were made): SettledLemmas, ReplayLemmas; where each run has its entries:
--   WholeLemmas
pub mod LineLemmas
pub mod FirstLemmas
pub mod ApartLemmas
pub mod TextLemmas
pub mod KeepsLemmas
pub mod SectionLemmas
pub mod FoundLemmas
pub mod SettledLemmas
pub mod ReplayLemmas
pub mod WholeLemmas
pub mod FaultLemmas
pub mod Examples
pub mod BareLemmas
pub mod TakenLemmas
pub mod LateLemmas
pub mod ActorLemmas
pub mod BoundLemmas
pub mod SizeLemmas
pub mod EndingLemmas
pub mod ExpectedLemmas
pub mod AcceptedLemmas
pub mod ReadLemmas
pub mod FeedLemmas
pub mod ConverseLemmas
pub mod BackLemmas
pub mod ExpectedFitsLemmas
pub mod MadeLemmas
pub mod ProgressLemmas
pub mod SharedLemmas
pub mod SwapLemmas
pub mod WrittenLemmas
pub mod HandedLemmas

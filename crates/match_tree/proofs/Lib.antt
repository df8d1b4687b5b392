-- The lemmas by topic:
-- - from the routes of a tree's nodes to its paths (`kept_..` keep the invariant, `.._tree` say what is shown):
--   KeptLemmas, ReserveLemmas, ExpireLemmas, OnceLemmas
-- - the nodes of a row: VisitLemmas, WalkLemmas
-- - the rows: RowsLemmas
-- - routes that grow, lead on and leave a pattern free: GrowLemmas, LeadLemmas, OpenLemmas
-- - the tries behind a path: TriesLemmas
-- - nodes that are added at a path once nothing behind it has a match (`Begins`): BeginLemmas; row by row
--   (`begins_on`) RowsLemmas
-- - what is known of the node that a walk has come to (`reach`), behind which it goes on or stops (`go_on`,
--   `stop_at`): SkipLemmas
-- - a node that no pattern takes the number behind is passed as it is (`passed_quiet`), many in one step too (`walk_to`):
--   VisitLemmas, SkipLemmas
-- - the number behind may be offered to the paths that an arrival leaves: NextLemmas
-- - nodes of which some are without the routes that take a number (`both_thinned`, `thinned_each`), and why the others
--   have none (`pruned_quiet`, `pruned_barred`): ThinLemmas
-- - a visit adds routes only where some pattern may take the number (`earned_node`, `visited_routes`): EarnLemmas
-- - the match that is found first, and a fact of each member of a list (`all_members`): FirstLemmas
-- - the empty path: RootLemmas
pub mod BeginLemmas
pub mod EarnLemmas
pub mod Examples
pub mod ExpireLemmas
pub mod FirstLemmas
pub mod GrowLemmas
pub mod KeptLemmas
pub mod LeadLemmas
pub mod NextLemmas
pub mod OnceLemmas
pub mod OpenLemmas
pub mod ReserveLemmas
pub mod RootLemmas
pub mod RowsLemmas
pub mod SkipLemmas
pub mod ThinLemmas
pub mod TriesLemmas
pub mod VisitLemmas
pub mod WalkLemmas

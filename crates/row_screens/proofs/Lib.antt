-- The lemmas by topic:
-- - one path and a number: SlotsLemmas, TakeLemmas, MatchLemmas; whether it leaves a pattern free: FreeLemmas; its
--   numbers in order: TakenLemmas
-- - a fact of each item of a list, by membership (`all_in`): MemberLemmas
-- - a conjunct without a field of a pattern stands beside a number there as without (`stands_beside`): TieLemmas, which
--   also has the sets of the table of ties (`tied_more`, `all_before_more`)
-- - sets of places, bit by bit: PlaceSetLemmas
-- - a path is agreeable where the conjuncts with a field of the new pattern are (`set_stands`): TrialLemmas
-- - a node that fails its row's screen has no takers behind it (`lacks_key`, `fails_one`, `is_another`, `disagrees`), and
--   which conjuncts are decided is the same for all numbers of a row (`tests_alike`): ScreenLemmas
-- - a screen asks each conjunct that ties the two patterns (`asked_more`), so that behind a number that passes none is
--   left to ask (`screen_asked`, `outside_asked`): AskLemmas
-- - numbers that have not the key's value are not worth a visit (`lacking_on`): KeyLemmas
-- - a number that an index has not under a look-up's value is not worth a visit (`key_looks`, `text_looks`), and those
--   that are left of the index have all that are (`left_before`, `left_behind`): LookLemmas
-- - a number that meets the bounds has a value of their span (`span_lies`), and those of these values are found
--   (`range_found`): RangeLemmas
pub mod AskLemmas
pub mod FreeLemmas
pub mod KeyLemmas
pub mod LookLemmas
pub mod MatchLemmas
pub mod MemberLemmas
pub mod PlaceSetLemmas
pub mod RangeLemmas
pub mod ScreenLemmas
pub mod SlotsLemmas
pub mod TakeLemmas
pub mod TakenLemmas
pub mod TieLemmas
pub mod TrialLemmas

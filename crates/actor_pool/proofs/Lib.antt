-- The lemmas by topic:
-- - helpers that go on: HelperLemmas
-- - what posters sent: PosterLemmas
-- - a pool that was made is whole: MakeLemmas
-- - what is kept beside a pool fits what was seen, later too: BesideLemmas
-- - what a source found and what a worker did: WorkLemmas
-- - what a closed lock gives back: EndLemmas
pub mod BesideLemmas
pub mod HelperLemmas
pub mod PosterLemmas
pub mod WorkLemmas
mod MakeLemmas
mod EndLemmas

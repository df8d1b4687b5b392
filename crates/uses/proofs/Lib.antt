-- The lemmas by caller:
-- - what an actor fires: OneActorLemmas
-- - the run of a log that was checked: OwnLogLemmas
-- - what the one poster of a pool sent: PostedLemmas
-- - the fault of a script: ScriptLemmas
pub mod OneActorLemmas
pub mod OwnLogLemmas
pub mod PostedLemmas
pub mod ScriptLemmas

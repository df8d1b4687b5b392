-- The lemmas by topic:
-- - the first of a list of faults is its least: LeastLemmas
-- - from no fault to the bounds of the numbers of windows and replies, and to replies that differ: NumberLemmas
-- - from no name declared twice to names that differ: NameLemmas
-- - a guard of the plan makes as many comparisons as that of the tree: CountLemmas
-- - from no fault to the sizes of a tree: SmallLemmas
-- - from no fault to a well typed plan: what a variable stands for, operands and guards, the rest: VariableLemmas,
--   TypedLemmas, PlanLemmas
-- - a script that is read once more: CheckLemmas
-- - the text of a plan and its findings, part by part: PrintedLemmas, LintedLemmas
-- - from trees to the bytes that spell them: ScriptLemmas
pub mod LeastLemmas
pub mod NumberLemmas
pub mod SmallLemmas
pub mod NameLemmas
pub mod CountLemmas
pub mod CheckLemmas
pub mod PrintedLemmas
pub mod LintedLemmas
pub mod VariableLemmas
pub mod TypedLemmas
pub mod PlanLemmas
pub mod ScriptLemmas

-- The lemmas by topic:
-- - a reader against its rule: sound, complete, and exact where it stops: ReaderLemmas, RepeatLemmas, ParseLemmas
-- - each rule of the grammar has its reader, from the parts to the whole: AtomLemmas, StatementLemmas, RuleLemmas,
--   DeclarationLemmas, ScriptLemmas
-- - a loop that reads a list, turn by turn, whatever its reader (`IsLeft`: `begun`, `goes_on`, `stops`, `ends`,
--   `turns_end`): LoopLemmas
-- - what is noted of a list while a loop reads it, turn by turn, whatever its phrases (`IsNoted`): WalkLemmas
-- - what passing over a rule leaves, by its parts (`Passes`): PassedLemmas, of each rule: PassedRules; and the loops
--   that pass over lists (`IsPassing`): PassedLoops
-- - one mark more around an atom, as a prefix holds it: PrefixLemmas
-- - a term of one leaf, which is kept without a list: OperandLemmas
-- - from a rule of the grammar to a fact of each value of its list (`each_all`, `separated_all`, `listed_all`), and
--   that a tree has no gaps: FilledLemmas
pub mod ReaderLemmas
pub mod RepeatLemmas
pub mod ParseLemmas
pub mod MarkLemmas
pub mod RuleLemmas
pub mod AtomLemmas
pub mod StatementLemmas
pub mod ScriptLemmas
pub mod LoopLemmas
pub mod WalkLemmas
pub mod PassedLemmas
pub mod PassedRules
pub mod PassedLoops
pub mod GroupLemmas
pub mod PrefixLemmas
pub mod OperandLemmas
pub mod DeclarationLemmas
pub mod RefusalLemmas
pub mod FilledLemmas

use Rattle.std.proofs.Common.{◌≤◌, length}
use Rattle.script_tokens.specs.Marks.{kind_is}
use Rattle.script_grammar.specs.ScriptReading.{after_mark, further}
use Rattle.script_grammar.proofs.PassedLoops.{IsPassing}
use Rattle.script_grammar.proofs.skip.skip_further.Given as goal

abbrev pub invariant-list : goal.invariant-list
invariant-list g l = record {
  left : IsPassing (kind_is l.fn.mark) (after_mark l.fn.mark g.X.Phrase.reader) l.tokens (further l.fn.mark g.X.Phrase.reader l.initial.tokens);
  no_longer : length l.tokens ≤ length l.initial.tokens;
}

abbrev pub decreases-list : goal.decreases-list
decreases-list g l = length l.tokens

use Rattle.std.proofs.Common.{◌≤◌, length}
use Rattle.script_grammar.specs.Reading.{repeated}
use Rattle.script_grammar.specs.ScriptReading.{next_is}
use Rattle.script_grammar.proofs.PassedLoops.{IsPassing}
use Rattle.script_grammar.proofs.skip.skip_repeated.Given as goal

abbrev pub invariant-list : goal.invariant-list
invariant-list g l = record {
  left : IsPassing g.X.Repeated.begins g.X.Phrase.reader l.tokens (repeated (next_is g.X.Repeated.begins) g.X.Phrase.reader l.initial.tokens);
  no_longer : length l.tokens ≤ length l.initial.tokens;
}

abbrev pub decreases-list : goal.decreases-list
decreases-list g l = length l.tokens

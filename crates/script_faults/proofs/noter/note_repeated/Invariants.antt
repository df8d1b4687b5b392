use Rattle.std.proofs.Common.{◌≤◌, length}
use Rattle.script_grammar.specs.Reading.{repeated}
use Rattle.script_grammar.specs.ScriptReading.{next_is}
use Rattle.script_grammar.proofs.WalkLemmas.{IsNoted}
use Rattle.script_faults.proofs.noter.note_repeated.Given as goal

abbrev pub invariant-list : goal.invariant-list
invariant-list g l = record {
  noted : IsNoted g.N.Noter.after g.N.Repeats.begins g.N.Noter.reader (g.N.Noter.known l.initial.noter) (g.N.Noter.known l.noter) l.tokens
      (repeated (next_is g.N.Repeats.begins) g.N.Noter.reader l.initial.tokens);
  no_longer : length l.tokens ≤ length l.initial.tokens;
}

abbrev pub decreases-list : goal.decreases-list
decreases-list g l = length l.tokens

use Rattle.std.proofs.Common.{◌≤◌, length}
use Rattle.script_tokens.specs.Marks.{kind_is}
use Rattle.script_grammar.specs.ScriptReading.{after_mark, further, with_front}
use Rattle.script_grammar.proofs.LoopLemmas.{IsLeft}
use Rattle.script_grammar.proofs.phrase.more_behind_mark_at.Given as goal

abbrev pub invariant-list : goal.invariant-list
invariant-list g l = record {
  left : IsLeft (kind_is l.fn.mark) (after_mark l.fn.mark g.X.Phrase.reader) l.list l.tokens (with_front l.fn.front (further l.fn.mark g.X.Phrase.reader l.initial.tokens));
  no_longer : length l.tokens ≤ length l.initial.tokens;
}

abbrev pub decreases-list : goal.decreases-list
decreases-list g l = length l.tokens

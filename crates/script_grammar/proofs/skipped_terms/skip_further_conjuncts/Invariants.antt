use Rattle.std.proofs.Common.{◌≤◌, length}
use Rattle.script_tokens.specs.Marks.{kind_is}
use Rattle.script_tokens.specs.declared.token.Mark.TheVariants as m
use Rattle.script_grammar.specs.ScriptReading.{after_mark, further, conjunct_read}
use Rattle.script_grammar.proofs.PassedLoops.{IsPassing}
use Rattle.script_grammar.proofs.skipped_terms.skip_further_conjuncts.Given as goal

abbrev pub invariant-list : goal.invariant-list
invariant-list l = record {
  left : IsPassing (kind_is m.And) (after_mark m.And conjunct_read) l.tokens (further m.And conjunct_read l.initial.tokens);
  no_longer : length l.tokens ≤ length l.initial.tokens;
}

abbrev pub decreases-list : goal.decreases-list
decreases-list l = length l.tokens

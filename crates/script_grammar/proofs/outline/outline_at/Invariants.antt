use Rattle.std.proofs.Common.{length}
use Rattle.script_grammar.specs.Beginning.{Begins}
use Rattle.script_grammar.proofs.outline.outline_at.Given as goal

abbrev pub invariant-list : goal.invariant-list
invariant-list l = Begins l.outline l.initial.tokens l.tokens

abbrev pub decreases-list : goal.decreases-list
decreases-list l = length l.tokens

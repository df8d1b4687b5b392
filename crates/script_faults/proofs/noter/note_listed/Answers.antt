use Rattle.std.proofs.Common.{sym, ◌∙◌}
use Rattle.script_grammar.proofs.WalkLemmas.{noted_none, noted_some}
use Rattle.script_faults.proofs.noter.note_listed.Goals as goal

pub returns-then-is_next-clause-gives : goal.returns-then-is_next-clause-gives
returns-then-is_next-clause-gives g c = noted_none g.N.Noter.after g.N.Noter.reader c.args.mark c.args.tokens.now (sym c.is_next.ensures ∙ c.if-is_next.true)

pub returns-clause-gives : goal.returns-clause-gives
returns-clause-gives g c = noted_some g.N.Noter.after g.N.Noter.reader c.args.mark c.args.tokens.now c.note_separated.new.tokens (sym c.is_next.ensures ∙ c.if-is_next.false) c.in_ok-note_separated.ensures.gives

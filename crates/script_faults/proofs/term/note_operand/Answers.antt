use Rattle.std.proofs.Common.{sym, ◌∙◌}
use Rattle.script_faults.proofs.TermLemmas.{noted_fixed, noted_sum}
use Rattle.script_faults.proofs.term.note_operand.Goals as goal

pub returns-then-is_next_words-clause-gives : goal.returns-then-is_next_words-clause-gives
returns-then-is_next_words-clause-gives c =
    noted_fixed c.args.variables.now _ _ c.args.tokens.now c.words_at.new.tokens c.args.found.now (sym c.is_next_words.ensures ∙ c.if-is_next_words.true) c.in_ok-place.ensures.gives

pub returns-clause-gives : goal.returns-clause-gives
returns-clause-gives c =
    noted_sum c.args.variables.now c.in_ok-term.term c.args.tokens.now c.note_term.new.tokens c.args.found.now c.note_term.new.found
    (sym c.is_next_words.ensures ∙ c.if-is_next_words.false) c.in_ok-term.ensures.gives

use Rattle.std.proofs.Common.{sym, ◌∙◌}
use Rattle.script_faults.proofs.PrintLemmas.{noted_named, noted_term, noted_words}
use Rattle.script_faults.proofs.print.note_item.Goals as goal

pub returns-then-is_next_words-clause-gives : goal.returns-then-is_next_words-clause-gives
returns-then-is_next_words-clause-gives c =
    noted_words c.args.variables.now c.args.tokens.now _ _ c.words_at.new.tokens c.args.found.now (sym c.is_next_words.ensures ∙ c.if-is_next_words.true) c.in_ok-start.ensures.gives

pub returns-then-is_next_name-clause-gives : goal.returns-then-is_next_name-clause-gives
returns-then-is_next_name-clause-gives c =
    noted_named c.args.variables.now c.args.tokens.now c.in_ok-spelt.spelt c.name_at.new.tokens c.args.found.now c.note_name.new.found
    (sym c.is_next_words.ensures ∙ c.if-is_next_words.false) (sym c.is_next_name.ensures ∙ c.if-is_next_name.true) c.in_ok-spelt.ensures.gives c.note_name.ensures

pub returns-clause-gives : goal.returns-clause-gives
returns-clause-gives c =
    noted_term c.args.variables.now c.args.tokens.now c.in_ok-place.place _ _ c.mark_at.new.tokens c.note_term.new.tokens c.mark_at-2.new.tokens c.args.found.now c.note_term.new.found
    (sym c.is_next_words.ensures ∙ c.if-is_next_words.false) (sym c.is_next_name.ensures ∙ c.if-is_next_name.false) c.in_ok-place.ensures.gives c.in_ok-note_term.ensures.gives c.in_ok-mark_at.ensures.gives

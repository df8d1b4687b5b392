use Rattle.std.proofs.Common.{sym, ◌∙◌}
use Rattle.script_faults.proofs.TermLemmas.{noted_more_leaves, noted_one_leaf}
use Rattle.script_faults.proofs.term.note_term.Goals as goal

pub returns-then-not-is_next_sign-clause-gives : goal.returns-then-not-is_next_sign-clause-gives
returns-then-not-is_next_sign-clause-gives c =
    noted_one_leaf c.args.variables.now c.args.bare _ _ c.args.tokens.now c.first_leaf_at.new.tokens c.args.found.now c.note_leaf.new.found c.leaf_sort.result c.in_ok-place.ensures.gives
    (sym c.is_next_sign.ensures ∙ c.if-not-is_next_sign.true) c.note_leaf.ensures c.leaf_sort.ensures

pub returns-clause-gives : goal.returns-clause-gives
returns-clause-gives c =
    noted_more_leaves c.args.variables.now c.args.bare _ _ c.args.tokens.now c.first_leaf_at.new.tokens c.note_leaves.new.tokens c.args.found.now c.note_leaf-2.new.found c.note_leaves.new.found
    c.in_ok-place.ensures.gives (sym c.is_next_sign.ensures ∙ c.if-not-is_next_sign.false) c.note_leaf-2.ensures c.in_ok-note_leaves.ensures.gives

use Rattle.script_grammar.proofs.atom.negation_of.Goals as goal

pub with_mark-requires : goal.with_mark-requires
with_mark-requires c = c.has_room.ensures c.if-has_room.true

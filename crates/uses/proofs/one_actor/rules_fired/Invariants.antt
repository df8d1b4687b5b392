use Rattle.uses.proofs.one_actor.rules_fired.Given as goal

abbrev pub ghosts-counted_rules : goal.ghosts-counted_rules
ghosts-counted_rules a = record { name = a.blank.name; parts = a.blank.parts }

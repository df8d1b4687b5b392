use Rattle.uses.proofs.own_log.firing_counts.Given as goal

abbrev pub ghosts-checked_counts : goal.ghosts-checked_counts
ghosts-checked_counts a = record { name = a.blank.name; parts = a.blank.parts }

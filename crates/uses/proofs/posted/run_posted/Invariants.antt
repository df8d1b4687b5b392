use Rattle.uses.proofs.posted.run_posted.Given as goal

abbrev pub ghosts-counted_run : goal.ghosts-counted_run
ghosts-counted_run a = record { name = a.blank.name; parts = a.blank.parts }

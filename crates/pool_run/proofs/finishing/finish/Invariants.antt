use Rattle.pool_run.proofs.finishing.finish.Given as goal

abbrev pub ghosts-finish_in : goal.ghosts-finish_in
ghosts-finish_in a = record { name = a.blank.name; parts = a.blank.parts }

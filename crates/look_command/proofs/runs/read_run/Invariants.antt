use Rattle.look_command.proofs.runs.read_run.Given as goal

abbrev pub ghosts-checked_run : goal.ghosts-checked_run
ghosts-checked_run a = record { name = a.blank.name; parts = a.blank.parts }

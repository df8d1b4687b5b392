use Rattle.join_command.proofs.replay.read_log.Given as goal

abbrev pub ghosts-check_bytes : goal.ghosts-check_bytes
ghosts-check_bytes a = record { name = a.blank.name; parts = a.blank.parts }

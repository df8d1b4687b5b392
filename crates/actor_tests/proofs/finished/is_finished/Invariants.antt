use Rattle.actor_tests.proofs.finished.is_finished.Given as goal

abbrev pub ghosts-finished_run : goal.ghosts-finished_run
ghosts-finished_run a = record { name = a.blank.name; parts = a.blank.parts }

use Rattle.actor_tests.proofs.by_cells.come_to_the_log.Given as goal

abbrev pub ghosts-run_by_cells : goal.ghosts-run_by_cells
ghosts-run_by_cells a = record { name = a.blank.name; parts = a.blank.parts }

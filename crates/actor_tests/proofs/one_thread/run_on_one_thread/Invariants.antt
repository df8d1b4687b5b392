use Rattle.actor_tests.proofs.one_thread.run_on_one_thread.Given as goal

abbrev pub ghosts-by_system : goal.ghosts-by_system
ghosts-by_system a = record { name = a.blank.name; parts = a.blank.parts }

use Rattle.actor_tests.proofs.system.a_thousand_rows_come_to_the_same_as_on_threads.Given as goal

abbrev pub ghosts-runs_building : goal.ghosts-runs_building
ghosts-runs_building g a = record { name = a.blank.name; parts = a.blank.parts }

use Rattle.actor_tests.proofs.turn.plays.Given as goal

abbrev pub ghosts-plays_with : goal.ghosts-plays_with
ghosts-plays_with a = record { name = a.blank.name; parts = a.blank.parts }

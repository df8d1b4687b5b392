use Rattle.actor_tests.proofs.joins.each_arrival_fires_the_least_match.Given as goal

abbrev pub ghosts-fires_the_least : goal.ghosts-fires_the_least
ghosts-fires_the_least g a = record { name = a.blank.name; parts = a.blank.parts }

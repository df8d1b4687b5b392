use Rattle.thread_tests.proofs.boards.fed_hall.Given as goal

abbrev pub ghosts-feed_hall : goal.ghosts-feed_hall
ghosts-feed_hall a = record { name = a.blank.name; parts = a.blank.parts }

use Rattle.matching_tests.proofs.patterns.a_pattern_takes_a_message_where_the_guard_is_true.Given as goal

abbrev pub ghosts-joins : goal.ghosts-joins
ghosts-joins g a = record { name = a.blank.name; parts = a.blank.parts }

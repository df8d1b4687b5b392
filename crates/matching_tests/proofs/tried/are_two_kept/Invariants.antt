use Rattle.matching_tests.proofs.tried.are_two_kept.Given as goal

abbrev pub ghosts-kept_of_three : goal.ghosts-kept_of_three
ghosts-kept_of_three a = record { name = a.blank.name; parts = a.blank.parts }

use Rattle.reading_tests.proofs.differing.line_of.Given as goal

abbrev pub ghosts-line_by : goal.ghosts-line_by
ghosts-line_by a = record { name = a.blank.name; parts = a.blank.parts }

use Rattle.expected_line.proofs.line.expected_text.Given as goal

abbrev pub ghosts-counted_text : goal.ghosts-counted_text
ghosts-counted_text a = record { name = a.blank.name; parts = a.blank.parts }

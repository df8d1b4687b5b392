use Rattle.check_logs.proofs.answer.answer_to.Given as goal

abbrev pub ghosts-counted_answer : goal.ghosts-counted_answer
ghosts-counted_answer a = record { name = a.blank.name; parts = a.blank.parts }

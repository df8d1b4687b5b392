use Rattle.actor_tests.proofs.turn.a_message_without_its_field_is_spent.Given as goal

abbrev pub ghosts-are_spent : goal.ghosts-are_spent
ghosts-are_spent g a = record { name = a.blank.name; parts = a.blank.parts }

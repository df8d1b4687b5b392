use Rattle.actor_tests.proofs.settling.six_hundred_posts.Given as goal

abbrev pub ghosts-are_settled : goal.ghosts-are_settled
ghosts-are_settled a = record { name = a.blank.name; parts = a.blank.parts }

use Rattle.actor_pool.proofs.feeding.feed_beside.Given as goal

abbrev pub ghosts-post_all : goal.ghosts-post_all
ghosts-post_all g a = record { name = a.blank.name; parts = a.blank.parts }

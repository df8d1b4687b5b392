use Rattle.std.proofs.lemmas.List.Elements.{All-set}
use Rattle.actor_pool.specs.Posters.{IsPosterOf}
use Rattle.actor_tests.proofs.finished.is_posted.Goals as goal

pub returns-clause-own : goal.returns-clause-own
returns-clause-own c = All-set (IsPosterOf c.args.pool.now) c.args.posters.now.items 0 c.post.new.self c.post.ensures.own c.requires.own

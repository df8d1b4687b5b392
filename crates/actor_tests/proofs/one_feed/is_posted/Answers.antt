use Rattle.std.proofs.lemmas.List.Elements.{All-set}
use Rattle.actor_pool.specs.Posters.{IsPosterOf}
use Rattle.actor_tests.proofs.one_feed.is_posted.Goals as goal

pub returns-clause-own : goal.returns-clause-own
returns-clause-own g c = All-set (IsPosterOf c.args.pool.now) c.args.posters.now.items 0 c.feed.new.poster c.feed.ensures.poster c.requires.own

use Rattle.std.proofs.Common.{rules, sym}
use Rattle.post_ring.specs.Links.{stamped}
use Rattle.cell_links.proofs.TagLemmas.{outward-set}
use Rattle.cell_links.proofs.PosterLemmas.{pushed, refused}
use Rattle.cell_links.proofs.feed_links.FeedLinks.push.Goals as goal

pub returns-clause-tag : goal.returns-clause-tag
returns-clause-tag c = outward-set c.args.self.now.outward.items c.args.actor c.index_mut-one.result.now c.push.new.self c.requires.exists (sym c.index_mut-one.ensures.value) c.push.ensures.identity

pub returns-clause-sent : goal.returns-clause-sent
returns-clause-sent c =
    pushed c.args.self.now.outward.items c.args.actor c.index_mut-one.result.now c.push.new.self c.args.self.now.in_order (sym c.index_mut-one.ensures.value) c.requires.exists (stamped c.args.message 0) c.push.result c.push.ensures.sent

pub returns-clause-full : goal.returns-clause-full
returns-clause-full c =
    refused c.args.self.now.outward.items c.args.actor c.index_mut-one.result.now c.push.new.self c.args.self.now.in_order (sym c.index_mut-one.ensures.value) c.requires.exists (stamped c.args.message 0) c.args.message c.push.result c.push.ensures.full

use Rattle.std.proofs.Common.{◌≡◌, ◌∙◌, ap, sym, subst, map, All, List, arith}
use Rattle.cell_links.specs.Ends.{poster_tag}
use Rattle.cell_links.specs.Making.{AllNew}
use Rattle.cell_links.proofs.ConnectingLemmas.{linked-none, links-wired, links-new, new-none, targets-same}
use Rattle.cell_links.proofs.connecting.connect.Goals as goal

pub connect_feeds-requires-clause-none : goal.connect_feeds-requires-clause-none
connect_feeds-requires-clause-none c = linked-none 0 _ c.in_ok-inwards.inwards.items c.in_ok-inwards.ensures.empty

pub returns-clause-wired : goal.returns-clause-wired
returns-clause-wired c =
    let posters = c.in_ok-posters.posters.items in
    let made = c.in_ok-links.ensures in
    links-wired c.in_ok-links.links.items posters c.connect_actors.new.inwards.items c.in_ok-outwards.outwards.items made.inward made.outward (c.in_ok-outwards.ensures.linked (map poster_tag posters) c.in_ok-posters.ensures.linked)

pub returns-clause-targets : goal.returns-clause-targets
returns-clause-targets c = targets-same c.in_ok-links.links.items c.in_ok-outwards.outwards.items c.in_ok-links.ensures.outward ∙ c.in_ok-outwards.ensures.targets

pub returns-clause-fresh : goal.returns-clause-fresh
returns-clause-fresh c =
    let made = c.in_ok-links.ensures in
    links-new c.args.ring c.in_ok-links.links.items c.connect_actors.new.inwards.items c.in_ok-outwards.outwards.items made.inward made.outward (c.in_ok-outwards.ensures.fresh c.in_ok-posters.ensures.fresh) c.in_ok-outwards.ensures.sends

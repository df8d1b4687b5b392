use Rattle.std.proofs.Common.{refl}
use Rattle.cell_links.proofs.MakingLemmas.{connects-set, still-new}
use Rattle.cell_links.proofs.making.link_to.Goals as goal

pub returns-clause-linked : goal.returns-clause-linked
returns-clause-linked c =
    let made = c.in_ok-first.ensures in
    connects-set c.args.source c.args.target c.args.inwards.now.items (record { target = c.args.target; link = c.in_ok-first.first }) (record { source = c.args.source; link = c.in_ok-first.second })
    c.index_mut-inward.result.now c.push.new.self c.requires.exists c.index_mut-inward.ensures.value c.in_ok-push.ensures.ok refl refl made.identity

pub returns-clause-fresh : goal.returns-clause-fresh
returns-clause-fresh c =
    let made = c.in_ok-first.ensures in
    still-new c.args.target c.args.inwards.now.items (record { source = c.args.source; link = c.in_ok-first.second }) c.index_mut-inward.result.now c.push.new.self c.requires.exists c.index_mut-inward.ensures.value c.in_ok-push.ensures.ok made.second.0

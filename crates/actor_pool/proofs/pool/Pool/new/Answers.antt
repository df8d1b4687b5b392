use Rattle.std.proofs.Common.{arith, ap, sym, subst, ◌∙◌, ◌≡◌, List, All, length, map}
use Rattle.std.proofs.lemmas.List.{length-map}
use Rattle.cell_links.specs.declared.feed_links.FeedLinks as ends
use Rattle.cell_links.specs.Ends.{link_count}
use Rattle.actor_cells.specs.declared.cell.Cell.{Cell}
use Rattle.actor_cells.specs.Lawful.{cell_tag}
use Rattle.actor_cells.specs.AllLawful.{AreLawful}
use Rattle.actor_cells.specs.Prepared.{IsNewPoster}
use Rattle.actor_pool.specs.Posters.{feed_ends}
use Rattle.actor_pool.proofs.MakeLemmas.{made-whole, All-ends, prepared-links}
use Rattle.actor_pool.proofs.pool.Pool.new.Goals as goal

pub behind_locks-requires-clause-some : goal.behind_locks-requires-clause-some
behind_locks-requires-clause-some c =
    let n = ap length c.into_cells.ensures in
    let m = c.in_ok-cells.ensures.prepared.count in
    let k = c.requires.typed.some_actors in
    omega (arith, n, m, k)

pub behind_locks-requires-clause-few : goal.behind_locks-requires-clause-few
behind_locks-requires-clause-few c =
    let n = ap length c.into_cells.ensures in
    let m = c.in_ok-cells.ensures.prepared.count in
    let k = c.requires.typed.few_actors in
    omega (arith, n, m, k)

pub behind_locks-requires-clause-feeds : goal.behind_locks-requires-clause-feeds
behind_locks-requires-clause-feeds c =
    let m = c.in_ok-cells.ensures.prepared.feed_count in
    let k = c.requires.feeds in
    omega (arith, m, k)

pub behind_locks-requires-clause-lawful : goal.behind_locks-requires-clause-lawful
behind_locks-requires-clause-lawful c = subst AreLawful (sym c.into_cells.ensures) c.in_ok-cells.ensures.lawful

pub behind_locks-requires-clause-links : goal.behind_locks-requires-clause-links
behind_locks-requires-clause-links c =
    subst (λ (l : List Cell). All (λ (e : ends.FeedLinks). link_count e ≡ length l) c.in_ok-cells.ends.items) (sym c.into_cells.ensures) (prepared-links _ _ _ _ _ _ c.in_ok-cells.ensures.prepared)

pub returns-clause-whole : goal.returns-clause-whole
returns-clause-whole c =
    let m = c.in_ok-made.ensures in
    let p = c.in_ok-cells.ensures in
    made-whole _ _ _ _ _ _ _ _ _ p.prepared p.wired m.own m.first m.feeds m.posters m.ends (m.tags ∙ ap (map cell_tag) c.into_cells.ensures)

pub returns-clause-actors : goal.returns-clause-actors
returns-clause-actors c = c.in_ok-made.ensures.actors ∙ ap length c.into_cells.ensures ∙ c.in_ok-cells.ensures.prepared.count

pub returns-clause-count : goal.returns-clause-count
returns-clause-count c =
    let m = c.in_ok-made.ensures.ends in
    sym (length-map _ feed_ends) ∙ ap length m ∙ c.in_ok-cells.ensures.prepared.feed_count

pub returns-clause-fresh : goal.returns-clause-fresh
returns-clause-fresh c = All-ends (IsNewPoster (length c.args.plan.now.actors) c.args.ring) _ _ c.in_ok-made.ensures.ends c.in_ok-cells.ensures.prepared.each

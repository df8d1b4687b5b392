use Rattle.std.proofs.Common.{arith, ◌+◌, ◌∙◌, All, length, subst, sym}
use Rattle.fair_semantics.specs.Fits.{IsFrom1To}
use Rattle.actor_pool.specs.Helpers.{actor_count, seat_of}
use Rattle.pool_run.specs.Running.{IsReady}
use Rattle.pool_run.proofs.BackLemmas.{all-fit, joinable, returned-count}
use Rattle.pool_run.proofs.HandLemmas.{first-of}
use Rattle.pool_run.proofs.RunLemmas.{count-now, feeds-count, feeds-exist, feeds-fit, sent-now, whole-now}
use Rattle.pool_run.proofs.running.run_with.Goals as goal

pub feed_parts-requires-clause-exist : goal.feed_parts-requires-clause-exist
feed_parts-requires-clause-exist g c = feeds-exist c.args.plan.now (actor_count c.in_ok-pool.pool) c.args.feeds c.in_ok-pool.ensures.actors c.requires.posts

pub work_parts-requires-clause-ready : goal.work_parts-requires-clause-ready
work_parts-requires-clause-ready g c = subst (λ n. All (IsReady g.S.TicketSource.belongs g.B.Beside.fits n) c.args.workers.items) (sym c.in_ok-pool.ensures.actors) c.requires.ready

pub join_helpers-requires-clause-first : goal.join_helpers-requires-clause-first
join_helpers-requires-clause-first g c =
    let p = c.in_ok-pool.pool in
    let parts = c.in_ok-parts.parts.items in
    let crew = c.in_ok-crew.crew.items in
    let back = c.in_ok-posters.field-0 in
    let count = returned-count p g.B.Beside.fits parts crew back c.in_ok-posters.ensures.returned in
    first-of p (length parts + length crew) (length back.helpers.items) c.work_parts.new.helper (omega (arith, count)) (c.in_ok-crew.ensures.first (length parts) c.in_ok-parts.ensures.first)

pub join_helpers-requires-clause-joinable : goal.join_helpers-requires-clause-joinable
join_helpers-requires-clause-joinable g c =
    let parts = c.in_ok-parts.parts.items in
    let crew = c.in_ok-crew.crew.items in
    let same = c.in_ok-crew.ensures.tags in
    joinable c.in_ok-pool.pool g.B.Beside.fits parts crew c.in_ok-posters.field-0 (seat_of c.in_ok-pool.helper).tags (seat_of c.feed_parts.new.helper).tags (seat_of c.work_parts.new.helper).tags
    c.in_ok-posters.ensures.returned c.in_ok-parts.ensures.known (sym (same ∙ c.in_ok-parts.ensures.tags)) c.in_ok-crew.ensures.known (sym same)

pub finish-requires-clause-feeds : goal.finish-requires-clause-feeds
finish-requires-clause-feeds g c =
    let count = count-now c.in_ok-pool.pool c.args.feeds c.in_ok-parts.parts.items c.in_ok-posters.field-0.posters.items c.in_ok-parts.ensures.posts c.in_ok-posters.ensures.returned.fed in
    subst (IsFrom1To 16) (sym count) c.requires.count

pub finish-requires-clause-whole : goal.finish-requires-clause-whole
finish-requires-clause-whole g c =
    let back = c.in_ok-besides.ensures in
    whole-now c.args.plan.now c.args.limits c.in_ok-pool.pool c.in_ok-pool.posters.items c.in_ok-pool.helper c.in_ok-parts.parts.items c.in_ok-posters.field-0.posters.items c.join_helpers.new.helper
    c.in_ok-pool.ensures.whole c.in_ok-parts.ensures.posters c.in_ok-posters.ensures.returned.fed back.own back.first (back.tags ∙ c.in_ok-crew.ensures.tags ∙ c.in_ok-parts.ensures.tags)

pub returns-clause-linked : goal.returns-clause-linked
returns-clause-linked g c =
    let parts = c.in_ok-parts.ensures in
    let sent = sent-now c.args.plan.now c.in_ok-pool.pool (length c.args.plan.now.actors) c.args.ring c.in_ok-pool.posters.items c.args.feeds c.in_ok-parts.parts.items c.in_ok-posters.field-0.posters.items
    parts.posters parts.posts c.in_ok-pool.ensures.fresh c.in_ok-posters.ensures.returned.fed (feeds-fit c.args.plan.now c.args.feeds c.requires.posts) in
    c.in_ok-run.ensures.linked c.args.feeds sent

pub returns-clause-scheduled : goal.returns-clause-scheduled
returns-clause-scheduled g c =
    let parts = c.in_ok-parts.ensures in
    let sent = sent-now c.args.plan.now c.in_ok-pool.pool (length c.args.plan.now.actors) c.args.ring c.in_ok-pool.posters.items c.args.feeds c.in_ok-parts.parts.items c.in_ok-posters.field-0.posters.items
    parts.posters parts.posts c.in_ok-pool.ensures.fresh c.in_ok-posters.ensures.returned.fed (feeds-fit c.args.plan.now c.args.feeds c.requires.posts) in
    c.in_ok-run.ensures.scheduled c.args.feeds sent

pub returns-clause-back : goal.returns-clause-back
returns-clause-back g c =
    let parts = c.in_ok-parts.ensures in
    let count = returned-count c.in_ok-pool.pool g.B.Beside.fits c.in_ok-parts.parts.items c.in_ok-crew.crew.items c.in_ok-posters.field-0 c.in_ok-posters.ensures.returned in
    let feeds = feeds-count c.args.feeds c.in_ok-parts.parts.items parts.posts in
    omega (arith, c.in_ok-besides.ensures.count, count, c.in_ok-crew.ensures.count, feeds)

pub returns-clause-fits : goal.returns-clause-fits
returns-clause-fits g c =
    let parts = c.in_ok-parts.ensures in
    let back = c.in_ok-besides.ensures in
    let fed = c.in_ok-posters.ensures.returned.fed in
    let whole = whole-now c.args.plan.now c.args.limits c.in_ok-pool.pool c.in_ok-pool.posters.items c.in_ok-pool.helper c.in_ok-parts.parts.items c.in_ok-posters.field-0.posters.items c.join_helpers.new.helper
    c.in_ok-pool.ensures.whole parts.posters fed back.own back.first (back.tags ∙ c.in_ok-crew.ensures.tags ∙ parts.tags) in
    let sent = sent-now c.args.plan.now c.in_ok-pool.pool (length c.args.plan.now.actors) c.args.ring c.in_ok-pool.posters.items c.args.feeds c.in_ok-parts.parts.items c.in_ok-posters.field-0.posters.items
    parts.posters parts.posts c.in_ok-pool.ensures.fresh fed (feeds-fit c.args.plan.now c.args.feeds c.requires.posts) in
    let linked = c.in_ok-run.ensures.linked c.args.feeds sent in
    all-fit g.B.Beside.fits c.args.plan.now c.args.limits _ c.in_ok-posters.field-0.posters.items c.args.feeds (seat_of c.join_helpers.new.helper) c.in_ok-run.run' c.in_ok-besides.besides.items whole.tags
    linked.fits_plan.actors sent c.in_ok-run.ensures.seen back.later

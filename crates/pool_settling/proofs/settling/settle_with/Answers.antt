use Rattle.std.proofs.Common.{◌≡◌, length, arith}
use Rattle.pool_settling.proofs.SettleLemmas.{drained_feeds, drained_members, run_few, run_from, run_linked, run_scheduled}
use Rattle.pool_settling.proofs.settling.settle_with.Goals as goal

pub bring_rest-requires-clause-members : goal.bring_rest-requires-clause-members
bring_rest-requires-clause-members g c = drained_members c.args.plan.now c.args.limits c.args.posters.items c.args.cells.items c.in_ok-actors.actors.items c.requires.tags c.in_ok-actors.ensures.drained c.requires.typed

pub bring_rest-requires-clause-feeds : goal.bring_rest-requires-clause-feeds
bring_rest-requires-clause-feeds g c = drained_feeds c.args.plan.now c.args.limits c.args.posters.items c.args.cells.items c.in_ok-actors.actors.items c.requires.tags c.in_ok-actors.ensures.drained (length c.args.rest) c.requires.rest

pub returns-clause-linked : goal.returns-clause-linked
returns-clause-linked g c =
    let feeds : c.len-feeds.result ≡ length c.args.posters.items = omega (arith, c.len-feeds.ensures, c.args.posters.ok.0) in
    run_linked c.args.plan.now c.args.limits c.args.posters.items c.args.cells.items c.args.rest c.requires.typed c.requires.limits c.requires.rules c.requires.feeds c.requires.rest c.requires.tags
    c.in_ok-actors.actors.items c.bring_rest.new.actors.items c.bring_posts.new.actors.items c.in_ok-actors.ensures.drained c.in_ok-bring_rest.ensures.fed c.in_ok-bring_rest.ensures.on c.in_ok-bring_posts.ensures.brought
    c.in_ok-bring_posts.ensures.none record { version = c.stamped.result; limits = c.args.limits; feeds = c.len-feeds.result; actors = c.into_runs.result } (λ i. record { version = c.stamped.ensures i; limits = c.args.limits; feeds = feeds i; actors = c.into_runs.ensures i })

pub returns-clause-scheduled : goal.returns-clause-scheduled
returns-clause-scheduled g c =
    let feeds : c.len-feeds.result ≡ length c.args.posters.items = omega (arith, c.len-feeds.ensures, c.args.posters.ok.0) in
    run_scheduled c.args.plan.now c.args.limits c.args.posters.items c.args.cells.items c.args.rest c.requires.typed c.requires.limits c.requires.rules c.requires.feeds c.requires.rest c.requires.tags
    c.in_ok-actors.actors.items c.bring_rest.new.actors.items c.bring_posts.new.actors.items c.in_ok-actors.ensures.drained c.in_ok-bring_rest.ensures.fed c.in_ok-bring_rest.ensures.on c.in_ok-bring_posts.ensures.brought
    c.in_ok-bring_posts.ensures.none record { version = c.stamped.result; limits = c.args.limits; feeds = c.len-feeds.result; actors = c.into_runs.result } (λ i. record { version = c.stamped.ensures i; limits = c.args.limits; feeds = feeds i; actors = c.into_runs.ensures i })

pub returns-clause-history : goal.returns-clause-history
returns-clause-history g c =
    let feeds : c.len-feeds.result ≡ length c.args.posters.items = omega (arith, c.len-feeds.ensures, c.args.posters.ok.0) in
    run_from c.args.plan.now c.args.limits c.args.posters.items c.args.cells.items c.args.rest c.requires.typed c.requires.limits c.requires.rules c.requires.feeds c.requires.rest c.requires.tags
    c.in_ok-actors.actors.items c.bring_rest.new.actors.items c.bring_posts.new.actors.items c.in_ok-actors.ensures.drained c.in_ok-bring_rest.ensures.fed c.in_ok-bring_rest.ensures.on c.in_ok-bring_posts.ensures.brought
    c.in_ok-bring_posts.ensures.none record { version = c.stamped.result; limits = c.args.limits; feeds = c.len-feeds.result; actors = c.into_runs.result } (λ i. record { version = c.stamped.ensures i; limits = c.args.limits; feeds = feeds i; actors = c.into_runs.ensures i })

pub returns-clause-few : goal.returns-clause-few
returns-clause-few g c =
    let feeds : c.len-feeds.result ≡ length c.args.posters.items = omega (arith, c.len-feeds.ensures, c.args.posters.ok.0) in
    run_few c.args.plan.now c.args.limits c.args.posters.items c.args.cells.items c.args.rest c.requires.typed c.requires.limits c.requires.rules c.requires.feeds c.requires.rest c.requires.tags
    c.in_ok-actors.actors.items c.bring_rest.new.actors.items c.bring_posts.new.actors.items c.in_ok-actors.ensures.drained c.in_ok-bring_rest.ensures.fed c.in_ok-bring_rest.ensures.on c.in_ok-bring_posts.ensures.brought
    c.in_ok-bring_posts.ensures.none record { version = c.stamped.result; limits = c.args.limits; feeds = c.len-feeds.result; actors = c.into_runs.result } (λ i. record { version = c.stamped.ensures i; limits = c.args.limits; feeds = feeds i; actors = c.into_runs.ensures i }) c.in_ok-bring_rest.ensures.weight

use Rattle.std.proofs.Common.{rules, ◌≡◌, ◌∙◌, ◌+◌, ◌∷◌, [], ◌++◌, length, drop, refl, ap}
use Rattle.std.proofs.lemmas.List.{length-append}
use Rattle.std.specs.List.{AllByRecursion}
use Rattle.std.specs.Prelude.{Err}
use Rattle.join_base.proofs.EachLemmas.{each_append}
use Rattle.fair_semantics.specs.Fits.{PostFits}
use Rattle.command_words.specs.Views.{words_in}
use Rattle.script_files.specs.declared.stop.Stop.TheVariants.{NoMemory}
use Rattle.script_files.proofs.FeedsLemmas.{feed_more, feed_stopped, feeds_cut, none_so_far}
use Rattle.script_files.proofs.load.load_feeds.Goals as goal

pub loop-name-init : goal.loop-name-init
loop-name-init g c = rw c.new-feeds.ensures.empty (record {
  told = none_so_far c.args.plan.now (words_in c.args.names.now) (g.I.Inputs.tells c.args.inputs.now);
  count = refl;
  fits = tt;
  quiet = refl;
})

pub returns-in_err-push-in-Ok-clause-told : goal.returns-in_err-push-in-Ok-clause-told
returns-in_err-push-in-Ok-clause-told g c =
    let plan = c.args.plan.now in
    let names = words_in c.args.names.now in
    let index = c.loop-name.name-index in
    let number = length c.loop-name.feeds + 1 in
    let feeds = c.loop-name.feeds ++ c.in-Ok.posts ∷ [] in
    let is : c.from_residual.result ≡ Err NoMemory = search rules in
    rw is (feeds_cut plan names (g.I.Inputs.tells c.args.inputs.now) (g.I.Inputs.tells c.load_feed.new.inputs) (number + 1) feeds (words_in (drop (index + 1) c.args.names.now))
    (feed_more plan names c.args.names.now index c.name-item.result c.loop-name-test.true c.name-item.is (g.I.Inputs.tells c.args.inputs.now) (g.I.Inputs.tells c.loop-name.inputs) (g.I.Inputs.tells c.load_feed.new.inputs) number c.loop-name.feeds c.in-Ok.posts c.loop-name.invariant.told (rw c.len.ensures.count at c.in-Ok.ensures.told)))

pub returns-in-Err-clause-told : goal.returns-in-Err-clause-told
returns-in-Err-clause-told g c =
    let number = length c.loop-name.feeds + 1 in
    feed_stopped c.args.plan.now (words_in c.args.names.now) c.args.names.now c.loop-name.name-index c.name-item.result c.loop-name-test.true c.name-item.is (g.I.Inputs.tells c.args.inputs.now) (g.I.Inputs.tells c.loop-name.inputs)
    (g.I.Inputs.tells c.load_feed.new.inputs) number c.loop-name.feeds c.in-Err.stop c.loop-name.invariant.told (rw c.len.ensures.count at c.in-Err.ensures.told)

pub loop-name-preserved : goal.loop-name-preserved
loop-name-preserved g c =
    let plan = c.args.plan.now in
    let names = words_in c.args.names.now in
    let index = c.loop-name.name-index in
    let number = length c.loop-name.feeds + 1 in
    let grown = length-append c.loop-name.feeds (c.in-Ok.posts ∷ []) in
    rw c.in_ok-push-in-Ok.ensures.ok (record {
      told = rw grown (feed_more plan names c.args.names.now index c.name-item.result c.loop-name-test.true c.name-item.is (g.I.Inputs.tells c.args.inputs.now) (g.I.Inputs.tells c.loop-name.inputs) (g.I.Inputs.tells c.load_feed.new.inputs) number c.loop-name.feeds c.in-Ok.posts c.loop-name.invariant.told (rw c.len.ensures.count at c.in-Ok.ensures.told));
      count = grown ∙ ap (λ n. n + 1) c.loop-name.invariant.count;
      fits = each_append (AllByRecursion (PostFits plan)) c.loop-name.feeds (c.in-Ok.posts ∷ []) c.loop-name.invariant.fits (c.in-Ok.ensures.fits, tt);
      quiet = c.in-Ok.ensures.cause ∙ c.loop-name.invariant.quiet;
    })

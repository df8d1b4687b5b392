use Rattle.std.proofs.Common.{◌∙◌, List, Some, ap, sym}
use Rattle.std.specs.Prelude.{ℕ}
use Rattle.join_base.specs.declared.message.Message.{Message}
use Rattle.pool_settling.proofs.EndLemmas.{go_trans}
use Rattle.pool_settling.proofs.FeedLemmas.{have_on, more_rest, rest_more}
use Rattle.pool_settling.proofs.rounds.bring_rest.Goals as goal

pub loop-place-preserved : goal.loop-place-preserved
loop-place-preserved g c =
    let before = c.loop-place.invariant in
    let one = c.in_ok-bring_feed.ensures in
    record {
      members = one.members;
      have = have_on _ _ _ before.have one.on;
      fed = rest_more c.args.rest.now c.loop-place.place _ (c.at.ensures.item ∙ ap (λ (posts : List (ℕ × Message)). Some posts) (sym c.as_slice-posts.ensures.same)) _ _ _ before.fed one.fed;
      on = go_trans _ _ _ before.on one.on;
      weight = more_rest c.args.rest.now c.loop-place.place _ _ _ _ (c.at.ensures.item ∙ ap (λ (posts : List (ℕ × Message)). Some posts) (sym c.as_slice-posts.ensures.same)) before.weight one.weight;
    }

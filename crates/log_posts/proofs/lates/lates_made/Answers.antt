use Rattle.std.proofs.Common.{◌∙◌, ◌++◌, ap}
use Rattle.join_base.specs.Late.{late_list}
use Rattle.join_base.specs.declared.message.Source.TheVariants.{Feed}
use Rattle.log_posts.specs.Lates.{feed_counts}
use Rattle.log_posts.proofs.LatesLemmas.{lates_none, lates_some}
use Rattle.log_posts.proofs.lates.lates_made.Goals as goal
use Rattle.log_posts.proofs.lates.lates_made.Goals.{then-may+in_ok-push_actors, else-may}

pub returns : goal.returns
returns c =
    let fed = c.in_ok-push_feeds.ensures ∙ ap (λ ls. ls ++ late_list (λ k. Feed k) 1 (feed_counts c.args.may c.args.read.now 1 c.args.feeds)) c.new-late.ensures.empty in
    elim c.if-may.branch [
      | then-may+in_ok-push_actors w ↦ lates_some c.args.may c.args.read.now c.args.feeds c.args.entries.now c.args.links.now c.push_feeds.new.late c.if-may.late fed w.if-may.true (w.late-is ∙ w.in_ok-push_actors.ensures)
      | else-may w ↦ lates_none c.args.may c.args.read.now c.args.feeds c.args.entries.now c.args.links.now c.push_feeds.new.late c.if-may.late fed w.if-may.false w.late-is
    ]

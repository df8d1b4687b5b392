use Rattle.std.proofs.Common.{◌∙◌}
use Rattle.log_posts.specs.Posts.{link_posts}
use Rattle.log_replay.proofs.SharedLemmas.{posts_at}
use Rattle.log_replay.proofs.shared.posts_shown.Goals as goal

pub returns : goal.returns
returns c = c.new.ensures ∙ (λ i. link_posts c.args.to (c.plain_at-made.ensures i) (c.entries_at-lines.ensures i)) ∙ posts_at c.args.to c.args.reads.now c.args.runs.now c.args.from

use Rattle.std.proofs.Common.{◌≡◌, drop}
use Rattle.log_posts.specs.Posts.{link_posts}
use Rattle.log_posts.proofs.posts.first_made.Given as goal

abbrev pub invariant-loop-place : goal.invariant-loop-place
invariant-loop-place l = link_posts l.to (drop l.place l.made) (drop l.place l.lines) ≡ link_posts l.to l.made l.lines

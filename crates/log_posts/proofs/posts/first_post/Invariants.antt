use Rattle.std.proofs.Common.{◌≡◌, drop}
use Rattle.std.specs.List.{filter_map}
use Rattle.fair_semantics.specs.Linked.{effect_for}
use Rattle.log_posts.proofs.posts.first_post.Given as goal

abbrev pub invariant-loop-place : goal.invariant-loop-place
invariant-loop-place l = filter_map (effect_for l.to l.stamp) (drop l.place l.effects) ≡ filter_map (effect_for l.to l.stamp) l.effects

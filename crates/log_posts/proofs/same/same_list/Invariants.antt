use Rattle.std.proofs.Common.{◌≡◌, drop}
use Rattle.std.specs.Cmp.Lexicographic.{pointwise}
use Rattle.log_posts.proofs.same.same_list.Given as goal

abbrev pub invariant-loop-place : goal.invariant-loop-place
invariant-loop-place g l = pointwise g.T.Same.same (drop l.place l.own) (drop l.place l.other) ≡ pointwise g.T.Same.same l.own l.other

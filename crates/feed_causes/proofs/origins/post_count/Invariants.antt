use Rattle.std.proofs.Common.{◌≡◌, ◌≤◌, count_by, take}
use Rattle.feed_causes.specs.Causes.{is_post_to}
use Rattle.feed_causes.proofs.origins.post_count.Given as goal

abbrev pub invariant-loop-effect : goal.invariant-loop-effect
invariant-loop-effect l = record {
  counted : l.count ≡ count_by (is_post_to l.fn.to) (take l.effect-index l.effects);
  within : l.count ≤ l.effect-index;
}

use Rattle.std.proofs.Common.{◌≡◌, drop}
use Rattle.log_posts.proofs.lates.behind.Given as goal

abbrev pub invariant-loop : goal.invariant-loop
invariant-loop l = l.rest ≡ drop l.counter l.fn.link

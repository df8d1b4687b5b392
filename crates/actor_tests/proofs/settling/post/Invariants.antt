use Rattle.std.proofs.Common.{◌≡◌}
use Rattle.cell_links.specs.Ends.{link_count, poster_tag}
use Rattle.actor_tests.proofs.settling.post.Given as goal

abbrev pub invariant-loop : goal.invariant-loop
invariant-loop l = record {
  tag : poster_tag l.poster ≡ poster_tag l.initial.poster;
  count : link_count l.poster ≡ 1;
}

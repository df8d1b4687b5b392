use Rattle.std.proofs.Common.{◌≡◌, drop}
use Rattle.std.specs.List.{list_any}
use Rattle.actor_cells.specs.Lawful.{is_post_to}
use Rattle.actor_cells.proofs.targets.body_names.Given as goal

abbrev pub invariant-loop-statement : goal.invariant-loop-statement
invariant-loop-statement l = list_any (is_post_to l.target) (drop l.statement-index l.statement-items) ≡ list_any (is_post_to l.target) l.statement-items

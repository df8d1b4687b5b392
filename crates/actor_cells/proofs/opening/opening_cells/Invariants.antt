use Rattle.std.proofs.Common.{◌≡◌, ℕ, ◌<◌, length, map}
use Rattle.std.specs.List.{AllByRecursion}
use Rattle.fair_semantics.specs.Fair.{setting_of}
use Rattle.fair_semantics.specs.Fits.{RuleFits}
use Rattle.cell_links.specs.declared.ends.ActorLinks.{ActorLinks}
use Rattle.actor_cells.specs.declared.cell.Cell.{Cell}
use Rattle.actor_cells.specs.Lawful.{held_in}
use Rattle.actor_cells.specs.Targets.{new_actors}
use Rattle.actor_cells.proofs.opening.opening_cells.Given as goal

abbrev pub invariant-loop-own : goal.invariant-loop-own
invariant-loop-own l = record {
  index : l.index ≡ length l.yielded;
  actors : map held_in l.cells.items ≡ new_actors l.plan l.limits l.feeds l.index;
  inward : map (λ (c : Cell). c.inward.items) l.cells.items ≡ map (λ (k : ActorLinks). k.inward.items) l.yielded;
  outward : map (λ (c : Cell). c.outward.items) l.cells.items ≡ map (λ (k : ActorLinks). k.outward.items) l.yielded;
  texts : (k : ℕ) → k < l.index → AllByRecursion RuleFits (setting_of l.plan k l.limits).rules;
}

use Rattle.std.proofs.Common.{◌≡◌, length, map}
use Rattle.cell_links.specs.Ends.{poster_tag}
use Rattle.actor_cells.specs.AllLawful.{AreLawful}
use Rattle.actor_cells.specs.Lawful.{cell_tag}
use Rattle.actor_cells.specs.Prepared.{cells_of}
use Rattle.actor_tests.proofs.by_cells.are_posted.Given as goal

abbrev pub invariant-rows : goal.invariant-rows
invariant-rows g l = record {
  lawful : AreLawful (cells_of l.cells);
  tags : map cell_tag (cells_of l.cells) ≡ map cell_tag (cells_of l.initial.cells);
  count : length (cells_of l.cells) ≡ length (cells_of l.initial.cells);
  poster : poster_tag l.poster ≡ poster_tag l.initial.poster;
}

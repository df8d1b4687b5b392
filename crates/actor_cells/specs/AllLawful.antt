-- When all cells of a list are lawful.
use Rattle.std.specs.Prelude.{List, All}
use Rattle.actor_cells.specs.declared.cell.Cell.{Cell}
use Rattle.actor_cells.specs.Lawful.{IsLawful}

abbrev pub AreLawful : List Cell → Type 0
AreLawful cells = All IsLawful cells

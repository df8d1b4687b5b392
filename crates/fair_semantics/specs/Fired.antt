-- A firing in a block of its own.
use Rattle.std.specs.Prelude.{Option, Some, None}
use Rattle.std.specs.Global.{Box}
use Rattle.fair_semantics.specs.declared.run.Firing.{Firing}

abbrev pub unboxed : Option (Box Firing) → Option Firing
unboxed None = None
unboxed (Some boxed) = Some boxed.value

-- Bytes in place or in a block.
use Rattle.std.specs.Prelude.{ℕ, List}
use Rattle.join_base.specs.declared.stored.Stored.{Stored}
use Rattle.join_base.specs.declared.stored.Stored.TheVariants.{InPlace, Block}

module _ {Place : ℕ} where
  abbrev pub stored_bytes : Stored Place → List ℕ
  stored_bytes (InPlace few) = few
  stored_bytes (Block own) = own.value.items

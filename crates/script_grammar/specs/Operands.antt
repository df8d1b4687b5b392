-- What an operand is seen as: a quoted text, or a term with the place where it begins. Where leaves and items begin.
use Rattle.std.specs.Prelude.{ℕ, List}
use Rattle.script_grammar.specs.declared.tree.LeafDecl.{LeafDecl}
use Rattle.script_grammar.specs.declared.tree.ItemDecl.{ItemDecl}
use Rattle.script_grammar.specs.declared.tree.ItemDecl.TheVariants as i

pub data Operand : Type 0 where
  Fixed : (place : ℕ) (words : List ℕ) → Operand
  Sum : (place : ℕ) (leaves : List LeafDecl) → Operand

abbrev pub operand_place : Operand → ℕ
operand_place (Fixed place words) = place
operand_place (Sum place leaves) = place

abbrev pub leaf_place : LeafDecl → ℕ
leaf_place leaf = leaf.place

abbrev pub item_place : ItemDecl → ℕ
item_place (i.Fixed place words) = place
item_place (i.Named spelt) = spelt.place
item_place (i.Sum place leaves) = place

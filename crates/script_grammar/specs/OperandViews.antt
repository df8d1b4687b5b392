-- What the form of an operand is seen as, and what a reader of one is given.
use Rattle.std.specs.Prelude.{ℕ, false, [], ◌∷◌}
use Rattle.script_grammar.specs.declared.tree.LeafDecl.{LeafDecl}
use Rattle.script_grammar.specs.declared.tree.Part.{Part}
use Rattle.script_grammar.specs.declared.tree.Part.TheVariants as part
use Rattle.script_grammar.specs.declared.operand.Form.{Form}
use Rattle.script_grammar.specs.declared.operand.Form.TheVariants as form
use Rattle.script_grammar.specs.declared.operand.OperandRef.{OperandRef}
use Rattle.script_grammar.specs.declared.operand.OperandRef.TheVariants as seen
use Rattle.script_grammar.specs.Operands.{Operand, Fixed, Sum}

-- a leaf without a sign
abbrev pub plain : ℕ → Part → LeafDecl
plain place part = record { place = place; minus = false; part = part }

abbrev pub form_view : Form → Operand
form_view (form.Fixed place words) = Fixed place words
form_view (form.Number place value) = Sum place (plain place (part.Number value) ∷ [])
form_view (form.Named place name) = Sum place (plain place (part.Named name) ∷ [])
form_view (form.Listed place leaves) = Sum place leaves.value

-- the operand that is read
abbrev pub operand_seen : OperandRef → Operand
operand_seen (seen.Fixed place words) = Fixed place words.now
operand_seen (seen.Number place value) = Sum place (plain place (part.Number value) ∷ [])
operand_seen (seen.Named place name) = Sum place (plain place (part.Named name.now) ∷ [])
operand_seen (seen.Sum place leaves) = Sum place leaves.now

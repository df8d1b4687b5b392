use Rattle.std.proofs.Common.{arith}
use Rattle.script_lint.proofs.AtomLemmas.{only_atom-none}
use Rattle.script_lint.proofs.bounds.only_atom.Goals as goal

pub returns-else-len-eq1 : goal.returns-else-len-eq1
returns-else-len-eq1 c = only_atom-none c.args.conjunct.now.atoms.items (λ e. absurd (grind (arith, e, c.if-len-eq1.false, c.len.ensures)))
